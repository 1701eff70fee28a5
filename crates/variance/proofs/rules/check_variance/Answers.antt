-- `variance::rules::check_variance` meets its contract: the rules are judged in four parts, and the first part that refuses decides. What the later parts
-- require, the rules of the sizes and 14 have settled. Assumes nothing.
use Prim.Native.Nat.{ℕ, ◌<◌}
use native.Mathlib.Omega.{arith}
use mathlib.Core.Path.{◌≡◌, sym, ap, ◌∙◌}
use mathlib.Core.List.{List, [], ◌∷◌, ◌++◌}
use lib.ListN.{length}
use lib.Ieee.{Float}
use Rattle.shape.specs.declared.Shape.{Shape}
use Rattle.calls.specs.declared.Layout.{Layout}
use Rattle.calls.specs.declared.Verdict.{Verdict}
use Rattle.calls.specs.declared.Call.TheVariants.{Variance}
use Rattle.calls.specs.Triangles.{place_of}
use Rattle.calls.specs.Refusals.{success, accepted, first_refusal, rule14, rule7, rule9}
use Rattle.calls.specs.Variances.{columns_from, variance_checks}
use Rattle.calls.proofs.Refusals.{first_passes, first_refused}
use Rattle.calls.proofs.OutcomeLaws.{passed_on, decided, continued}
use Rattle.calls.proofs.Checks.{rule14_passes, size_rules}
use Rattle.calls.proofs.CheckLaws.{rule14_refused, finite_alone, rule9_alone, SizesAccepted, sizes_accepted}
use Rattle.calls.proofs.Variances.{late_rules, solver_blocks}
use Rattle.variance.proofs.rules.check_variance.Goals as goal

-- ---- the parts, of the arguments, and what is left to judge once a part has passed

module _ (layout : Layout) (shape : Shape) (k : ℕ) (matrix : List Float) (work : ℕ) where
  abbrev judgement : Verdict
  judgement = variance_checks layout shape k matrix work

  abbrev sizes : List Verdict
  sizes = size_rules (Variance layout) shape (length matrix) work

  abbrev late : List Verdict
  late = late_rules layout shape k matrix

  abbrev columns : List Float
  columns = columns_from k (place_of layout shape.order shape.block) shape.order matrix

  abbrev values : List Verdict
  values = rule7 columns ∷ []

  abbrev diagonal : List Verdict
  diagonal = rule9 (place_of layout shape.order shape.block) k shape.order matrix ∷ []

  settled : success ≡ first_refusal sizes → SizesAccepted (Variance layout) shape (length matrix) work
  settled e = (sizes_accepted (Variance layout) shape (length matrix) work [] (rw (← e) tt)).0

  -- the parts that have passed: of the sizes, 14, of the values
  past_sizes : success ≡ first_refusal sizes → judgement ≡ first_refusal late
  unfolding variance_checks
  past_sizes e = continued sizes late e

  past_14 : success ≡ first_refusal sizes → k < shape.order → judgement ≡ first_refusal (values ++ diagonal)
  past_14 e inside = past_sizes e ∙ first_passes (rule14 shape.order k) _ (rule14_passes shape.order k inside)

  past_values : success ≡ first_refusal sizes → k < shape.order → success ≡ rule7 columns → judgement ≡ first_refusal diagonal
  past_values e inside v = past_14 e inside ∙ continued values diagonal (v ∙ sym (finite_alone 6 columns))

-- ---- the needs

pub returns-in_err-check_sizes : goal.returns-in_err-check_sizes
unfolding variance_checks
returns-in_err-check_sizes c =
    let a = c.args in
    let x = a.matrix.now in
    rw (passed_on c.from_residual.result _ c.from_residual.ensures.1)
    (decided (sizes a.layout a.shape a.k x a.work) (late a.layout a.shape a.k x a.work) _ c.in_err-check_sizes.ensures)

pub returns-then-k-shape : goal.returns-then-k-shape
returns-then-k-shape c =
    let a = c.args in
    let n = a.shape.order in
    let e = rule14_refused n a.k (omega arith) in
    sym (past_sizes a.layout a.shape a.k a.matrix.now a.work c.in_ok-check_sizes.ensures ∙ first_refused (rule14 n a.k) _ (ap accepted e) ∙ e)

pub check_columns_from-requires : goal.check_columns_from-requires
check_columns_from-requires c =
    let a = c.args in
    let known = settled a.layout a.shape a.k a.matrix.now a.work c.in_ok-check_sizes.ensures in
    record { order_le_max_order = (known.order, omega arith); block_nonzero = known.block_low; matrix_len = known.matrix }

pub returns-in_err-check_columns_from : goal.returns-in_err-check_columns_from
returns-in_err-check_columns_from c =
    let a = c.args in
    let x = a.matrix.now in
    rw (passed_on c.from_residual-in_err-check_columns_from.result _ c.from_residual-in_err-check_columns_from.ensures.1)
    (decided (values a.layout a.shape a.k x a.work) (diagonal a.layout a.shape a.k x a.work) _
    (c.in_err-check_columns_from.ensures ∙ sym (finite_alone 6 (columns a.layout a.shape a.k x a.work)))
    ∙ sym (past_14 a.layout a.shape a.k x a.work c.in_ok-check_sizes.ensures (omega arith)))

pub check_diagonal-requires : goal.check_diagonal-requires
check_diagonal-requires c =
    let a = c.args in
    let known = settled a.layout a.shape a.k a.matrix.now a.work c.in_ok-check_sizes.ensures in
    record {
      order_le_max_order = known.order;
      block_nonzero = λ t. known.block_low (solver_blocks a.layout t);
      k_le_order = omega arith;
      matrix_len = known.matrix;
    }

pub returns : goal.returns
returns c =
    let a = c.args in
    let n = a.shape.order in
    c.check_diagonal.ensures ∙ sym (rule9_alone (place_of a.layout n a.shape.block) a.k n a.matrix.now)
    ∙ sym (past_values a.layout a.shape a.k a.matrix.now a.work c.in_ok-check_sizes.ensures (omega arith) c.in_ok-check_columns_from.ensures)
