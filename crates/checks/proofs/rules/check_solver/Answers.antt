-- `checks::rules::check_solver` meets its contract: the rules are judged in five parts, and the first part that refuses decides. What the later parts
-- require, the rules of the sizes have settled. Assumes nothing.
use Prim.Native.Nat.{ℕ}
use native.Mathlib.Omega.{arith}
use mathlib.Core.Path.{◌≡◌, sym, ◌∙◌}
use mathlib.Core.List.{List, [], ◌∷◌, ◌++◌}
use lib.ListN.{length}
use lib.Ieee.{Float}
use Rattle.shape.specs.declared.Shape.{Shape}
use Rattle.calls.specs.declared.Layout.{Layout}
use Rattle.calls.specs.declared.Verdict.{Verdict}
use Rattle.calls.specs.declared.Call.TheVariants.{Solver}
use Rattle.calls.specs.Triangles.{place_of}
use Rattle.calls.specs.Refusals.{success, first_refusal, finite_rule, rule5, rule6, rule7, rule8, rule9}
use Rattle.calls.specs.Calls.{solver_checks}
use Rattle.calls.proofs.OutcomeLaws.{passed_on, decided, continued}
use Rattle.calls.proofs.Checks.{size_rules}
use Rattle.calls.proofs.CheckLaws.{finite_alone, rule9_alone, SizesAccepted, sizes_accepted}
use Rattle.checks.proofs.rules.check_solver.Goals as goal

-- ---- the parts, of the arguments, and what is left to judge once a part has passed

module _ (layout : Layout) (shape : Shape) (m : ℕ) (matrix rhs : List Float) (work : ℕ) where
  abbrev judgement : Verdict
  judgement = solver_checks layout shape m matrix rhs work

  abbrev sizes : List Verdict
  sizes = size_rules (Solver layout) shape (length matrix) work

  abbrev rhs_sizes : List Verdict
  rhs_sizes = rule5 m ∷ rule6 shape.order m (length rhs) ∷ []

  abbrev matrix_values : List Verdict
  matrix_values = rule7 matrix ∷ []

  abbrev rhs_values : List Verdict
  rhs_values = rule8 rhs ∷ []

  abbrev diagonal : List Verdict
  diagonal = rule9 (place_of layout shape.order shape.block) 0 shape.order matrix ∷ []

  settled : success ≡ first_refusal sizes → SizesAccepted (Solver layout) shape (length matrix) work
  settled e = (sizes_accepted (Solver layout) shape (length matrix) work [] (rw (← e) tt)).0

  -- the parts that have passed: of the sizes, of the right-hand sides' sizes, of the matrix, of the right-hand sides
  past_sizes : success ≡ first_refusal sizes → judgement ≡ first_refusal (rhs_sizes ++ matrix_values ++ rhs_values ++ diagonal)
  unfolding solver_checks
  past_sizes e = continued sizes (rhs_sizes ++ matrix_values ++ rhs_values ++ diagonal) e

  past_rhs_sizes : success ≡ first_refusal sizes → success ≡ first_refusal rhs_sizes → judgement ≡ first_refusal (matrix_values ++ rhs_values ++ diagonal)
  past_rhs_sizes s e = past_sizes s ∙ continued rhs_sizes (matrix_values ++ rhs_values ++ diagonal) e

  past_matrix_values :
      success ≡ first_refusal sizes → success ≡ first_refusal rhs_sizes → success ≡ finite_rule 7 matrix → judgement ≡ first_refusal (rhs_values ++ diagonal)
  past_matrix_values s r e = past_rhs_sizes s r ∙ continued matrix_values (rhs_values ++ diagonal) (e ∙ sym (finite_alone 6 matrix))

  past_rhs_values :
      success ≡ first_refusal sizes → success ≡ first_refusal rhs_sizes → success ≡ finite_rule 7 matrix → success ≡ finite_rule 8 rhs →
      judgement ≡ first_refusal diagonal
  past_rhs_values s r v e = past_matrix_values s r v ∙ continued rhs_values diagonal (e ∙ sym (finite_alone 7 rhs))

-- ---- the goals

pub returns-in_err-check_sizes : goal.returns-in_err-check_sizes
unfolding solver_checks
returns-in_err-check_sizes c =
    let a = c.args in
    let x = a.matrix.now in
    let y = a.rhs.now in
    rw (passed_on c.from_residual.result _ c.from_residual.ensures.1)
    (decided (sizes a.layout a.shape a.m x y a.work) (rhs_sizes a.layout a.shape a.m x y a.work ++ matrix_values a.layout a.shape a.m x y a.work ++ rhs_values a.layout a.shape a.m x y a.work ++ diagonal a.layout a.shape a.m x y a.work) _ c.in_err-check_sizes.ensures)

pub check_rhs-requires : goal.check_rhs-requires
check_rhs-requires c = let a = c.args in (settled a.layout a.shape a.m a.matrix.now a.rhs.now a.work c.in_ok-check_sizes.ensures).order

pub returns-in_err-check_rhs : goal.returns-in_err-check_rhs
returns-in_err-check_rhs c =
    let a = c.args in
    let x = a.matrix.now in
    let y = a.rhs.now in
    rw (passed_on c.from_residual-in_err-check_rhs.result _ c.from_residual-in_err-check_rhs.ensures.1)
    (decided (rhs_sizes a.layout a.shape a.m x y a.work) (matrix_values a.layout a.shape a.m x y a.work ++ rhs_values a.layout a.shape a.m x y a.work ++ diagonal a.layout a.shape a.m x y a.work) _ c.in_err-check_rhs.ensures
    ∙ sym (past_sizes a.layout a.shape a.m x y a.work c.in_ok-check_sizes.ensures))

pub returns-in_err-check_finite : goal.returns-in_err-check_finite
returns-in_err-check_finite c =
    let a = c.args in
    let x = a.matrix.now in
    let y = a.rhs.now in
    rw (passed_on c.from_residual-in_err-check_finite.result _ c.from_residual-in_err-check_finite.ensures.1)
    (decided (matrix_values a.layout a.shape a.m x y a.work) (rhs_values a.layout a.shape a.m x y a.work ++ diagonal a.layout a.shape a.m x y a.work) _ (c.in_err-check_finite.ensures ∙ sym (finite_alone 6 x))
    ∙ sym (past_rhs_sizes a.layout a.shape a.m x y a.work c.in_ok-check_sizes.ensures c.in_ok-check_rhs.ensures))

pub returns-in_err-check_finite-2 : goal.returns-in_err-check_finite-2
returns-in_err-check_finite-2 c =
    let a = c.args in
    let x = a.matrix.now in
    let y = a.rhs.now in
    rw (passed_on c.from_residual-in_err-check_finite-2.result _ c.from_residual-in_err-check_finite-2.ensures.1)
    (decided (rhs_values a.layout a.shape a.m x y a.work) (diagonal a.layout a.shape a.m x y a.work) _ (c.in_err-check_finite-2.ensures ∙ sym (finite_alone 7 y))
    ∙ sym (past_matrix_values a.layout a.shape a.m x y a.work c.in_ok-check_sizes.ensures c.in_ok-check_rhs.ensures c.in_ok-check_finite.ensures))

pub check_diagonal-requires : goal.check_diagonal-requires
check_diagonal-requires c =
    let a = c.args in
    let known = settled a.layout a.shape a.m a.matrix.now a.rhs.now a.work c.in_ok-check_sizes.ensures in
    record { order_le_max_order = known.order; block_nonzero = known.block_low; k_le_order = omega arith; matrix_len = known.matrix }

pub returns : goal.returns
returns c =
    let a = c.args in
    let n = a.shape.order in
    c.check_diagonal.ensures
    ∙ sym (rule9_alone (place_of a.layout n a.shape.block) 0 n a.matrix.now)
    ∙ sym (past_rhs_values a.layout a.shape a.m a.matrix.now a.rhs.now a.work c.in_ok-check_sizes.ensures c.in_ok-check_rhs.ensures c.in_ok-check_finite.ensures c.in_ok-check_finite-2.ensures)
