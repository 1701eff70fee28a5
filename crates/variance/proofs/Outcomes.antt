-- The right-hand side of a variance call, the answer from its substitutions, and the outcome against the definition. Assumes nothing.
use Prim.Native.Nat.{ℕ, zero, suc, ◌-◌, ◌≤◌, ◌<◌}
use native.Mathlib.Omega.{arith}
use mathlib.Core.Path.{◌≡◌, refl, sym, ap, ◌∙◌}
use mathlib.Core.Bool.{true, false, cond}
use mathlib.Core.List.{List, ◌++◌}
use borrow.Author.Tests.{ne_eqb}
use lib.Dec.{eqb}
use lib.ListN.{length, get_or, take, drop, replicate, set, length-set, length-append, length-take, length-drop, length-replicate, get_or-replicate}
use lib.Seq.{length-take-le, get_or-set_same, get_or-set_other}
use lib.Ieee.{Float, nan}
use Rattle.binary64.specs.Kinds.{zero64, one64}
use Rattle.shape.specs.declared.Shape.{Shape}
use Rattle.std.specs.Prelude.{Ok, Err}
use Rattle.calls.specs.declared.Verdict.{Verdict}
use Rattle.calls.specs.declared.outcomes.Refusal.{Refusal}
use Rattle.calls.specs.declared.outcomes.Refusal.TheVariants.{Solution}
use Rattle.calls.specs.declared.Layout.{Layout}
use Rattle.calls.specs.declared.Call.TheVariants.{Variance}
use Rattle.calls.specs.Triangles.{Triangle}
use Rattle.calls.specs.Refusals.{success, accepted, rule12}
use Rattle.calls.specs.Outcomes.{verdict_of_refusal}
use Rattle.calls.proofs.OutcomeLaws.{not_accepted}
use Rattle.calls.specs.Calls.{result_of, clear}
use Rattle.calls.specs.Variances.{unit_rhs, variance_checks, variance_verdict, EvaluatedAs, variance}
use Rattle.calls.proofs.Sequences.{tabulate_of}
use Rattle.calls.proofs.Variances.{VarianceAccepted, variance_accepted}
use Rattle.solve.specs.Solving.{factor_of, passes, rhs_outcome, Substituted}
use Rattle.solve.proofs.RightSides.{fails, holds}

-- 1 written over the first of n zeros
pub unit_made : (n : ℕ) → 0 < n → set (replicate n zero64) 0 one64 ≡ unit_rhs n 0
unfolding unit_rhs
unit_made n pos =
    sym
    (tabulate_of (λ i. cond (eqb i 0) one64 zero64) n (set (replicate n zero64) 0 one64) nan
    (length-set (replicate n zero64) 0 one64 ∙ length-replicate n zero64) value)
  where
    value : (i : ℕ) → i < n → get_or (set (replicate n zero64) 0 one64) i nan ≡ cond (eqb i 0) one64 zero64
    value zero h = get_or-set_same (replicate n zero64) 0 one64 nan (omega (arith, length-replicate n zero64))
    value (suc i) h =
        get_or-set_other (replicate n zero64) 0 (suc i) one64 nan (λ e. omega arith) ∙ get_or-replicate n (suc i) zero64 nan h
        ∙ sym (ap (λ b. cond b one64 zero64) (ne_eqb (suc i) 0 (λ e. omega arith)))

-- work memory whose first rows are lent and come back
pub returned_length : (n rows : ℕ) (v w : List Float) → length v ≡ length (take rows w) → rows ≤ n → length w ≡ n → length (v ++ drop rows w) ≡ n
returned_length n rows v w e le size = omega (arith, length-append v (drop rows w), length-take rows w, length-drop rows w)

-- the answer, by whether every y and x is finite
module _ (p : ℕ) (l : Triangle) (work' : List Float) where
  pub verdict_refused : (e : Refusal) → Substituted p l 0 (unit_rhs p 0) (Err e) work' → verdict_of_refusal e ≡ variance_verdict p l
  unfolding variance_verdict rule12
  verdict_refused e s =
      let lost : passes p l (unit_rhs p 0) ≡ false = fails (passes p l (unit_rhs p 0)) 0 e s.outcome in
      let same : Err e ≡ rhs_outcome false 0 = s.outcome ∙ ap (λ b. rhs_outcome b 0) lost in
      let is : e ≡ Solution 0 = cc in
      rw (is, lost) refl

  pub verdict_found :
      (u : Unit) → Substituted p l 0 (unit_rhs p 0) (Ok u) work' → record { code = 0; place = 0; value = get_or work' 0 nan } ≡ variance_verdict p l
  unfolding variance_verdict rule12
  verdict_found u s =
      let yes : passes p l (unit_rhs p 0) ≡ true = holds (passes p l (unit_rhs p 0)) 0 u s.outcome in
      rw (yes, s.solved yes) refl

module _ (layout : Layout) (shape : Shape) (k : ℕ) (a w : List Float) where
  abbrev n : ℕ
  n = shape.order

  abbrev b : ℕ
  b = shape.block

  pub checks_refused :
      (e : Refusal) → verdict_of_refusal e ≡ variance_checks layout shape k a (length w) →
      EvaluatedAs (variance layout shape k a w) (result_of (Variance layout) shape (verdict_of_refusal e)) w
  unfolding variance
  checks_refused e is = rw (ap accepted (sym is) ∙ not_accepted e) (record { result = ap (result_of (Variance layout) shape) is; work = refl })

  module _ (passed : success ≡ variance_checks layout shape k a (length w)) where
    pub checks_accepted : VarianceAccepted layout shape k a (length w)
    checks_accepted = variance_accepted layout shape k a (length w) (rw (ap accepted (sym passed)) tt)

    pub part_length : length (take n w) ≡ n
    part_length = length-take-le n w checks_accepted.sizes.work

    pub found :
        (r : Verdict) → r ≡ variance_verdict (n - k) (factor_of layout n b k a) →
        EvaluatedAs (variance layout shape k a w) (result_of (Variance layout) shape r) (replicate n zero64 ++ drop n w)
    unfolding variance clear
    found r f = rw (ap accepted (sym passed)) (record { result = ap (result_of (Variance layout) shape) f; work = refl })
