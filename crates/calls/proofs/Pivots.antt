-- Which values code 10 can give: a finite value that is not greater than zero, or −infinity where a product overflowed. No NaN, and no +infinity.
-- Assumes nothing.
use Prim.Native.Nat.{ℕ}
use native.Mathlib.Omega.{arith}
use mathlib.Core.Path.{◌≡◌, sym, ap, ◌∙◌, subst}
use mathlib.Core.Logic.{◌⊎◌}
use mathlib.Core.Bool.{true, not}
use lib.Dec.{T, eqb}
use lib.Ieee.{Float, inf, binary64, fits}
use Rattle.binary64.specs.Kinds.{finite, positive}
use Rattle.binary64.proofs.Differences.{below_infinity, below_cases}
use Rattle.calls.specs.declared.Verdict.{Verdict}
use Rattle.calls.specs.Sequences.{all}
use Rattle.calls.specs.Triangles.{Triangle, entry, height}
use Rattle.calls.specs.Arithmetic.{pivot, below}
use Rattle.calls.specs.Refusals.{column_verdict}
use Rattle.calls.specs.Calls.{judge_column, columns_verdict}
use Rattle.calls.proofs.Refusals.{Lowest, lowest_refused}
use Rattle.calls.proofs.ColumnRules.{rules_10}
use Rattle.calls.proofs.Columns.{columns, FiniteMatrix, pivot_below, columns_finite}

pub record RefusedPivot (v : Float) : Type 0 where
  pub value : T (finite v) ⊎ (v ≡ inf true)
  pub not_positive : T (not (positive v))

pub verdict_10 : (n : ℕ) (a : Triangle) → FiniteMatrix n a → (columns_verdict n a).code ≡ 10 → RefusedPivot (columns_verdict n a).value
unfolding columns_verdict column_verdict
verdict_10 n a given e =
    let judge : ℕ → Verdict = judge_column n a in
    let found : Lowest judge n (columns_verdict n a) = lowest_refused judge n (subst (λ c. T (not (eqb c 0))) (sym e) tt) in
    let j : ℕ = found.at in
    let here : ((judge j).value ≡ pivot a (columns n a j) j) × T (not (positive (pivot a (columns n a j) j))) =
    rules_10 j (entry a j j) (pivot a (columns n a j) j) (all finite (below (height n) a j (columns n a j))) (ap (λ (r : Verdict). r.code) (sym found.there) ∙ e)
    in
    let is : (columns_verdict n a).value ≡ pivot a (columns n a j) j = ap (λ (r : Verdict). r.value) found.there ∙ here.0 in
    let under : T (fits binary64 (pivot a (columns n a j) j)) × T (below_infinity (pivot a (columns n a j) j)) =
    pivot_below n a given j found.inside (columns_finite n a given j (omega (arith, found.inside)) found.before)
    in
    subst RefusedPivot (sym is) (record { value = below_cases (pivot a (columns n a j) j) under.0 under.1; not_positive = here.1 })
