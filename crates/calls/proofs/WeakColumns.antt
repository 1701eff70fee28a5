-- What rule 16 says and what it changed. Code 16 names a weak column with its pivot, which is finite and greater than zero: no NaN and no infinity. A factor
-- that does not answer 16, as where no column is weak, returns and leaves what it did before the rule. Assumes nothing.
use Prim.Native.Nat.{ℕ, zero, suc, ◌<◌}
use native.Mathlib.Omega.{arith}
use mathlib.Core.Path.{◌≡◌, refl, sym, ap, ◌∙◌, subst}
use mathlib.Core.Logic.{◌≢◌}
use mathlib.Core.Bool.{Bool, true, false, cond, not}
use mathlib.Core.List.{List, [], ◌∷◌}
use lib.Dec.{T, eqb}
use lib.Ieee.{Float}
use Rattle.binary64.specs.Kinds.{finite, positive}
use Rattle.binary64.specs.Judged.{judged}
use Rattle.shape.specs.declared.Shape.{Shape}
use Rattle.calls.specs.declared.Verdict.{Verdict}
use Rattle.calls.specs.declared.Layout.{Layout}
use Rattle.calls.specs.Triangles.{Triangle, entry}
use Rattle.calls.specs.Refusals.{accepted, first_refusal, lowest_refusal, rule10, rule11, column_rules, column_verdict}
use Rattle.calls.specs.Calls.{judge_column, columns_verdict, factored, factorize}
use Rattle.calls.proofs.Refusals.{Lowest, lowest_refused}
use Rattle.calls.proofs.ColumnRules.{weak_positive, rules_place, rules_16, rules_without_16}
use Rattle.calls.proofs.Columns.{FiniteMatrix, pivot_finite, columns_finite}
use Rattle.calls.proofs.FactorsBy.{pivot_of, finite_below, weak_column, Rules, column_by, verdict_by, loaded, checks, done_with, factorize_by, factorize_by_lem, factors_related}

-- ---- code 16

-- v names a weak column, with its pivot, and all before it pass
pub record NamesWeak (n : ℕ) (a : Triangle) (v : Verdict) : Type 0 where
  pub at : ℕ
  pub inside : at < n
  pub place : v.place ≡ at
  pub value : v.value ≡ pivot_of n a at
  pub is_weak : T (weak_column n a at)
  pub before : (k : ℕ) → k < at → T (accepted (judge_column n a k))

module _ (n : ℕ) (a : Triangle) (e : (columns_verdict n a).code ≡ 16) where
  pub verdict_16 : NamesWeak n a (columns_verdict n a)
  unfolding columns_verdict column_verdict
  verdict_16 =
      let found : Lowest (judge_column n a) n (columns_verdict n a) = lowest_refused (judge_column n a) n (subst (λ c. T (not (eqb c 0))) (sym e) tt) in
      let j : ℕ = found.at in
      let p : Float = pivot_of n a j in
      let f : Bool = finite_below n a j in
      let code : (column_rules j (entry a j j) p f).code ≡ 16 = ap (λ (r : Verdict). r.code) (sym found.there) ∙ e in
      record {
        at = j;
        inside = found.inside;
        place = ap (λ (r : Verdict). r.place) found.there ∙ rules_place j (entry a j j) p f (ap (λ c. eqb c 0) code);
        value = ap (λ (r : Verdict). r.value) found.there ∙ (rules_16 j (entry a j j) p f code).0;
        is_weak = (rules_16 j (entry a j j) p f code).1;
        before = found.before;
      }

  pub value_16 : FiniteMatrix n a → T (finite (columns_verdict n a).value) × T (positive (columns_verdict n a).value)
  value_16 given =
      let j : ℕ = verdict_16.at in
      let p : Float = pivot_of n a j in
      let above : T (positive p) = weak_positive (entry a j j) p verdict_16.is_weak in
      let low : j < n = verdict_16.inside in
      let under : T (finite p) = pivot_finite n a given j low (columns_finite n a given j (omega (arith, low)) verdict_16.before) above in
      rw verdict_16.value (under, above)

-- ---- the rules without it

abbrev pub without16 : Rules
without16 j entered p finite_below = first_refusal (rule10 j (judged p) ∷ rule11 j finite_below ∷ [])

-- ---- where the answer is not 16

-- columns that are judged alike unless by 16 have the same lowest refusal unless it is 16
lowest_former :
    (judge former : ℕ → Verdict) → ((k : ℕ) → (judge k).code ≢ 16 → judge k ≡ former k) → (n : ℕ) → (lowest_refusal judge n).code ≢ 16 →
    lowest_refusal judge n ≡ lowest_refusal former n
unfolding lowest_refusal
lowest_former judge former each zero other = refl
lowest_former judge former each (suc k) other = go (accepted last) refl other (lowest_former judge former each k)
  where
    last : Verdict
    last = lowest_refusal judge k

    go :
        (b : Bool) → accepted last ≡ b → (cond b (judge k) last).code ≢ 16 → (last.code ≢ 16 → last ≡ lowest_refusal former k) →
        cond b (judge k) last ≡ cond (accepted (lowest_refusal former k)) (former k) (lowest_refusal former k)
    go true e other ih =
        let same : last ≡ lowest_refusal former k = ih (λ h. subst T (sym e ∙ ap (λ c. eqb c 0) h) tt) in
        rw (← same, e) (each k other)
    go false e other ih =
        let same : last ≡ lowest_refusal former k = ih other in
        rw (← same, e) refl

module _ (n : ℕ) (a : Triangle) where
  verdict_former : (columns_verdict n a).code ≢ 16 → columns_verdict n a ≡ verdict_by without16 n a
  unfolding columns_verdict column_verdict
  verdict_former other =
      lowest_former (judge_column n a) (column_by without16 n a) (λ j. rules_without_16 j (entry a j j) (pivot_of n a j) (finite_below n a j)) n other

  -- so it is where no column is weak
  not_16 : ((j : ℕ) → j < n → weak_column n a j ≡ false) → (columns_verdict n a).code ≢ 16
  not_16 none e =
      let named : NamesWeak n a (columns_verdict n a) = verdict_16 n a e in
      subst T (none named.at named.inside) named.is_weak

-- ---- the call, of both layouts

module _ (layout : Layout) (shape : Shape) (matrix work : List Float) where
  abbrev n : ℕ
  n = shape.order

  abbrev a : Triangle
  a = loaded layout shape matrix

  same_call :
      (accepted (checks layout shape matrix work) ≡ true → (columns_verdict n a).code ≢ 16) →
      factorize layout shape matrix work ≡ factorize_by layout shape matrix work without16
  unfolding columns_verdict column_verdict
  same_call other =
      factorize_by_lem layout shape matrix work
      ∙ factors_related layout shape matrix work (λ x y. x ≡ y) column_rules without16 (λ e. ap (done_with layout shape matrix work) (verdict_former n a (other e))) refl

  -- a factor that does not answer 16
  pub as_before : (factorize layout shape matrix work).result.code ≢ 16 → factorize layout shape matrix work ≡ factorize_by layout shape matrix work without16
  unfolding factorize factored
  as_before other = same_call (λ e h. other (rw e h))

  -- and one without a weak column
  pub none_weak : ((j : ℕ) → j < n → weak_column n a j ≡ false) → factorize layout shape matrix work ≡ factorize_by layout shape matrix work without16
  none_weak none = same_call (λ e. not_16 n a none)
