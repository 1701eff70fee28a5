-- Laws of a column's rules, 10, 16 and 11: what an accepted column says of its pivot and its entries below, and what a refused one says. All go by one
-- table, `outcome`: a rule that is added, or another order, changes that. No other file looks into the rules, but for `rules_present` of WeakFirst, which writes
-- their order out. Assumes nothing.
use Prim.Native.Nat.{ℕ}
use native.Mathlib.Omega.{arith}
use mathlib.Core.Path.{◌≡◌, refl, ◌∙◌, subst}
use mathlib.Core.Logic.{◌≢◌}
use mathlib.Core.Bool.{Bool, true, false, cond, not}
use mathlib.Core.List.{[], ◌∷◌}
use lib.Dec.{T}
use lib.Ieee.{Float}
use lib.Ieee.Bits.{is_true}
use lib.Ieee.Fits.{and_l}
use Rattle.binary64.specs.Kinds.{positive, zero64}
use Rattle.binary64.specs.Root.{root, exact}
use Rattle.binary64.specs.Judged.{judged}
use Rattle.binary64.specs.declared.Pivot.TheVariants.{Root, Refused}
use Rattle.calls.specs.declared.Verdict.{Verdict}
use Rattle.calls.specs.Refusals.{success, accepted, refusal, first_refusal, rule10, rule11, weak, rule16, column_rules}
use Rattle.calls.specs.Calls.{spends}
use Rattle.calls.proofs.Judging.{first_success}

-- ---- a pivot

module _ (x : Float) where
  pub judged_root : (d : Float) (t : Bool) → judged x ≡ Root d t → d ≡ root x
  unfolding judged
  judged_root d t e = go (positive x) e
    where
      go : (b : Bool) → cond b (Root (root x) (exact x)) (Refused x) ≡ Root d t → d ≡ root x
      go true e = cc
      go false e = let z : ◌≡◌ {A = ℕ} 0 1 = cc in absurd (omega arith)

  pub judged_passed : T (positive x) → judged x ≡ Root (root x) (exact x)
  unfolding judged
  judged_passed t = rw (is_true (positive x) t) refl

-- a weak pivot is greater than zero
pub weak_positive : (entered x : Float) → T (weak entered x) → T (positive x)
unfolding weak
weak_positive entered x t = and_l (positive x) _ t

-- ---- a column's rules, by whether its pivot is greater than zero, it is weak, and the entries below are finite

module _ (j : ℕ) (x : Float) where
  outcome : Bool → Bool → Bool → Verdict
  outcome false w f = refusal 10 j x
  outcome true true f = refusal 16 j x
  outcome true false false = refusal 11 j zero64
  outcome true false true = success

  rules_by : (entered : Float) (p w f : Bool) → positive x ≡ p → weak entered x ≡ w → column_rules j entered x f ≡ outcome p w f
  unfolding column_rules first_refusal rule11 rule16 judged outcome
  rules_by entered false w f ep ew = rw ep refl
  rules_by entered true true f ep ew = rw (ep, ew) refl
  rules_by entered true false false ep ew = rw (ep, ew) refl
  rules_by entered true false true ep ew = rw (ep, ew) refl

  place : (p w f : Bool) → accepted (outcome p w f) ≡ false → (outcome p w f).place ≡ j
  unfolding outcome
  place false w f e = refl
  place true true f e = refl
  place true false false e = refl
  place true false true e = absurd (subst T e tt)

  value : (p w : Bool) → accepted (outcome p w true) ≡ false → (outcome p w true).value ≡ x
  unfolding outcome
  value false w e = refl
  value true true e = refl
  value true false e = absurd (subst T e tt)

  below : (p w : Bool) → T (accepted (outcome p w true)) → outcome p w false ≡ rule11 j false
  unfolding outcome rule11
  below false w t = absurd t
  below true true t = absurd t
  below true false t = refl

  not_finite : (p w : Bool) → accepted (outcome p w false) ≡ false
  unfolding outcome
  not_finite false w = refl
  not_finite true true = refl
  not_finite true false = refl

  spent : (p w f : Bool) → accepted (outcome p w f) ≡ false → spends (outcome p w f) ≡ true
  unfolding outcome
  spent false w f e = refl
  spent true true f e = refl
  spent true false false e = refl
  spent true false true e = absurd (subst T e tt)

  passed : (p w f : Bool) → T (accepted (outcome p w f)) → T p × T f
  unfolding outcome
  passed false w f t = absurd t
  passed true true f t = absurd t
  passed true false false t = absurd t
  passed true false true t = (tt, tt)

  code_10 : (p w f : Bool) → (outcome p w f).code ≡ 10 → ((outcome p w f).value ≡ x) × T (not p)
  unfolding outcome
  code_10 false w f q = (refl, tt)
  code_10 true true f q = let z : ◌≡◌ {A = ℕ} 16 10 = q in absurd (omega arith)
  code_10 true false false q = let z : ◌≡◌ {A = ℕ} 11 10 = q in absurd (omega arith)
  code_10 true false true q = let z : ◌≡◌ {A = ℕ} 0 10 = q in absurd (omega arith)

  code_16 : (p w f : Bool) → (outcome p w f).code ≡ 16 → ((outcome p w f).value ≡ x) × T w
  unfolding outcome
  code_16 false w f q = let z : ◌≡◌ {A = ℕ} 10 16 = q in absurd (omega arith)
  code_16 true true f q = (refl, tt)
  code_16 true false false q = let z : ◌≡◌ {A = ℕ} 11 16 = q in absurd (omega arith)
  code_16 true false true q = let z : ◌≡◌ {A = ℕ} 0 16 = q in absurd (omega arith)

  without_16 : (p w f : Bool) → positive x ≡ p → (outcome p w f).code ≢ 16 → outcome p w f ≡ first_refusal (rule10 j (judged x) ∷ rule11 j f ∷ [])
  unfolding outcome first_refusal rule11 judged
  without_16 false w f ep other = rw ep refl
  without_16 true true f ep other = absurd (other refl)
  without_16 true false false ep other = rw ep refl
  without_16 true false true ep other = rw ep refl

-- ---- a column with a(j,j) at entry and its pivot

module _ (j : ℕ) (entered x : Float) where
  abbrev outcome_of : Bool → Verdict
  outcome_of f = outcome j x (positive x) (weak entered x) f

  rules_are : (f : Bool) → column_rules j entered x f ≡ outcome_of f
  rules_are f = rules_by j x entered (positive x) (weak entered x) f refl refl

  pub rules_success : (f : Bool) → T (accepted (column_rules j entered x f)) → column_rules j entered x f ≡ success
  unfolding column_rules
  rules_success f t = first_success _ t

  pub rules_place : (f : Bool) → accepted (column_rules j entered x f) ≡ false → (column_rules j entered x f).place ≡ j
  rules_place f e = rw (rules_are f) (place j x (positive x) (weak entered x) f (rw (rules_are f) at e))

  -- what is refused with finite entries below has the pivot as its value
  pub rules_value : accepted (column_rules j entered x true) ≡ false → (column_rules j entered x true).value ≡ x
  rules_value e = rw (rules_are true) (value j x (positive x) (weak entered x) (rw (rules_are true) at e))

  -- and what is accepted so is refused for its entries below alone
  pub rules_below : T (accepted (column_rules j entered x true)) → column_rules j entered x false ≡ rule11 j false
  rules_below t = rules_are false ∙ below j x (positive x) (weak entered x) (rw (rules_are true) at t)

  -- and nothing is accepted with others
  pub rules_not_finite : accepted (column_rules j entered x false) ≡ false
  rules_not_finite = rw (rules_are false) (not_finite j x (positive x) (weak entered x))

  -- what is refused spends the matrix
  pub rules_spend : (f : Bool) → accepted (column_rules j entered x f) ≡ false → spends (column_rules j entered x f) ≡ true
  rules_spend f e = rw (rules_are f) (spent j x (positive x) (weak entered x) f (rw (rules_are f) at e))

  -- a refused pivot decides, whatever is below it
  pub rules_refused : (v : Float) (f : Bool) → judged x ≡ Refused v → column_rules j entered x f ≡ refusal 10 j v
  unfolding column_rules first_refusal
  rules_refused v f e = rw e refl

  pub rules_accepted : (f : Bool) → T (accepted (column_rules j entered x f)) → T (positive x) × T f
  rules_accepted f t = passed j x (positive x) (weak entered x) f (rw (rules_are f) at t)

  -- code 10 gives the pivot, which is not greater than zero
  pub rules_10 : (f : Bool) → (column_rules j entered x f).code ≡ 10 → ((column_rules j entered x f).value ≡ x) × T (not (positive x))
  rules_10 f e = rw (rules_are f) (code_10 j x (positive x) (weak entered x) f (rw (rules_are f) at e))

  -- code 16 gives the pivot of a weak column
  pub rules_16 : (f : Bool) → (column_rules j entered x f).code ≡ 16 → ((column_rules j entered x f).value ≡ x) × T (weak entered x)
  rules_16 f e = rw (rules_are f) (code_16 j x (positive x) (weak entered x) f (rw (rules_are f) at e))

  -- where 16 does not decide, the others do
  pub rules_without_16 :
      (f : Bool) → (column_rules j entered x f).code ≢ 16 → column_rules j entered x f ≡ first_refusal (rule10 j (judged x) ∷ rule11 j f ∷ [])
  rules_without_16 f other = rules_are f ∙ without_16 j x (positive x) (weak entered x) f refl (rw (rules_are f) at other)
