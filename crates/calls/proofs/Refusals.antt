-- Laws of specs/Refusals.antt: when a rule passes, what the lowest refused one says of those before it, how it follows what is judged, and what holds of every
-- answer. Assumes nothing.
use Prim.Native.Nat.{ℕ, zero, suc, ◌<◌}
use native.Mathlib.Omega.{arith}
use native.Mathlib.Decide.{dec_lt}
use mathlib.Core.Path.{◌≡◌, refl, ap₂, subst}
use mathlib.Core.Bool.{Bool, true, false, cond, not}
use mathlib.Core.List.{List, [], ◌∷◌}
use lib.Dec.{T, eqb-suc-zero}
use lib.ListN.{length, get_or}
use lib.Ieee.{Float, nan}
use Rattle.binary64.specs.Kinds.{finite, zero64}
use Rattle.calls.specs.declared.Verdict.{Verdict}
use Rattle.calls.specs.Sequences.{all}
use Rattle.calls.specs.Refusals.{success, accepted, refusal, refuse_if, first_refusal, lowest_refusal, finite_rule}
use Rattle.calls.proofs.Sequences.{all_at}

-- ---- one of two

pub cond_both : {A : Type 0} (P : A → Type 0) (c : Bool) (x y : A) → P x → P y → P (cond c x y)
cond_both P true x y p q = p
cond_both P false x y p q = q

-- ---- one rule

pub not_not : (b : Bool) → T (not (not b)) → T b
not_not true t = tt
not_not false t = t

pub is_not_not : (b : Bool) → T b → T (not (not b))
is_not_not true t = tt
is_not_not false t = t

pub refuse_not : (c : Bool) (r : Verdict) → T (not c) → refuse_if c r ≡ success
refuse_not true r h = absurd h
refuse_not false r h = refl

-- a rule with a code of its own passes only where its condition fails
pub not_refused : (c : Bool) (code place : ℕ) (value : Float) → T (accepted (refuse_if c (refusal (suc code) place value))) → T (not c)
not_refused true code place value h = absurd (subst (λ (b : Bool). T b) (eqb-suc-zero code) h)
not_refused false code place value h = tt

-- ---- the first of a list

pub first_passes : (r : Verdict) (rs : List Verdict) → r ≡ success → first_refusal (r ∷ rs) ≡ first_refusal rs
unfolding first_refusal
first_passes r rs e = rw e refl

pub first_refused : (r : Verdict) (rs : List Verdict) → accepted r ≡ false → first_refusal (r ∷ rs) ≡ r
unfolding first_refusal
first_refused r rs e = rw e refl

pub first_accepted : (r : Verdict) (rs : List Verdict) → T (accepted (first_refusal (r ∷ rs))) → T (accepted r) × T (accepted (first_refusal rs))
unfolding first_refusal
first_accepted r rs h = go (accepted r) refl h
  where
    go : (b : Bool) → accepted r ≡ b → T (accepted (cond b (first_refusal rs) r)) → T (accepted r) × T (accepted (first_refusal rs))
    go true e t = (rw e tt, t)
    go false e t = (t, absurd (rw e at t))

-- ---- the lowest of many

pub lowest_success : (judge : ℕ → Verdict) (n : ℕ) → ((k : ℕ) → k < n → judge k ≡ success) → lowest_refusal judge n ≡ success
unfolding lowest_refusal
lowest_success judge zero h = refl
lowest_success judge (suc k) h = rw (lowest_success judge k (λ i p. h i (omega arith))) (h k (omega arith))

pub lowest_same : (judge judge' : ℕ → Verdict) (n : ℕ) → ((k : ℕ) → k < n → judge k ≡ judge' k) → lowest_refusal judge n ≡ lowest_refusal judge' n
unfolding lowest_refusal
lowest_same judge judge' zero h = refl
lowest_same judge judge' (suc k) h =
    ap₂ (λ (b r : Verdict). cond (accepted b) r b) (lowest_same judge judge' k (λ i p. h i (omega arith))) (h k (omega arith))

pub lowest_accepted : (judge : ℕ → Verdict) (n : ℕ) → T (accepted (lowest_refusal judge n)) → (k : ℕ) → k < n → T (accepted (judge k))
unfolding lowest_refusal
lowest_accepted judge zero t k h = absurd (omega arith)
lowest_accepted judge (suc n) t k h =
    elim (dec_lt k n) [
      | yes p ↦ lowest_accepted judge n both.0 k p
      | no p ↦ let e : k ≡ n = omega arith in rw e both.1
    ]
  where
    go : (b : Bool) → accepted (lowest_refusal judge n) ≡ b → T (accepted (cond b (judge n) (lowest_refusal judge n))) → T (accepted (lowest_refusal judge n)) × T (accepted (judge n))
    go true e s = (rw e tt, s)
    go false e s = (s, absurd (rw e at s))

    both : T (accepted (lowest_refusal judge n)) × T (accepted (judge n))
    both = go (accepted (lowest_refusal judge n)) refl t

-- where each pair is related, by a relation of verdicts that are accepted alike, so are the lowest refusals
pub lowest_related :
    (R : Verdict → Verdict → Type 0) → ((v w : Verdict) → R v w → accepted w ≡ accepted v) → R success success → (judge judge' : ℕ → Verdict) →
    ((k : ℕ) → R (judge k) (judge' k)) → (n : ℕ) → R (lowest_refusal judge n) (lowest_refusal judge' n)
unfolding lowest_refusal
lowest_related R alike start judge judge' each zero = start
lowest_related R alike start judge judge' each (suc k) =
    let before : R last last' = lowest_related R alike start judge judge' each k in
    rw (alike last last' before) (go (accepted last) before)
  where
    last : Verdict
    last = lowest_refusal judge k

    last' : Verdict
    last' = lowest_refusal judge' k

    go : (b : Bool) → R last last' → R (cond b (judge k) last) (cond b (judge' k) last')
    go true r = each k
    go false r = r

-- what is refused is refused at its lowest place, and all before it pass
pub record Lowest (judge : ℕ → Verdict) (n : ℕ) (r : Verdict) : Type 0 where
  pub at : ℕ
  pub inside : at < n
  pub there : r ≡ judge at
  pub before : (k : ℕ) → k < at → T (accepted (judge k))

pub lowest_refused : (judge : ℕ → Verdict) (n : ℕ) → T (not (accepted (lowest_refusal judge n))) → Lowest judge n (lowest_refusal judge n)
unfolding lowest_refusal
lowest_refused judge zero t = absurd t
lowest_refused judge (suc n) t = go (accepted (lowest_refusal judge n)) refl (lowest_refused judge n)
  where
    last : Verdict
    last = lowest_refusal judge n

    go : (b : Bool) → accepted last ≡ b → (T (not (accepted last)) → Lowest judge n last) → Lowest judge (suc n) (cond b (judge n) last)
    go true e ih =
        record { at = n; inside = omega arith; there = refl; before = lowest_accepted judge n (rw e tt) }
    go false e ih =
        let found : Lowest judge n last = ih (rw e tt) in
        record { at = found.at; inside = omega (arith, found.inside); there = found.there; before = found.before }

-- ---- what holds of success and of every refusal of some rules holds of what they answer

module _ (P : Verdict → Type 0) (none : P success) where
  pub refuse_holds : (c : Bool) (r : Verdict) → P r → P (refuse_if c r)
  refuse_holds c r h = cond_both P c r success h none

  pub none_holds : P (first_refusal [])
  unfolding first_refusal
  none_holds = none

  pub first_holds : (r : Verdict) (rs : List Verdict) → P r → P (first_refusal rs) → P (first_refusal (r ∷ rs))
  unfolding first_refusal
  first_holds r rs h t = cond_both P (accepted r) (first_refusal rs) r t h

  pub lowest_holds : (judge : ℕ → Verdict) → ((k : ℕ) → P (judge k)) → (n : ℕ) → P (lowest_refusal judge n)
  unfolding lowest_refusal
  lowest_holds judge each zero = none
  lowest_holds judge each (suc k) = cond_both P (accepted (lowest_refusal judge k)) (judge k) (lowest_refusal judge k) (each k) (lowest_holds judge each k)

-- ---- 7 and 8 on a memory of finite values

pub finite_rule_lem : (code : ℕ) (memory : List Float) → T (all finite memory) → finite_rule code memory ≡ success
unfolding finite_rule
finite_rule_lem code memory h =
    lowest_success (λ p. refuse_if (not (finite (get_or memory p nan))) (refusal code p zero64)) (length memory)
    (λ p q. refuse_not (not (finite (get_or memory p nan))) (refusal code p zero64) (is_not_not (finite (get_or memory p nan)) (all_at finite memory h p nan q)))
