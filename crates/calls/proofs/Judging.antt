-- Laws of judging one after another: a list of rules in two parts, a search for the lowest refused one, and the columns of a factor. Assumes nothing.
use Prim.Native.Nat.{ℕ, zero, suc, ◌+◌, ◌-◌, ◌≤◌, ◌<◌}
use native.Mathlib.Nat.{add-zero, add-suc}
use native.Mathlib.Numerals.{add-one}
use native.Mathlib.Omega.{arith}
use native.Mathlib.Decide.{dec_lt}
use mathlib.Core.Path.{◌≡◌, refl, sym, ap, ◌∙◌, subst}
use mathlib.Core.Bool.{Bool, true, false, cond, not, ◌&&◌}
use mathlib.Core.List.{List, [], ◌∷◌, ◌++◌}
use borrow.Author.Tests.{not-true, not-false, le-leb, lt-leb, le-ltb, lt-ltb}
use lib.Dec.{T, leb, ltb}
use Rattle.calls.specs.declared.Verdict.{Verdict}
use Rattle.calls.specs.Sequences.{every}
use Rattle.calls.specs.Refusals.{success, accepted, first_refusal, lowest_refusal}
use Rattle.calls.specs.Judgements.{judged_to}
use Rattle.calls.proofs.Refusals.{lowest_accepted, lowest_success}

-- ---- tests

pub not_leb : (a b : ℕ) → not (leb a b) ≡ ltb b a
not_leb a b =
    elim (dec_lt b a) [
      | yes p ↦ rw (lt-leb a b p, lt-ltb b a p)
      | no p ↦ let h : a ≤ b = omega arith in rw (le-leb a b h, le-ltb b a h)
    ]

-- the test `!accepted(r)` of the code
pub refused_of : (a : Bool) (r : Verdict) → a ≡ accepted r → not a ≡ true → accepted r ≡ false
refused_of a r e h = sym e ∙ not-true a h

pub accepted_of : (a : Bool) (r : Verdict) → a ≡ accepted r → not a ≡ false → accepted r ≡ true
accepted_of a r e h = sym e ∙ not-false a h

-- ---- the first of a list, judged in two parts

pub first_append : (rs ss : List Verdict) → first_refusal (rs ++ ss) ≡ cond (accepted (first_refusal rs)) (first_refusal ss) (first_refusal rs)
unfolding first_refusal
first_append [] ss = refl
first_append (r ∷ rs) ss = go (accepted r) refl (first_append rs ss)
  where
    go :
        (b : Bool) → accepted r ≡ b → first_refusal (rs ++ ss) ≡ cond (accepted (first_refusal rs)) (first_refusal ss) (first_refusal rs) →
        cond b (first_refusal (rs ++ ss)) r ≡ cond (accepted (cond b (first_refusal rs) r)) (first_refusal ss) (cond b (first_refusal rs) r)
    go true e ih = ih
    go false e ih = rw e

pub first_success : (rs : List Verdict) → T (accepted (first_refusal rs)) → first_refusal rs ≡ success
unfolding first_refusal
first_success [] h = refl
first_success (r ∷ rs) h = go (accepted r) refl h (first_success rs)
  where
    go :
        (b : Bool) → accepted r ≡ b → T (accepted (cond b (first_refusal rs) r)) → (T (accepted (first_refusal rs)) → first_refusal rs ≡ success) →
        cond b (first_refusal rs) r ≡ success
    go true e t ih = ih t
    go false e t ih = absurd (rw e at t)

-- an accepted list has an accepted first part
pub first_part : (rs ss : List Verdict) → T (accepted (first_refusal (rs ++ ss))) → T (accepted (first_refusal rs))
first_part rs ss h = go (accepted (first_refusal rs)) refl (subst (λ v. T (accepted v)) (first_append rs ss) h)
  where
    go : (b : Bool) → accepted (first_refusal rs) ≡ b → T (accepted (cond b (first_refusal ss) (first_refusal rs))) → T (accepted (first_refusal rs))
    go true e t = rw e tt
    go false e t = t

-- second parts that decide alike where the first accepts
pub first_same :
    (rs ss ss' : List Verdict) → (T (accepted (first_refusal rs)) → first_refusal ss ≡ first_refusal ss') → first_refusal (rs ++ ss) ≡ first_refusal (rs ++ ss')
first_same rs ss ss' same = first_append rs ss ∙ go (accepted (first_refusal rs)) refl ∙ sym (first_append rs ss')
  where
    go : (b : Bool) → accepted (first_refusal rs) ≡ b → cond b (first_refusal ss) (first_refusal rs) ≡ cond b (first_refusal ss') (first_refusal rs)
    go true e = same (rw e tt)
    go false e = refl

module _ (rs ss : List Verdict) (r : Verdict) (e : r ≡ first_refusal rs) where
  -- a refusal of the first part decides
  pub first_decided : accepted r ≡ false → r ≡ first_refusal (rs ++ ss)
  first_decided h = let g : accepted (first_refusal rs) ≡ false = cc in rw (first_append rs ss, g) e

  -- else the second part does
  pub first_continued : accepted r ≡ true → first_refusal (rs ++ ss) ≡ first_refusal ss
  first_continued h = let g : accepted (first_refusal rs) ≡ true = cc in rw (first_append rs ss, g)

-- a rule that stands alone, success where it accepts
pub first_alone : (r : Verdict) → (T (accepted r) → r ≡ success) → first_refusal (r ∷ []) ≡ r
unfolding first_refusal
first_alone r h = go (accepted r) refl
  where
    go : (b : Bool) → accepted r ≡ b → cond b success r ≡ r
    go true e = sym (h (rw e tt))
    go false e = refl

-- ---- the lowest of many, looked for in rising order

module _ (judge : ℕ → Verdict) where
  pub lowest_next : (k : ℕ) → lowest_refusal judge k ≡ success → lowest_refusal judge (k + 1) ≡ judge k
  unfolding lowest_refusal
  lowest_next k e = rw (add-one k) (rw e)

  pub lowest_found : (k n : ℕ) → k < n → lowest_refusal judge k ≡ success → accepted (judge k) ≡ false → lowest_refusal judge n ≡ judge k
  unfolding lowest_refusal
  lowest_found k zero h e r = absurd (omega arith)
  lowest_found k (suc n) h e r =
      elim (dec_lt k n) [
        | yes p ↦ rw (lowest_found k n p e r, r)
        | no p ↦ let g : n ≡ k = omega arith in rw (g, e)
      ]

  pub lowest_all : ((k : ℕ) → T (accepted (judge k)) → judge k ≡ success) → (n : ℕ) → T (accepted (lowest_refusal judge n)) → lowest_refusal judge n ≡ success
  lowest_all s n h = lowest_success judge n (λ k p. s k (lowest_accepted judge n h k p))

  -- what is refused stays refused
  lowest_stays : (k d : ℕ) → accepted (lowest_refusal judge k) ≡ false → lowest_refusal judge (k + d) ≡ lowest_refusal judge k
  unfolding lowest_refusal
  lowest_stays k zero e = rw add-zero
  lowest_stays k (suc d) e = rw (add-suc, lowest_stays k d e, e)

-- ---- what columns are judged to

module _ (judge : ℕ → Verdict) (exact : ℕ → Bool) where
  pub judged_stays : (k n : ℕ) → k ≤ n → accepted (lowest_refusal judge k) ≡ false → judged_to judge exact k ≡ judged_to judge exact n
  judged_stays k n h e =
      let total : k + (n - k) ≡ n = omega arith in
      let same : lowest_refusal judge n ≡ lowest_refusal judge k = rw total at (lowest_stays judge k (n - k) e) in
      rw (same, e) refl

  pub judged_next :
      (k : ℕ) → accepted (lowest_refusal judge k) ≡ true →
      record { verdict = judge k; exact = (accepted (lowest_refusal judge k) && every exact k) && (accepted (judge k) && exact k) } ≡ judged_to judge exact (k + 1)
  unfolding lowest_refusal every
  judged_next k e = rw (add-one k, e) (ap (λ t. record { verdict = judge k; exact = t }) (both (every exact k) (accepted (judge k)) (exact k)))
    where
      both : (a b c : Bool) → a && (b && c) ≡ b && (a && c)
      both a true c = refl
      both true false c = refl
      both false false c = refl
