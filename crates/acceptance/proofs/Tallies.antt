-- Laws of the counts of specs/Counts.antt: one matrix more, and that no count is over the number of matrices. Assumes nothing.
use Prim.Native.Nat.{ℕ, zero, suc, ◌+◌, ◌^◌, ◌≤◌, ◌<◌}
use native.Mathlib.Numerals.{add-one}
use native.Mathlib.Omega.{arith}
use mathlib.Core.Path.{◌≡◌, refl, ap, ◌∙◌}
use mathlib.Core.Bool.{Bool, true, false, cond}
use lib.Dec.{eqb}
use lib.ListN.{length}
use Rattle.calls.specs.Sequences.{passing}
use Rattle.strike.proofs.Selections.{length_pass, length_fail}
use Rattle.acceptance.specs.declared.Run.{Run}
use Rattle.acceptance.specs.declared.Counts.{Counts}
use Rattle.acceptance.specs.Counts.{code_of, tally}
use Rattle.acceptance.specs.Promises.{counts_to, counted}

-- how many pass a test, with one more number
passing_more : (test : ℕ → Bool) (k : ℕ) → length (passing test (suc k)) ≡ length (passing test k) + cond (test k) 1 0
passing_more test k = go (test k) refl
  where
    go : (b : Bool) → test k ≡ b → length (passing test (suc k)) ≡ length (passing test k) + cond b 1 0
    go true e = length_pass test k e
    go false e = length_fail test k e ∙ omega arith

module _ (run : Run) (n : ℕ) where
  pub tally_none : (code : ℕ) → tally run n 0 code ≡ 0
  unfolding tally passing
  tally_none code = refl

  pub tally_more : (t code : ℕ) → tally run n (suc t) code ≡ tally run n t code + cond (eqb (code_of run n t) code) 1 0
  unfolding tally
  tally_more t code = passing_more (λ u. eqb (code_of run n u) code) t

  pub tally_le : (t code : ℕ) → tally run n t code ≤ t
  tally_le zero code = omega (arith, tally_none code)
  tally_le (suc t) code = go (eqb (code_of run n t) code) (tally_more t code) (tally_le t code)
    where
      go : (b : Bool) → tally run n (suc t) code ≡ tally run n t code + cond b 1 0 → tally run n t code ≤ t → tally run n (suc t) code ≤ suc t
      go true e h = omega arith
      go false e h = omega arith

  pub counts_none : (c : Counts) → c.accepted ≡ 0 → c.nonpositive ≡ 0 → c.overflowed ≡ 0 → c.weak ≡ 0 → c ≡ counts_to run n 0
  unfolding tally passing
  counts_none c p q r s = λ i. record { accepted = p i; nonpositive = q i; overflowed = r i; weak = s i }

  -- a turn of the loop that counts
  pub counts_more : (t code : ℕ) (c r : Counts) → c ≡ counts_to run n t → code ≡ code_of run n t → r ≡ counted c code → r ≡ counts_to run n (t + 1)
  counts_more t code c r e f g =
      g ∙ ap (λ x. counted x code) e ∙ ap (counted (counts_to run n t)) f
      ∙ rw (add-one t, tally_more t 0, tally_more t 10, tally_more t 11, tally_more t 16) refl

  pub counts_below :
      (t : ℕ) (c : Counts) → t < 2 ^ 32 → c ≡ counts_to run n t →
      (c.accepted < 2 ^ 32) × (c.nonpositive < 2 ^ 32) × (c.overflowed < 2 ^ 32) × (c.weak < 2 ^ 32)
  counts_below t c h e =
      rw e
      (omega (arith, tally_le t 0), omega (arith, tally_le t 10), omega (arith, tally_le t 11), omega (arith, tally_le t 16))
