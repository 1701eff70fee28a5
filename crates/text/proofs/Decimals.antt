-- Laws of specs/Decimals.antt: the digits of a number from the last up, and the lengths of numbers. Assumes nothing.
use Prim.Native.Nat.{ℕ, zero, suc, ◌+◌, ◌/◌, ◌%◌, ◌^◌, ◌≤◌, ◌<◌}
use native.Mathlib.Nat.{pow-suc}
use native.Mathlib.Omega.{arith}
use mathlib.Core.Path.{◌≡◌, sym, ap, ◌∙◌}
use mathlib.Core.Bool.{Bool, true, false, cond}
use mathlib.Core.List.{List, [], ◌∷◌, ◌++◌}
use lib.Dec.{ltb}
use lib.ListN.{length, length-append}
use borrow.Author.Tests.{lt-ltb, le-ltb}
use Rattle.text.specs.Decimals.{digits, decimal}

-- ---- decimal digits

digits_one : (k n : ℕ) → n < 10 → digits (suc k) n ≡ (48 + n) ∷ []
unfolding digits
digits_one k n h = rw (lt-ltb n 10 h)

digits_more : (k n : ℕ) → 10 ≤ n → digits (suc k) n ≡ digits k (n / 10) ++ ((48 + n % 10) ∷ [])
unfolding digits
digits_more k n h = rw (le-ltb n 10 h)

-- a number of at most k digits has the same ones where one more is allowed
digits_enough : (k n : ℕ) → 0 < k → n < 10 ^ k → digits (suc k) n ≡ digits k n
unfolding digits
digits_enough zero n p h = absurd (omega arith)
digits_enough (suc zero) n p h = rw (lt-ltb n 10 h)
digits_enough (suc (suc k)) n p h =
    ap (λ (d : List ℕ). cond (ltb n 10) ((48 + n) ∷ []) (d ++ ((48 + n % 10) ∷ []))) (digits_enough (suc k) (n / 10) (omega arith) (omega (arith, pow-suc 10 (suc k))))

pub decimal_digit : (n : ℕ) → n < 10 → decimal n ≡ (48 + n % 10) ∷ []
unfolding decimal
decimal_digit n h = let e : n ≡ n % 10 = omega arith in digits_one 19 n h ∙ ap (λ (d : ℕ). (48 + d) ∷ []) e

pub length_digit : (n : ℕ) → n < 10 → length (decimal n) ≡ 1
length_digit n h = ap length (decimal_digit n h)

pub decimal_step : (n : ℕ) → 10 ≤ n → n < 2 ^ 64 → decimal n ≡ decimal (n / 10) ++ ((48 + n % 10) ∷ [])
unfolding decimal
decimal_step n h l =
    digits_more 19 n h ∙ ap (λ (d : List ℕ). d ++ ((48 + n % 10) ∷ [])) (sym (digits_enough 19 (n / 10) (omega arith) (omega arith)))

pub length_step : (n : ℕ) → 10 ≤ n → n < 2 ^ 64 → length (decimal n) ≡ length (decimal (n / 10)) + 1
length_step n h l = ap length (decimal_step n h l) ∙ length-append (decimal (n / 10)) ((48 + n % 10) ∷ [])

-- a number and the byte that ends it
abbrev pub number_text : ℕ → ℕ → List ℕ
number_text n end = decimal n ++ (end ∷ [])

-- ---- lengths

length_digits : (k n : ℕ) → length (digits k n) ≤ k
unfolding digits
length_digits zero n = omega arith
length_digits (suc k) n = go (ltb n 10) (length_digits k (n / 10))
  where
    go : (b : Bool) → length (digits k (n / 10)) ≤ k → length (cond b ((48 + n) ∷ []) (digits k (n / 10) ++ ((48 + n % 10) ∷ []))) ≤ suc k
    go true h = omega arith
    go false h = omega (arith, length-append (digits k (n / 10)) ((48 + n % 10) ∷ []))

pub length_decimal : (n : ℕ) → length (decimal n) ≤ 20
unfolding decimal
length_decimal n = length_digits 20 n

digits_below : (j k n : ℕ) → 0 < k → n < 10 ^ k → length (digits j n) ≤ k
unfolding digits
digits_below zero k n p h = omega arith
digits_below (suc j) zero n p h = absurd (omega arith)
digits_below (suc j) (suc zero) n p h = rw (lt-ltb n 10 h) (omega arith)
digits_below (suc j) (suc (suc k)) n p h = go (ltb n 10) (λ e. digits_below j (suc k) (n / 10) (omega arith) (omega (arith, pow-suc 10 (suc k))))
  where
    go : (b : Bool) → (Unit {0} → length (digits j (n / 10)) ≤ suc k) → length (cond b ((48 + n) ∷ []) (digits j (n / 10) ++ ((48 + n % 10) ∷ []))) ≤ suc (suc k)
    go true f = omega arith
    go false f = omega (arith, f tt, length-append (digits j (n / 10)) ((48 + n % 10) ∷ []))

pub decimal_below : (k n : ℕ) → 0 < k → n < 10 ^ k → length (decimal n) ≤ k
unfolding decimal
decimal_below k n p h = digits_below 20 k n p h

pub length_number : (n end : ℕ) → length (number_text n end) ≡ length (decimal n) + 1
length_number n end = length-append (decimal n) (end ∷ [])
