-- Integer roots: `IntegerRoot n q t` says that q is the square root of n, rounded down, and t what its square leaves. Every n has one; the digits of one
-- are found one by one; and an even n's is rounded to the nearest even number with no tie. Assumes nothing.
use mathlib.Core.Path.{◌≡◌, refl, sym, ap, ◌∙◌, subst}
use mathlib.Core.Logic.{inl, inr}
use Prim.Native.Nat.{ℕ, zero, suc, ◌+◌, ◌-◌, ◌*◌, ◌/◌, ◌%◌, ◌^◌, ◌≤◌, ◌<◌}
use native.Mathlib.Nat.{le_of_suc-le-suc, lt_of_lt_of_le, lt_of_not-le, mul_assoc, mul-le-mul, eq-or-lt_of_le, eq-zero-or-pos, pow-suc, pow-succ'}
use native.Mathlib.Numerals.{add-one}
use native.Mathlib.Decide.{dec_le}
use native.Mathlib.Omega.{arith}
use lib.Dec.{lit<}
use lib.Pow.{pow_mono}
use Rattle.binary64.specs.RootSteps.{IntegerRoot}

pub integer_root : (n : ℕ) → (q : ℕ) × (t : ℕ) × IntegerRoot n q t
integer_root zero = (0, 0, record { sum = refl; least = omega arith })
integer_root (suc n) = go (integer_root n)
  where
    go : ((q : ℕ) × (t : ℕ) × IntegerRoot n q t) → (q : ℕ) × (t : ℕ) × IntegerRoot (suc n) q t
    go (q, t, w) = elim (eq-or-lt_of_le w.least) [
      | inl e ↦ (q + 1, 0, record { sum = omega (arith, w.sum); least = omega arith })
      | inr l ↦ (q, t + 1, record { sum = omega (arith, w.sum); least = omega arith })
    ]

-- ---- digit by digit: i digits of the root of s * 2 ^ 54 are found, rest is what of s is still to be brought down

pub record Digits (s i rest q t : ℕ) : Type 0 where
  pub sum : (q * q + t) * 2 ^ 54 + rest ≡ s * 4 ^ i
  pub least : t ≤ 2 * q
  pub root_lt : q < 2 ^ i
  pub rest_lt : rest < 2 ^ 54

four : (s i : ℕ) → s * 4 ^ (i + 1) ≡ s * 4 ^ i * 4
four s i = ap (λ (y : ℕ). s * 4 ^ y) (add-one i) ∙ ap (λ (y : ℕ). s * y) (pow-suc 4 i) ∙ sym (mul_assoc s (4 ^ i) 4)

two : (i : ℕ) → 2 ^ (i + 1) ≡ 2 * 2 ^ i
two i = ap (λ (y : ℕ). 2 ^ y) (add-one i) ∙ pow-succ' 2 i

pub digit_zero : (s i rest q t : ℕ) → Digits s i rest q t → 4 * t + rest / 2 ^ 52 ≤ 2 * (2 * q)
    → Digits s (i + 1) (rest % 2 ^ 52 * 4) (2 * q) (4 * t + rest / 2 ^ 52)
digit_zero s i rest q t d h =
    record {
      sum = omega (arith, d.sum, four s i);
      least = h;
      root_lt = omega (arith, d.root_lt, two i);
      rest_lt = omega arith;
    }

pub digit_one : (s i rest q t : ℕ) → Digits s i rest q t → 2 * (2 * q) < 4 * t + rest / 2 ^ 52
    → Digits s (i + 1) (rest % 2 ^ 52 * 4) (2 * q + 1) (4 * t + rest / 2 ^ 52 - (2 * (2 * q) + 1))
digit_one s i rest q t d h =
    let square : (2 * q + 1) * (2 * q + 1) ≡ 4 * (q * q) + 4 * q + 1 = omega arith in
    record {
      sum = omega (arith, d.sum, four s i);
      least = omega (arith, d.least, d.rest_lt);
      root_lt = omega (arith, d.root_lt, two i);
      rest_lt = omega arith;
    }

pub digits_none : (s : ℕ) → s < 2 ^ 54 → Digits s 0 s 0 0
digits_none s h = record { sum = omega arith; least = omega arith; root_lt = lit< tt; rest_lt = h }

pub digits_all : (s rest q t : ℕ) → Digits s 54 rest q t → IntegerRoot (s * 2 ^ 54) q t
digits_all s rest q t d = record { sum = omega (arith, d.sum, d.rest_lt); least = d.least }

pub digits_lt : (s i rest q t : ℕ) → i < 54 → Digits s i rest q t → q < 2 ^ 53
digits_lt s i rest q t h d = lt_of_lt_of_le d.root_lt (pow_mono (le_of_suc-le-suc h))

-- ---- rounding: 2 * half_up q is the even number nearest to the root of an even n

abbrev pub half_up : ℕ → ℕ
half_up q = (q + 1) / 2

below_even : (a q n t : ℕ) → q ≡ a + 1 → q * q + t ≡ n → a * a < n
below_even a q n t e s = let g : a + 1 ≤ q = omega arith in omega (arith, mul-le-mul g g)

below_odd : (b q n t m : ℕ) → q ≡ 2 * b + 1 → q * q + t ≡ n → n ≡ 2 * m → q * q < n
below_odd b q n t m e s h = let square : q * q ≡ (2 * b + 1) * (2 * b + 1) = ap (λ (x : ℕ). x * x) e in omega arith

module _ (n q t : ℕ) (w : IntegerRoot n q t) where
  square_le : q * q ≤ n
  square_le = omega (arith, w.sum)

  square_gt : n < (q + 1) * (q + 1)
  square_gt = omega (arith, w.sum, w.least)

  pub root_ge : (b : ℕ) → b * b ≤ n → b ≤ q
  root_ge b h = elim (dec_le b q) [
    | yes g ↦ g
    | no n ↦ (let up : q + 1 ≤ b = omega arith in absurd (omega (arith, mul-le-mul up up, square_gt)))
  ]

  pub root_lt : (b : ℕ) → n < b * b → q < b
  root_lt b h = elim (dec_le b q) [
    | yes g ↦ absurd (omega (arith, mul-le-mul g g, square_le))
    | no n ↦ lt_of_not-le n
  ]

  pub rounded_above : n < (2 * half_up q + 1) * (2 * half_up q + 1)
  rounded_above =
      let r : ℕ = half_up q in
      let up : q + 1 ≤ 2 * r + 1 = omega arith in
      omega (arith, mul-le-mul up up, square_gt)

  pub rounded_below : (m : ℕ) → n ≡ 2 * m → 0 < q → (2 * half_up q - 1) * (2 * half_up q - 1) < n
  rounded_below m even h = elim (eq-zero-or-pos (q % 2)) [
    | inl e ↦ below_even (2 * half_up q - 1) q n t (omega arith) w.sum
    | inr o ↦
        let same : 2 * half_up q - 1 ≡ q = omega arith in
        subst (λ (x : ℕ). x * x < n) (sym same) (below_odd (q / 2) q n t m (omega arith) w.sum even)
  ]

  -- the rounded root is exact where nothing is left
  pub exact_of_zero : (m : ℕ) → n ≡ 2 * m → t ≡ 0 → 2 * half_up q * (2 * half_up q) ≡ n
  exact_of_zero m even z = elim (eq-zero-or-pos (q % 2)) [
    | inl e ↦
        let same : 2 * half_up q ≡ q = omega arith in
        ap (λ (x : ℕ). x * x) same ∙ omega (arith, w.sum)
    | inr o ↦ absurd (omega (arith, w.sum, below_odd (q / 2) q n t m (omega arith) w.sum even))
  ]

  pub zero_of_exact : 2 * half_up q * (2 * half_up q) ≡ n → t ≡ 0
  zero_of_exact e = elim (eq-zero-or-pos (q % 2)) [
    | inl f ↦
        let same : 2 * half_up q ≡ q = omega arith in
        let square : q * q ≡ n = ap (λ (x : ℕ). x * x) (sym same) ∙ e in
        omega (arith, w.sum)
    | inr o ↦
        let same : 2 * half_up q ≡ q + 1 = omega arith in
        let square : (q + 1) * (q + 1) ≡ n = ap (λ (x : ℕ). x * x) (sym same) ∙ e in
        absurd (omega (arith, square_gt))
  ]
