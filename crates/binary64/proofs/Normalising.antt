-- The value of a positive finite pattern, on the scale of `scaled`, with a significand of 53 digits: of a normal one by its fields, of a subnormal
-- one by its leading zeros. Assumes nothing.
use mathlib.Core.Path.{◌≡◌, refl, sym, ap, ◌∙◌, subst}
use mathlib.Core.Logic.{inl, inr}
use Prim.Native.Nat.{ℕ, zero, suc, ◌+◌, ◌-◌, ◌*◌, ◌/◌, ◌%◌, ◌^◌, ◌≤◌, ◌<◌}
use native.Mathlib.Nat.{le_trans, le_of_eq, lt_of_lt_of_le, lt_of_not-le, mul_assoc, mul-le-mul_right, mod-lt, add_comm}
use native.Mathlib.Omega.{arith}
use lib.Dec.{lit≤}
use lib.Pow.{pow_pos, pow_mono, pow-add, shl_lt, split}
use lib.Count.{count_leading_zeros, leading_top}
use Rattle.binary64.specs.declared.kinds.Kind.TheVariants.{Subnormal, Normal}
use Rattle.binary64.specs.Kinds.{exponent_field, fraction, kind_of_bits}
use Rattle.binary64.specs.Root.{magnitude, scaled}
use Rattle.binary64.specs.RootSteps.{PositiveFinite, Normalised}
use Rattle.binary64.proofs.KindLaws.{subnormal_fields, normal_fields}
use Rattle.binary64.proofs.Magnitudes.{magnitude_subnormal, magnitude_normal}

scaled_is : (p : ℕ) → scaled p ≡ magnitude p * 2 ^ 1076
unfolding scaled
scaled_is p = refl

-- ---- normal

normal_value : (k f : ℕ) → f < 2 ^ 52 → k < 2047 → scaled (suc k * 2 ^ 52 + f) ≡ (2 ^ 52 + f) * 2 ^ (k + 1076)
normal_value k f h b =
    scaled_is (suc k * 2 ^ 52 + f)
    ∙ ap (λ (x : ℕ). x * 2 ^ 1076) (magnitude_normal k f h b)
    ∙ mul_assoc (2 ^ 52 + f) (2 ^ k) (2 ^ 1076)
    ∙ ap (λ (x : ℕ). (2 ^ 52 + f) * x) (sym (pow-add 2 k 1076))

pub normalised_normal : (p : ℕ) → p < 2047 * 2 ^ 52 → ¬ (p / 2 ^ 52 ≡ 0) → Normalised p (p % 2 ^ 52 + 2 ^ 52) (p / 2 ^ 52 + 1075)
normalised_normal p h = go (p / 2 ^ 52) (split p 52) (mod-lt p (pow_pos 52))
  where
    go : (field : ℕ) → field * 2 ^ 52 + p % 2 ^ 52 ≡ p → p % 2 ^ 52 < 2 ^ 52 → ¬ (field ≡ 0) → Normalised p (p % 2 ^ 52 + 2 ^ 52) (field + 1075)
    go zero e l n = absurd (n refl)
    go (suc k) e l n =
        let exponent : k + 1076 ≡ suc k + 1075 = omega arith in
        record {
          significand_ge = omega arith;
          significand_lt = omega arith;
          exponent_ge = omega arith;
          exponent_le = omega arith;
          value =
              ap scaled (sym e)
              ∙ normal_value k (p % 2 ^ 52) l (omega arith)
              ∙ ap (λ (x : ℕ). x * 2 ^ (k + 1076)) (add_comm (2 ^ 52) (p % 2 ^ 52))
              ∙ ap (λ (x : ℕ). (p % 2 ^ 52 + 2 ^ 52) * 2 ^ x) exponent;
        }

-- ---- subnormal

-- the shift that brings p to 53 digits
abbrev pub shift : ℕ → ℕ
shift p = count_leading_zeros 64 p - 11

-- where the highest digit of p is
record Highest (p : ℕ) : Type 0 where
  place : ℕ
  zeros : count_leading_zeros 64 p + suc place ≡ 64
  ge : 2 ^ place ≤ p
  lt : p < 2 ^ suc place
  below : place < 52

highest : (p : ℕ) → 0 < p → p < 2 ^ 52 → Highest p
highest p g h =
    let (j, zeros, lo, hi) = leading_top 64 p g (lt_of_lt_of_le h (lit≤ tt)) in
    record {
      place = j;
      zeros = zeros;
      ge = lo;
      lt = hi;
      below = lt_of_not-le (λ (l : 52 ≤ j). (let up : 2 ^ 52 ≤ 2 ^ j = pow_mono l in omega arith));
    }

pub zeros_range : (p : ℕ) → 0 < p → p < 2 ^ 52 → (12 ≤ count_leading_zeros 64 p) × (count_leading_zeros 64 p ≤ 63)
zeros_range p g h = let d = highest p g h in omega (arith, d.zeros, d.below)

pub normalised_subnormal : (p : ℕ) → 0 < p → p < 2 ^ 52 → Normalised p (p * 2 ^ shift p) (1076 - shift p)
normalised_subnormal p g h =
    let d = highest p g h in
    let at : d.place + shift p ≡ 52 = omega (arith, d.zeros, d.below) in
    let next : suc d.place + shift p ≡ 53 = omega (arith, d.zeros, d.below) in
    let total : shift p + (1076 - shift p) ≡ 1076 = omega arith in
    record {
      significand_ge =
          le_trans (le_of_eq (ap (λ (x : ℕ). 2 ^ x) (sym at) ∙ pow-add 2 d.place (shift p))) (mul-le-mul_right (2 ^ shift p) d.ge);
      significand_lt = subst (λ (x : ℕ). p * 2 ^ shift p < 2 ^ x) next (shl_lt (suc d.place) (shift p) d.lt);
      exponent_ge = omega arith;
      exponent_le = omega arith;
      value =
          scaled_is p
          ∙ ap (λ (x : ℕ). x * 2 ^ 1076) (magnitude_subnormal p h)
          ∙ ap (λ (x : ℕ). p * 2 ^ x) (sym total)
          ∙ ap (λ (x : ℕ). p * x) (pow-add 2 (shift p) (1076 - shift p))
          ∙ sym (mul_assoc p (2 ^ shift p) (2 ^ (1076 - shift p)));
    }

-- ---- the patterns of a positive finite value, by kind

pub subnormal_range : (p : ℕ) → p < 2 ^ 63 → kind_of_bits p ≡ Subnormal → (0 < p) × (p < 2 ^ 52)
unfolding exponent_field fraction
subnormal_range p h e = omega (arith, subnormal_fields p e)

pub normal_range : (p : ℕ) → p < 2 ^ 63 → kind_of_bits p ≡ Normal → (2 ^ 52 ≤ p) × (p < 2047 * 2 ^ 52)
unfolding exponent_field
normal_range p h e = omega (arith, normal_fields p e)

-- ---- any

pub normalised : (p : ℕ) → PositiveFinite p → (s : ℕ) × (x : ℕ) × Normalised p s x
normalised p w = elim w.subnormal_or_normal [
  | inl e ↦
      let range : (0 < p) × (p < 2 ^ 52) = subnormal_range p w.unsigned e in
      (p * 2 ^ shift p, 1076 - shift p, normalised_subnormal p range.0 range.1)
  | inr e ↦
      let range : (2 ^ 52 ≤ p) × (p < 2047 * 2 ^ 52) = normal_range p w.unsigned e in
      (p % 2 ^ 52 + 2 ^ 52, p / 2 ^ 52 + 1075, normalised_normal p range.1 (λ z. omega arith))
]
