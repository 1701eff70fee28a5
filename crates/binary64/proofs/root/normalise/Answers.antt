-- `binary64::root::normalise` meets its contract. Where the pattern is a subnormal's the fraction is the pattern itself, and its leading zeros are from 12
-- to 63. Assumes nothing.
use mathlib.Core.Path.{◌≡◌, sym, ◌∙◌, subst}
use mathlib.Core.Logic.{◌⊎◌, inl, inr}
use Prim.Native.Nat.{ℕ, ◌+◌, ◌-◌, ◌*◌, ◌/◌, ◌%◌, ◌^◌, ◌≤◌, ◌<◌}
use native.Mathlib.Nat.{lt_of_lt_of_le, mod-eq_of_lt}
use native.Mathlib.Omega.{arith}
use lib.Dec.{lit≤}
use lib.Count.{count_leading_zeros}
use Rattle.binary64.specs.declared.kinds.Kind.TheVariants.{Subnormal, Normal}
use Rattle.binary64.specs.Kinds.{kind_of_bits}
use Rattle.binary64.specs.RootSteps.{PositiveFinite, Normalised}
use Rattle.binary64.proofs.Normalising.{shift, zeros_range, subnormal_range, normal_range, normalised_normal, normalised_subnormal}
use Rattle.binary64.proofs.root.normalise.Goals as goal
use Rattle.binary64.proofs.root.normalise.Goals.{After-from-shift}

module _ (p : ℕ) (pre : PositiveFinite p) where
  -- the first arm
  module _ (e : kind_of_bits p ≡ Subnormal) where
    range : (0 < p) × (p < 2 ^ 52)
    range = subnormal_range p pre.unsigned e

    fraction_all : p % 2 ^ 52 ≡ p
    fraction_all = mod-eq_of_lt range.1

    zeros : (12 ≤ count_leading_zeros 64 (p % 2 ^ 52)) × (count_leading_zeros 64 (p % 2 ^ 52) ≤ 63)
    zeros = rw fraction_all (zeros_range p range.0 range.1)

    shifted : Normalised p (p % 2 ^ 52 * 2 ^ shift (p % 2 ^ 52) % 2 ^ 64) (1076 - shift (p % 2 ^ 52))
    shifted =
        let n : Normalised p (p * 2 ^ shift p) (1076 - shift p) = normalised_subnormal p range.0 range.1 in
        rw fraction_all
        (subst (λ (y : ℕ). Normalised p y (1076 - shift p)) (sym (mod-eq_of_lt (lt_of_lt_of_le n.significand_lt (lit≤ tt)))) n)

  -- the second
  not_subnormal : ¬ (kind_of_bits p ≡ Subnormal) → kind_of_bits p ≡ Normal
  not_subnormal h = go pre.subnormal_or_normal
    where
      go : (kind_of_bits p ≡ Subnormal) ⊎ (kind_of_bits p ≡ Normal) → kind_of_bits p ≡ Normal
      go (inl e) = absurd (h e)
      go (inr e) = e

  normal : ¬ (kind_of_bits p ≡ Subnormal) → Normalised p (p % 2 ^ 52 + 2 ^ 52) (p / 2 ^ 52 + 1075)
  normal h =
      let range : (2 ^ 52 ≤ p) × (p < 2047 * 2 ^ 52) = normal_range p pre.unsigned (not_subnormal h) in
      normalised_normal p range.1 (λ e. omega arith)

module _ (c : After-from-shift) where
  subnormal : kind_of_bits c.args.bits ≡ Subnormal
  subnormal = sym c.kind_of_bits.ensures ∙ c.in-Subnormal.is

  shift_range : (12 ≤ c.from-shift.result) × (c.from-shift.result ≤ 63)
  shift_range = rw c.from-shift.ensures (zeros c.args.bits c.requires subnormal)

pub overflow_sub-shift : goal.overflow_sub-shift
overflow_sub-shift c = omega (arith, shift_range c)

pub overflow_shl-result : goal.overflow_shl-result
overflow_shl-result c = omega (arith, shift_range c)

pub overflow_sub-result : goal.overflow_sub-result
overflow_sub-result c = omega (arith, shift_range c)

pub returns-in-Subnormal : goal.returns-in-Subnormal
returns-in-Subnormal c = rw c.from-shift.ensures (shifted c.args.bits c.requires (subnormal c))

pub returns-in_default : goal.returns-in_default
returns-in_default c = normal c.args.bits c.requires (λ e. c.in_default.not-Subnormal (c.kind_of_bits.ensures ∙ e))
