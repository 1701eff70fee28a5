-- `binary64::kinds::kind_of_bits` meets its contract, row by row. Assumes nothing.
use mathlib.Core.Path.{◌≡◌}
use Prim.Native.Nat.{ℕ, ◌≤◌, ◌<◌}
use native.Mathlib.Omega.{arith}
use Rattle.binary64.specs.declared.kinds.Kind.TheVariants.{Zero, Subnormal, Normal, Infinite, NaN}
use Rattle.binary64.specs.Kinds.{exponent_field, fraction, kind_of_bits}
use Rattle.binary64.proofs.KindLaws.{kind_zero, kind_subnormal, kind_normal, kind_infinite, kind_nan}
use Rattle.binary64.proofs.kinds.kind_of_bits.Goals as goal

module _ (p : ℕ) where
  zero_row : exponent_field p ≡ 0 → fraction p ≡ 0 → Zero ≡ kind_of_bits p
  unfolding kind_of_bits
  zero_row x t = rw (x, t, kind_zero)

  subnormal_row : exponent_field p ≡ 0 → ¬ (fraction p ≡ 0) → Subnormal ≡ kind_of_bits p
  unfolding kind_of_bits
  subnormal_row x t = rw (x, kind_subnormal (fraction p) (omega arith))

  normal_rows : ¬ (exponent_field p ≡ 0) → exponent_field p < 2047 → Normal ≡ kind_of_bits p
  unfolding kind_of_bits
  normal_rows low high = rw (kind_normal (exponent_field p) (omega arith) (omega arith) (fraction p))

  last_field : 2047 ≤ exponent_field p → exponent_field p ≡ 2047
  unfolding exponent_field
  last_field x = omega arith

  infinite_row : 2047 ≤ exponent_field p → fraction p ≡ 0 → Infinite ≡ kind_of_bits p
  unfolding kind_of_bits
  infinite_row x t = rw (last_field x, t, kind_infinite)

  nan_row : 2047 ≤ exponent_field p → ¬ (fraction p ≡ 0) → NaN ≡ kind_of_bits p
  unfolding kind_of_bits
  nan_row x t = rw (last_field x, kind_nan (fraction p) (omega arith))

pub returns-in-0-true : goal.returns-in-0-true
unfolding exponent_field fraction
returns-in-0-true c = zero_row c.args.bits c.in-0-true.is-0 c.in-0-true.is-1

pub returns-in-0-false : goal.returns-in-0-false
unfolding exponent_field fraction
returns-in-0-false c = subnormal_row c.args.bits c.in-0-false.is-0 c.in-0-false.is-1

pub returns-in-1-to-2046-default : goal.returns-in-1-to-2046-default
unfolding exponent_field
returns-in-1-to-2046-default c = normal_rows c.args.bits c.in-1-to-2046-default.is-0.1 (omega arith)

pub returns-in_default-true : goal.returns-in_default-true
unfolding exponent_field fraction
returns-in_default-true c = infinite_row c.args.bits (omega arith) c.in_default-true.is-1

pub returns-in_default-false : goal.returns-in_default-false
unfolding exponent_field fraction
returns-in_default-false c = nan_row c.args.bits (omega arith) c.in_default-false.is-1
