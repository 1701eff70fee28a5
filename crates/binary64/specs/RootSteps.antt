-- What the steps of the square root promise, on whole numbers.
use Rattle.std.specs.Prelude.{ℕ, ◌+◌, ◌*◌, ◌^◌, ◌≤◌, ◌<◌, ◌≡◌, ◌⊎◌, Bool}
use Rattle.binary64.specs.declared.kinds.Kind.TheVariants.{Subnormal, Normal}
use Rattle.binary64.specs.Kinds.{kind_of_bits}
use Rattle.binary64.specs.Root.{scaled, squares_to, root_bits}

-- the pattern of a value above zero that is finite
pub record PositiveFinite (p : ℕ) : Type 0 where
  pub unsigned : p < 2 ^ 63
  pub subnormal_or_normal : (kind_of_bits p ≡ Subnormal) ⊎ (kind_of_bits p ≡ Normal)

-- a significand of 53 digits and an exponent for pattern p's value on the scale of `scaled`
pub record Normalised (p significand exponent : ℕ) : Type 0 where
  pub significand_ge : 2 ^ 52 ≤ significand
  pub significand_lt : significand < 2 ^ 53
  pub exponent_ge : 1024 ≤ exponent
  pub exponent_le : exponent ≤ 3121
  pub value : scaled p ≡ significand * 2 ^ exponent

-- n's root, rounded down
pub record IntegerRoot (n root remainder : ℕ) : Type 0 where
  pub sum : root * root + remainder ≡ n
  pub least : remainder ≤ 2 * root

-- the root's pattern, and whether its square is the argument exactly
pub record RootFound (p root : ℕ) (exact : Bool) : Type 0 where
  pub bits : root ≡ root_bits p
  pub exactly : exact ≡ squares_to (root_bits p) p
