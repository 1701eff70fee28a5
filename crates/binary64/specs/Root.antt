-- The square root of document 01, by bit patterns: the patterns from 0 on are the values from +0 up in rising order, so a neighbour is the next pattern.
use Rattle.std.specs.Prelude.{ℕ, zero, suc, ◌+◌, ◌-◌, ◌*◌, ◌^◌, ◌<◌, Bool, cond, ◌&&◌, ltb, eqb, Float}
use Rattle.std.specs.Float.{nan, binary64}
use Rattle.std.specs.Float.Ieee.{to_bits, of_bits}
use Rattle.binary64.specs.declared.kinds.Kind.{Kind}
use Rattle.binary64.specs.declared.kinds.Kind.TheVariants.{Zero, Subnormal, Normal, Infinite, NaN}
use Rattle.binary64.specs.Kinds.{exponent_field, fraction, kind_of_bits, kind, finite, positive}

-- The size of a value of exponent field x and fraction t, in units of 2^−1074, the smallest positive value: a subnormal has no leading digit and the
-- exponent of field 1. Past the finite patterns it goes on by the same formula: the next after the greatest finite one stands for 2^1024.
unfoldable pub in_units : Kind → ℕ → ℕ → ℕ
in_units Zero x t = 0
in_units Subnormal x t = t
in_units Normal x t = (2 ^ 52 + t) * 2 ^ (x - 1)
in_units Infinite x t = (2 ^ 52 + t) * 2 ^ (x - 1)
in_units NaN x t = (2 ^ 52 + t) * 2 ^ (x - 1)

-- the size of pattern p's value
unfoldable pub magnitude : ℕ → ℕ
unfolding in_units kind_of_bits exponent_field fraction
magnitude p = in_units (kind_of_bits p) (exponent_field p) (fraction p)

-- the midpoints of p and its lower neighbour, and of p and its upper neighbour, in half units
unfoldable pub lower_midpoint : ℕ → ℕ
unfolding magnitude
lower_midpoint p = magnitude (p - 1) + magnitude p

unfoldable pub upper_midpoint : ℕ → ℕ
unfolding magnitude
upper_midpoint p = magnitude p + magnitude (p + 1)

-- pattern p's value on the scale of the squares of half units: 2^1074 units, of 2^2 quarter units each
unfoldable pub scaled : ℕ → ℕ
unfolding magnitude
scaled p = magnitude p * 2 ^ 1076

-- Document 01's rule: p's value lies strictly between the squares of r's two midpoints.
pub record MidpointRule (p r : ℕ) : Type 0 where
  pub above : lower_midpoint r ^ 2 < scaled p
  pub below : scaled p < upper_midpoint r ^ 2

-- the greatest pattern from q up to q + 2 ^ k − 1 that passes a test which q passes and which fails for good once it fails, by halving
unfoldable pub bisect : (ℕ → Bool) → ℕ → ℕ → ℕ
bisect test zero q = q
bisect test (suc k) q = bisect test k (cond (test (q + 2 ^ k)) (q + 2 ^ k) q)

-- the root's pattern: the greatest whose lower midpoint's square is below the argument
unfoldable pub root_bits : ℕ → ℕ
unfolding bisect lower_midpoint scaled
root_bits p = bisect (λ q. ltb (lower_midpoint q ^ 2) (scaled p)) 63 0

-- The root of every value, by its kind and whether it is above zero. Document 01 gives it for a finite value above zero; the others are IEEE 754's:
-- a zero and +infinity are their own roots, and a NaN and what is below zero have NaN.
unfoldable pub root_by : Kind → Bool → Float → Float
unfolding root_bits
root_by Zero above x = x
root_by Subnormal above x = cond above (of_bits binary64 (root_bits (to_bits binary64 x))) nan
root_by Normal above x = cond above (of_bits binary64 (root_bits (to_bits binary64 x))) nan
root_by Infinite above x = cond above x nan
root_by NaN above x = nan

unfoldable pub root : Float → Float
unfolding root_by positive
root x = root_by (kind x) (positive x) x

-- the square of r's size is p's size, as whole numbers on the scale of `scaled`: nothing is rounded, and signs do not count
unfoldable pub squares_to : ℕ → ℕ → Bool
unfolding magnitude scaled
squares_to r p = eqb ((2 * magnitude r) ^ 2) (scaled p)

-- Whether the root's square is the argument exactly. The values that document 01 gives no root, those not finite or not above zero, answer no.
unfoldable pub exact : Float → Bool
exact x = positive x && (finite x && squares_to (to_bits binary64 (root x)) (to_bits binary64 x))
