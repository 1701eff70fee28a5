-- IEEE 754's kinds of binary64 by exponent field and fraction, and what the engine tells apart by them.
use Rattle.std.specs.Prelude.{ℕ, ◌/◌, ◌%◌, ◌^◌, Bool, true, false, cond, ltb, eqb, pos, Float}
use Rattle.std.specs.Float.{fin, binary64}
use Rattle.std.specs.Float.Ieee.{to_bits, lt}
use Rattle.binary64.specs.declared.kinds.Kind.{Kind}
use Rattle.binary64.specs.declared.kinds.Kind.TheVariants.{Zero, Subnormal, Normal, Infinite, NaN}

-- A pattern is a number below 2^64: a digit of sign, 11 of the exponent field, 52 of the fraction.
unfoldable pub exponent_field : ℕ → ℕ
exponent_field p = p % 2 ^ 63 / 2 ^ 52

unfoldable pub fraction : ℕ → ℕ
fraction p = p % 2 ^ 52

-- the kinds of an exponent field: 0, 1 to 2046, 2047
pub data FieldKind : Type 0 where
  all_zeros between all_ones : FieldKind

unfoldable pub field_kind : ℕ → FieldKind
field_kind x = cond (eqb x 0) all_zeros (cond (ltb x 2047) between all_ones)

-- the kinds of a fraction
pub data FractionKind : Type 0 where
  zero_fraction nonzero_fraction : FractionKind

unfoldable pub fraction_kind : ℕ → FractionKind
fraction_kind t = cond (eqb t 0) zero_fraction nonzero_fraction

-- IEEE 754's table
unfoldable pub kind_of : FieldKind → FractionKind → Kind
kind_of all_zeros zero_fraction = Zero
kind_of all_zeros nonzero_fraction = Subnormal
kind_of between zero_fraction = Normal
kind_of between nonzero_fraction = Normal
kind_of all_ones zero_fraction = Infinite
kind_of all_ones nonzero_fraction = NaN

unfoldable pub kind_of_fields : ℕ → ℕ → Kind
unfolding kind_of field_kind fraction_kind
kind_of_fields x t = kind_of (field_kind x) (fraction_kind t)

unfoldable pub kind_of_bits : ℕ → Kind
unfolding kind_of_fields exponent_field fraction
kind_of_bits p = kind_of_fields (exponent_field p) (fraction p)

-- the kind of a value is that of its pattern
unfoldable pub kind : Float → Kind
unfolding kind_of_bits to_bits
kind x = kind_of_bits (to_bits binary64 x)

-- neither an infinity nor a NaN
unfoldable pub finite_kind : Kind → Bool
finite_kind Zero = true
finite_kind Subnormal = true
finite_kind Normal = true
finite_kind Infinite = false
finite_kind NaN = false

unfoldable pub finite : Float → Bool
unfolding finite_kind
finite x = finite_kind (kind x)

-- +0
abbrev pub zero64 : Float
zero64 = fin false 0 (pos 0)

abbrev pub one64 : Float
one64 = fin false 1 (pos 0)

-- greater than zero: no zero of either sign and no NaN is, +infinity is
unfoldable pub positive : Float → Bool
positive x = lt zero64 x

-- a kind's number, for the tests in C
abbrev pub kind_number : Kind → ℕ
kind_number Zero = 0
kind_number Subnormal = 1
kind_number Normal = 2
kind_number Infinite = 3
kind_number NaN = 4
