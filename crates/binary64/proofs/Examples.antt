-- Kinds, roots and their exactness by bits, as one proposition over a table. Assumes nothing.
use mathlib.Core.Bool.{Bool, true, false, cond, not, ◌&&◌}
use mathlib.Core.List.{List, [], ◌∷◌}
use Prim.Native.Nat.{ℕ}
use lib.Dec.{T, eqb}
use lib.Ieee.{binary64, of_bits, to_bits, lt}
use Rattle.binary64.specs.declared.kinds.Kind.{Kind}
use Rattle.binary64.specs.declared.kinds.Kind.TheVariants.{Zero, Subnormal, Normal, Infinite, NaN}
use Rattle.binary64.specs.Kinds.{kind_of_bits, kind, finite, positive, kind_number}
use Rattle.binary64.specs.Root.{root, squares_to, exact}
use Rattle.binary64.specs.Judged.{judged, exact_root}

-- a pattern and its kind with that kind's number; its value has the same kind
has_kind : ℕ → Kind → ℕ → Bool
has_kind p k number = eqb (kind_number (kind_of_bits p)) number && eqb (kind_number (kind (of_bits binary64 p))) number && eqb (kind_number k) number

-- the bits of an argument and of its root, and whether that is exact
has_root : ℕ → ℕ → Bool → Bool
has_root v r e = let x = of_bits binary64 v in eqb (to_bits binary64 (root x)) r && cond e (exact x) (not (exact x))

-- a pivot that is refused has no exact root
refused_inexact : ℕ → Bool
refused_inexact v = not (exact_root (judged (of_bits binary64 v)))

pub rows : List Bool
unfolding has_kind has_root refused_inexact
rows =
    -- the first and the last pattern of each kind, and of the normal ones those of either kind of fraction, with each sign
    has_kind 0x0000_0000_0000_0000 Zero 0
    ∷ has_kind 0x8000_0000_0000_0000 Zero 0
    ∷ has_kind 0x0000_0000_0000_0001 Subnormal 1
    ∷ has_kind 0x000F_FFFF_FFFF_FFFF Subnormal 1
    ∷ has_kind 0x8000_0000_0000_0001 Subnormal 1
    ∷ has_kind 0x800F_FFFF_FFFF_FFFF Subnormal 1
    ∷ has_kind 0x0010_0000_0000_0000 Normal 2
    ∷ has_kind 0x0010_0000_0000_0001 Normal 2
    ∷ has_kind 0x7FE0_0000_0000_0000 Normal 2
    ∷ has_kind 0x7FEF_FFFF_FFFF_FFFF Normal 2
    ∷ has_kind 0x8010_0000_0000_0000 Normal 2
    ∷ has_kind 0x8010_0000_0000_0001 Normal 2
    ∷ has_kind 0xFFE0_0000_0000_0000 Normal 2
    ∷ has_kind 0xFFEF_FFFF_FFFF_FFFF Normal 2
    ∷ has_kind 0x7FF0_0000_0000_0000 Infinite 3
    ∷ has_kind 0xFFF0_0000_0000_0000 Infinite 3
    ∷ has_kind 0x7FF0_0000_0000_0001 NaN 4
    ∷ has_kind 0x7FFF_FFFF_FFFF_FFFF NaN 4
    ∷ has_kind 0xFFF0_0000_0000_0001 NaN 4
    ∷ has_kind 0xFFFF_FFFF_FFFF_FFFF NaN 4
    -- document 01's roots; the first, of 2^−1074, is 2^−537
    ∷ has_root 0x0000_0000_0000_0001 0x1E60_0000_0000_0000 true
    ∷ has_root 0x3FEF_FFFF_FFFF_FFFF 0x3FEF_FFFF_FFFF_FFFF false
    ∷ has_root 0x4000_0000_0000_0000 0x3FF6_A09E_667F_3BCD false
    -- of the greatest subnormal value, the least normal one and the greatest; of zeros, infinities, a NaN and values below zero
    ∷ has_root 0x000F_FFFF_FFFF_FFFF 0x1FFF_FFFF_FFFF_FFFF false
    ∷ has_root 0x0010_0000_0000_0000 0x2000_0000_0000_0000 true
    ∷ has_root 0x7FEF_FFFF_FFFF_FFFF 0x5FEF_FFFF_FFFF_FFFF false
    ∷ has_root 0x0000_0000_0000_0000 0x0000_0000_0000_0000 false
    ∷ has_root 0x8000_0000_0000_0000 0x8000_0000_0000_0000 false
    ∷ has_root 0x7FF0_0000_0000_0000 0x7FF0_0000_0000_0000 false
    ∷ has_root 0xFFF0_0000_0000_0000 0x7FF8_0000_0000_0000 false
    ∷ has_root 0x7FF0_0000_0000_0001 0x7FF8_0000_0000_0000 false
    ∷ has_root 0x8000_0000_0000_0001 0x7FF8_0000_0000_0000 false
    ∷ has_root 0xBFF0_0000_0000_0000 0x7FF8_0000_0000_0000 false
    -- exact: 4, 1/4, 9 and (2^26 + 1)²; not: the values beside that square, 8, and 11, though the root's square is 11 where it is rounded; −4 has no root
    ∷ has_root 0x4010_0000_0000_0000 0x4000_0000_0000_0000 true
    ∷ has_root 0x3FD0_0000_0000_0000 0x3FE0_0000_0000_0000 true
    ∷ has_root 0x4022_0000_0000_0000 0x4008_0000_0000_0000 true
    ∷ has_root 0x4330_0000_0800_0001 0x4190_0000_0400_0000 true
    ∷ has_root 0x4330_0000_0800_0000 0x4190_0000_0400_0000 false
    ∷ has_root 0x4330_0000_0800_0002 0x4190_0000_0400_0000 false
    ∷ has_root 0x4020_0000_0000_0000 0x4006_A09E_667F_3BCD false
    ∷ has_root 0x4026_0000_0000_0000 0x400A_8872_93FD_6F34 false
    ∷ has_root 0xC010_0000_0000_0000 0x7FF8_0000_0000_0000 false
    ∷ refused_inexact 0x0000_0000_0000_0000
    ∷ refused_inexact 0x8000_0000_0000_0000
    ∷ refused_inexact 0xC010_0000_0000_0000
    ∷ []

abbrev pub all_right : List Bool → Bool
all_right [] = true
all_right (r ∷ rs) = r && all_right rs

pub examples_hold : T (all_right rows)
unfolding rows root squares_to exact judged positive kind_of_bits kind finite of_bits to_bits lt
examples_hold = tt
