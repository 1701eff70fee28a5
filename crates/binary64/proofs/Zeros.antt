-- A product with +0 is a zero, which changes no bit where it is subtracted from 1 or from +0; and +0 divided by what is greater than zero is +0. Assumes
-- nothing.
use mathlib.Core.Path.{◌≡◌, refl, ap, ◌∙◌}
use mathlib.Core.Bool.{Bool, true, false, cond}
use Prim.Native.Nat.{ℕ, zero, suc, ◌*◌, ◌<◌}
use native.Mathlib.Nat.{zero-mul, mul-zero}
use native.Mathlib.Omega.{arith}
use lib.IntN.{pos}
use lib.Dec.{T, ltb→lt, eqb-suc-zero}
use lib.Ieee.{Float, nan, inf, fin, binary64, up, down, round, sub, mul, div, lt, unlike}
use lib.Ieee.Fits.{up_pos, down_pos}
use lib.Ieee.Scale.{round_same, finite as library_is_finite}
use Rattle.binary64.specs.Kinds.{finite, zero64, one64, positive}
use Rattle.binary64.proofs.Values.{finite_library}

-- the zero with the sign s
abbrev pub zero_of : Bool → Float
zero_of s = fin s 0 (pos 0)

zero_over_one : (s : Bool) → round binary64 s 0 1 ≡ zero_of s
unfolding round
zero_over_one true = refl
zero_over_one false = refl

round_zero : (s : Bool) (num den : ℕ) → num ≡ 0 → 0 < den → round binary64 s num den ≡ zero_of s
round_zero s num den e h = round_same binary64 s num den 0 1 h (omega arith) (omega arith) ∙ zero_over_one s

product_zero : (x : Float) → T (library_is_finite x) → (s : Bool) × (mul binary64 x zero64 ≡ zero_of s)
unfolding mul
product_zero nan h = absurd h
product_zero (inf s) h = absurd h
product_zero (fin s m e) h = (unlike s false, round_zero (unlike s false) (m * up e * (0 * up (pos 0))) (down e * down (pos 0)) (mul-zero (m * up e)) (omega (arith, down_pos e)))

less_zero : (one s : Bool) → sub binary64 (cond one (one64) zero64) (zero_of s) ≡ cond one (one64) zero64
unfolding sub
less_zero true true = refl
less_zero true false = refl
less_zero false true = refl
less_zero false false = refl

pub less_product :
    (one : Bool) (x : Float) → T (finite x) →
    sub binary64 (cond one (one64) zero64) (mul binary64 x zero64) ≡ cond one (one64) zero64
less_product one x h =
    let product : (s : Bool) × (mul binary64 x zero64 ≡ zero_of s) = product_zero x (finite_library x h) in
    ap (sub binary64 (cond one (one64) zero64)) product.1 ∙ less_zero one product.0

pub zero_divided : (x : Float) → T (positive x) → div binary64 zero64 x ≡ zero64
unfolding positive div lt
zero_divided nan h = absurd h
zero_divided (inf true) h = absurd h
zero_divided (inf false) h = refl
zero_divided (fin true m e) h = absurd h
zero_divided (fin false zero e) h =
    let less : 0 * up (pos 0) * down e < 0 * up e * down (pos 0) = ltb→lt (0 * up (pos 0) * down e) (0 * up e * down (pos 0)) h in
    absurd (omega arith)
zero_divided (fin false (suc m) e) h =
    rw (eqb-suc-zero m) (round_zero false (0 * up (pos 0) * down e) (suc m * up e * down (pos 0)) (zero-mul (down e)) (omega (arith, up_pos e)))
