-- What is below +infinity, less what has no minus sign, is below +infinity: where the difference has no minus sign either, it is at most
-- the first value, which its format holds, so it rounds to no more than that value. Squares have no minus sign, so a pivot, from which
-- squares are subtracted, is neither +infinity nor NaN. Assumes nothing.
use mathlib.Core.Path.{◌≡◌, refl, sym, ap, ◌∙◌}
use mathlib.Core.Logic.{◌⊎◌, inl, inr}
use mathlib.Core.Bool.{Bool, true, false, ◌&&◌, cond, true≢false}
use Prim.Native.Nat.{ℕ, zero, suc, ◌+◌, ◌-◌, ◌*◌, ◌%◌, ◌^◌, ◌≤◌, ◌<◌}
use native.Mathlib.Nat.{le_trans, le_of_eq, le_of_suc-le-suc, lt_of_not-le, not-le_of_lt, sub-le, zero-mul, one-mul, mul-one, mul_comm, mul_assoc, mul_left_comm, mul_right_comm, mul-le-mul_right, mul-lt-mul_of_pos_right, lt_of_mul-lt-mul_right, mul-pos}
use lib.IntN.{ℤ, pos, negsuc}
use lib.Dec.{T, ltb, leb, eqb, ltb→lt, leb→le}
use lib.Pow.{pow-add, pow_pos, pow-lt}
use lib.Ieee.{Float, nan, inf, fin, Format, binary64, prec, emax, low, up, down, odd, units, round, sub, mul, lt, le, fits}
use lib.Ieee.Digits.{back}
use lib.Ieee.Fits.{down_pos, and_l, and_r, round_is}
use lib.Ieee.Exact.{HasValue, odd_sign, round_exact}
use lib.Ieee.Order.{round_mono}
use lib.Ieee.Scale.{finite as library_is_finite}
use Rattle.binary64.specs.Kinds.{finite, positive}
use Rattle.binary64.proofs.Values.{finite_library, library_finite, library_of_value}

-- ---- the values below +infinity: finite or −infinity, and no NaN

unfoldable pub below_infinity : Float → Bool
below_infinity x = lt x (inf false)

pub below_cases : (x : Float) → T (fits binary64 x) → T (below_infinity x) → T (finite x) ⊎ (x ≡ inf true)
unfolding below_infinity lt
below_cases nan f h = absurd h
below_cases (inf true) f h = inr refl
below_cases (inf false) f h = absurd h
below_cases (fin s m e) f h = inl (library_finite (fin s m e) f tt)

pub below_finite : (x : Float) → T (fits binary64 x) → T (below_infinity x) → T (positive x) → T (finite x)
unfolding below_infinity positive lt
below_finite nan f h p = absurd h
below_finite (inf true) f h p = absurd p
below_finite (inf false) f h p = absurd h
below_finite (fin s m e) f h p = library_finite (fin s m e) f tt

library_below : (x : Float) → T (library_is_finite x) → T (below_infinity x)
unfolding below_infinity lt
library_below nan h = absurd h
library_below (inf s) h = absurd h
library_below (fin s m e) h = tt

pub finite_below_lem : (x : Float) → T (finite x) → T (below_infinity x)
finite_below_lem x h = library_below x (finite_library x h)

below_of_le : (x y : Float) → T (le x y) → T (library_is_finite y) → T (below_infinity x)
unfolding below_infinity le
below_of_le nan y h k = absurd h
below_of_le (inf true) y h k = tt
below_of_le (inf false) nan h k = absurd k
below_of_le (inf false) (inf t) h k = absurd k
below_of_le (inf false) (fin t n d) h k = absurd h
below_of_le (fin s m e) y h k = tt

-- ---- signs

-- x is no NaN and has the sign s
abbrev HasSign : Float → Bool → Type 0
HasSign nan s = ⊥
HasSign (inf t) s = t ≡ s
HasSign (fin t m e) s = t ≡ s

sign_of_value : (x : Float) (s : Bool) (a c : ℕ) → HasValue x s a c → HasSign x s
sign_of_value nan s a c v = v
sign_of_value (inf t) s a c v = absurd v
sign_of_value (fin t m e) s a c v = v.0

units_sign : (f : Format) (s : Bool) (q k : ℕ) → HasSign (units f s q k) s
unfolding units
units_sign f s q k = go (ltb (q * 2 ^ k) (2 ^ (low f + suc (emax f))))
  where
    go : (b : Bool) → HasSign (cond b (odd (suc (prec f)) s q k (low f)) (inf s)) s
    go true = sign_of_value (odd (suc (prec f)) s q k (low f)) s (q * 2 ^ k) (2 ^ low f) (odd_sign (suc (prec f)) s q k (low f))
    go false = refl

round_sign : (f : Format) (s : Bool) (a c : ℕ) → HasSign (round f s a c) s
round_sign f s a c = rw round_is (units_sign f s _ _)

square_sign : (f : Format) (x : Float) → T (library_is_finite x) → HasSign (mul f x x) false
unfolding mul
square_sign f nan h = absurd h
square_sign f (inf s) h = absurd h
square_sign f (fin true m e) h = round_sign f false (m * up e * (m * up e)) (down e * down e)
square_sign f (fin false m e) h = round_sign f false (m * up e * (m * up e)) (down e * down e)

-- ---- a value that its format holds is not changed by rounding

-- 2 ^ e as a number of units of 2 ^ -l
in_units_lem : (l : ℕ) (e : ℤ) → down e ≤ 2 ^ l → (j : ℕ) × (up e * 2 ^ l ≡ 2 ^ j * down e)
in_units_lem l (pos k) h = (k + l, sym (mul-one (2 ^ (k + l)) ∙ pow-add 2 k l))
in_units_lem l (negsuc k) h =
    let k_lt : k < l = le_of_suc-le-suc (lt_of_not-le (λ (g : l < suc k). not-le_of_lt (pow-lt g) h)) in
    (l - suc k, one-mul (2 ^ l) ∙ ap (λ (x : ℕ). 2 ^ x) (sym (back l (suc k) k_lt)) ∙ pow-add 2 (l - suc k) (suc k))

bounds_exact : (f : Format) (s : Bool) (m : ℕ) (e : ℤ)
    → m < 2 ^ prec f
    → down e ≤ 2 ^ low f
    → m * up e < 2 ^ suc (emax f) * down e
    → HasValue (round f s (m * up e) (down e)) s (m * up e) (down e)
bounds_exact f s m e short fine small =
    let l = low f in
    let w = in_units_lem l e fine in
    let same : m * up e * 2 ^ l ≡ m * 2 ^ w.0 * down e = mul_assoc m (up e) (2 ^ l) ∙ ap (λ (x : ℕ). m * x) w.1 ∙ sym (mul_assoc m (2 ^ w.0) (down e)) in
    let top : 2 ^ suc (emax f) * down e * 2 ^ l ≡ 2 ^ (l + suc (emax f)) * down e = simp (pow-add, mul_assoc, mul_comm, mul_left_comm) in
    round_exact f s (m * up e) (down e) m w.0 (down_pos e) short
    (lt_of_mul-lt-mul_right (down e) (rw (← same, ← top) (mul-lt-mul_of_pos_right small (pow_pos l))))
    same

fits_exact : (f : Format) (s : Bool) (m : ℕ) (e : ℤ)
    → T (fits f (fin s m e))
    → HasValue (round f s (m * up e) (down e)) s (m * up e) (down e)
unfolding fits
fits_exact f s zero e h =
    round_exact f s (0 * up e) (down e) 0 0 (down_pos e) (pow_pos (prec f)) (pow_pos (low f + suc (emax f))) (simp zero-mul)
fits_exact f s (suc m) e h =
    let A = eqb (suc m % 2) 1 in
    let B = ltb (suc m) (2 ^ prec f) in
    let C = leb (down e) (2 ^ low f) in
    let D = ltb (suc m * up e) (2 ^ suc (emax f) * down e) in
    let abc = and_l (A && B && C) D h in
    bounds_exact f s (suc m) e
    (ltb→lt (suc m) (2 ^ prec f) (and_r A B (and_l (A && B) C abc)))
    (leb→le (down e) (2 ^ low f) (and_r (A && B) C abc))
    (ltb→lt (suc m * up e) (2 ^ suc (emax f) * down e) (and_r (A && B && C) D h))

-- ---- differences

-- a fraction of at most a value of the format
round_below : (f : Format) (m : ℕ) (e : ℤ) (a c : ℕ)
    → T (fits f (fin false m e))
    → 0 < c
    → a * down e ≤ m * up e * c
    → T (below_infinity (round f false a c))
round_below f m e a c h C k =
    below_of_le (round f false a c) (round f false (m * up e) (down e)) (round_mono f a c (m * up e) (down e) C (down_pos e) k)
    (library_of_value (round f false (m * up e) (down e)) false (m * up e) (down e) (fits_exact f false m e h))

minus_below : (x : Float) → HasSign x true → T (below_infinity x)
unfolding below_infinity lt
minus_below nan h = absurd h
minus_below (inf true) h = tt
minus_below (inf false) h = absurd (true≢false (sym h))
minus_below (fin s m e) h = tt

round_minus_below : (f : Format) (a c : ℕ) → T (below_infinity (round f true a c))
round_minus_below f a c = minus_below (round f true a c) (round_sign f true a c)

cond_below : (b : Bool) (x y : Float) → T (below_infinity x) → T (below_infinity y) → T (below_infinity (cond b x y))
cond_below true x y h k = h
cond_below false x y h k = k

sub_below : (f : Format) (s p : Float) → T (fits f s) → T (below_infinity s) → HasSign p false → T (below_infinity (sub f s p))
unfolding sub below_infinity lt
sub_below f nan p h k g = absurd k
sub_below f (inf false) p h k g = absurd k
sub_below f (inf true) nan h k g = absurd g
sub_below f (inf true) (inf true) h k g = absurd (true≢false g)
sub_below f (inf true) (inf false) h k g = tt
sub_below f (inf true) (fin t n d) h k g = tt
sub_below f (fin s m e) nan h k g = absurd g
sub_below f (fin s m e) (inf true) h k g = absurd (true≢false g)
sub_below f (fin s m e) (inf false) h k g = tt
sub_below f (fin s m e) (fin true n d) h k g = absurd (true≢false g)
sub_below f (fin true m e) (fin false n d) h k g = round_minus_below f (m * up e * down d + n * up d * down e) (down e * down d)
sub_below f (fin false m e) (fin false n d) h k g =
    let a = m * up e * down d in
    let b = n * up d * down e in
    let c = down e * down d in
    let same : a * down e ≡ m * up e * c = mul_right_comm (m * up e) (down d) (down e) ∙ mul_assoc (m * up e) (down e) (down d) in
    cond_below (ltb a b) (round f true (b - a) c) (round f false (a - b) c) (round_minus_below f (b - a) c)
    (round_below f m e (a - b) c h (mul-pos (down_pos e) (down_pos d)) (le_trans (mul-le-mul_right (down e) (sub-le a b)) (le_of_eq same)))

pub difference_below : (s x : Float)
    → T (fits binary64 s)
    → T (below_infinity s)
    → T (finite x)
    → T (below_infinity (sub binary64 s (mul binary64 x x)))
difference_below s x h k g = sub_below binary64 s (mul binary64 x x) h k (square_sign binary64 x (finite_library x g))
