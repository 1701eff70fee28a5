-- What a pattern's value is as a float, which patterns the positive finite floats have, and which floats a kind has. `positive` is here the library's,
-- without +infinity. Assumes nothing.
use mathlib.Core.Path.{◌≡◌, refl, sym, ap, ◌∙◌, subst}
use mathlib.Core.Bool.{Bool, true, false, not, cond}
use Prim.Native.Nat.{ℕ, zero, suc, ◌+◌, ◌*◌, ◌/◌, ◌%◌, ◌^◌, ◌<◌}
use native.Mathlib.Nat.{zero-lt-suc, mul-one, mul-pos, mod-lt, mod-eq_of_lt}
use native.Mathlib.Omega.{arith}
use lib.Dec.{T, leb, eqb, lit<}
use lib.Pow.{pow_pos, split}
use lib.IntN.{ℤ}
use lib.Ieee.{Float, nan, inf, fin, binary64, odd, of_fields, of_bits, to_bits, fits, is_nan, nan_bits}
use lib.Ieee.Fits.{down_pos}
use lib.Ieee.Exact.{HasValue, odd_sign}
use lib.Ieee.Bits.{of_bits-to_bits, to_bits-lt, nan_bits_is}
use lib.Ieee.Positive.{positive}
use lib.Ieee.Scale.{finite as library_is_finite}
use borrow.Author.Tests.{lt-leb, leb-false, ne_eqb, eqb-false}
use Rattle.binary64.specs.declared.kinds.Kind.{Kind}
use Rattle.binary64.specs.declared.kinds.Kind.TheVariants.{Zero, Subnormal, Normal, Infinite, NaN}
use Rattle.binary64.specs.Kinds.{exponent_field, fraction, kind_of_bits, kind, finite_kind, finite}
use Rattle.binary64.specs.Root.{magnitude}
use Rattle.binary64.proofs.KindLaws.{Case, zero_case, subnormal_case, normal_case, infinite_case, nan_case, pattern_case, kind_nan_value}
use Rattle.binary64.proofs.Magnitudes.{magnitude_subnormal, magnitude_normal}

-- ---- a pattern of field x and digits t, below the infinity's

fields_value : (x t : ℕ) → t < 2 ^ 52 → x < 2047 → HasValue (of_fields binary64 false x t) false (magnitude (x * 2 ^ 52 + t)) (2 ^ 1074)
unfolding of_fields
fields_value zero t h l =
    let at : 0 * 2 ^ 52 + t ≡ t = omega arith in
    subst (λ (a : ℕ). HasValue (odd 53 false t 0 1074) false a (2 ^ 1074)) (mul-one t ∙ sym (magnitude_subnormal t h) ∙ ap magnitude (sym at)) (odd_sign 53 false t 0 1074)
fields_value (suc x) t h l =
    subst (λ (b : Bool). HasValue (cond b (cond (eqb t 0) (inf false) nan) (odd 53 false (2 ^ 52 + t) x 1074)) false (magnitude (suc x * 2 ^ 52 + t)) (2 ^ 1074))
    (sym (ne_eqb (suc x) 2047 (λ e. omega arith)))
    (subst (λ (a : ℕ). HasValue (odd 53 false (2 ^ 52 + t) x 1074) false a (2 ^ 1074)) (sym (magnitude_normal x t h (omega arith))) (odd_sign 53 false (2 ^ 52 + t) x 1074))

bits_fields : (p : ℕ) → p < 2 ^ 63 → of_bits binary64 p ≡ of_fields binary64 false (p / 2 ^ 52) (p % 2 ^ 52)
unfolding of_bits
bits_fields p h =
    ap (λ (b : Bool). of_fields binary64 b (p % 2 ^ 63 / 2 ^ 52) (p % 2 ^ 52)) (lt-leb (2 ^ 63) p h)
    ∙ ap (λ (y : ℕ). of_fields binary64 false (y / 2 ^ 52) (p % 2 ^ 52)) (mod-eq_of_lt h)

pub pattern_value : (p : ℕ) → p < 2047 * 2 ^ 52 → HasValue (of_bits binary64 p) false (magnitude p) (2 ^ 1074)
pattern_value p h =
    let field : p / 2 ^ 52 < 2047 = omega arith in
    let top : p < 2 ^ 63 = omega arith in
    subst (λ (y : Float). HasValue y false (magnitude p) (2 ^ 1074)) (sym (bits_fields p top))
    (subst (λ (a : ℕ). HasValue (of_fields binary64 false (p / 2 ^ 52) (p % 2 ^ 52)) false (magnitude a) (2 ^ 1074)) (split p 52)
    (fields_value (p / 2 ^ 52) (p % 2 ^ 52) (mod-lt p (pow_pos 52)) field))

value_number : (x : Float) (a c : ℕ) → HasValue x false a c → T (not (is_nan x))
unfolding is_nan
value_number nan a c h = absurd h
value_number (inf s) a c h = absurd h
value_number (fin s m e) a c h = tt

pub pattern_number : (p : ℕ) → p < 2047 * 2 ^ 52 → T (not (nan_bits binary64 p))
pattern_number p h = subst (λ (b : Bool). T (not b)) (sym (nan_bits_is binary64 p)) (value_number (of_bits binary64 p) (magnitude p) (2 ^ 1074) (pattern_value p h))

-- ---- the patterns of the positive finite floats

odd_positive : (d : ℕ) (s : Bool) (q k l : ℕ) → T (positive (odd d s q k l)) → (s ≡ false) × (0 < q)
unfolding odd
odd_positive d true zero k l h = absurd h
odd_positive d false zero k l h = absurd h
odd_positive d true (suc q) k l h = absurd h
odd_positive d false (suc q) k l h = (refl, zero-lt-suc q)

fields_positive : (s : Bool) (x t : ℕ) → x < 2048 → T (positive (of_fields binary64 s x t)) → (s ≡ false) × (x < 2047) × (0 < x * 2 ^ 52 + t)
unfolding of_fields
fields_positive s zero t l h = let k = odd_positive 53 s t 0 1074 h in (k.0, lit< tt, omega (arith, k.1))
fields_positive s (suc x) t l h = go (eqb (suc x) 2047) refl (eqb t 0) h
  where
    go : (a : Bool) → eqb (suc x) 2047 ≡ a → (b : Bool) → T (positive (cond a (cond b (inf s) nan) (odd 53 s (2 ^ 52 + t) x 1074))) → (s ≡ false) × (suc x < 2047) × (0 < suc x * 2 ^ 52 + t)
    go true e true k = absurd k
    go true e false k = absurd k
    go false e b k = ((odd_positive 53 s (2 ^ 52 + t) x 1074 k).0, (let ne = eqb-false (suc x) 2047 e in omega arith), omega arith)

pattern_positive : (p : ℕ) → p < 2 ^ 64 → T (positive (of_bits binary64 p)) → (0 < p) × (p < 2047 * 2 ^ 52)
unfolding of_bits
pattern_positive p h k =
    let field : p % 2 ^ 63 / 2 ^ 52 < 2048 = omega arith in
    let (sign, below, above) = fields_positive (leb (2 ^ 63) p) (p % 2 ^ 63 / 2 ^ 52) (p % 2 ^ 52) field k in
    let top : p < 2 ^ 63 = leb-false (2 ^ 63) p sign in
    omega arith

pub bits_range : (x : Float) → T (fits binary64 x) → T (positive x) → (0 < to_bits binary64 x) × (to_bits binary64 x < 2047 * 2 ^ 52)
bits_range x f h = pattern_positive (to_bits binary64 x) (to_bits-lt binary64 x f) (subst (λ (y : Float). T (positive y)) (sym (of_bits-to_bits binary64 x f)) h)

-- ---- what a kind says of a value

pub data Value : Float → Kind → Type 0 where
  zero_value : {s : Bool} {e : ℤ} → Value (fin s 0 e) Zero
  subnormal_value : {s : Bool} {m : ℕ} {e : ℤ} → Value (fin s (suc m) e) Subnormal
  normal_value : {s : Bool} {m : ℕ} {e : ℤ} → Value (fin s (suc m) e) Normal
  infinite_value : {s : Bool} → Value (inf s) Infinite
  nan_value : Value nan NaN

nonzero : (P : Float → Type 0) (x : Float) (s : Bool) (a c : ℕ) → HasValue x s a c → 0 < a → ((t : Bool) (m : ℕ) (e : ℤ) → P (fin t (suc m) e)) → P x
nonzero P nan s a c v h k = absurd v
nonzero P (inf t) s a c v h k = absurd v
nonzero P (fin t zero e) s a c v h k = absurd (let d = mul-pos h (down_pos e) in let z = v.1 in omega arith)
nonzero P (fin t (suc m) e) s a c v h k = k t m e

odd_nonzero : (P : Float → Type 0) (s : Bool) (q k : ℕ) → 0 < q → ((t : Bool) (m : ℕ) (e : ℤ) → P (fin t (suc m) e)) → P (odd 53 s q k 1074)
odd_nonzero P s q k h all = nonzero P (odd 53 s q k 1074) s (q * 2 ^ k) (2 ^ 1074) (odd_sign 53 s q k 1074) (mul-pos h (pow_pos k)) all

fields_case : (s : Bool) (x t : ℕ) (κ : Kind) → Case x t κ → Value (of_fields binary64 s x t) κ
unfolding of_fields odd
fields_case s x t κ zero_case = zero_value
fields_case s x t κ (subnormal_case some) = odd_nonzero (λ v. Value v Subnormal) s t 0 some (λ s m e. subnormal_value)
fields_case s zero t κ (normal_case low high) = absurd (omega arith)
fields_case s (suc x) t κ (normal_case low high) =
    rw (ne_eqb (suc x) 2047 (λ e. omega arith)) (odd_nonzero (λ v. Value v Normal) s (2 ^ 52 + t) x (omega arith) (λ s m e. normal_value))
fields_case s x t κ infinite_case = infinite_value
fields_case s x t κ (nan_case some) = rw (ne_eqb t 0 (λ e. omega arith)) nan_value

pub value_case : (x : Float) → T (fits binary64 x) → Value x (kind x)
unfolding kind of_bits exponent_field fraction
value_case x f =
    let p = to_bits binary64 x in
    subst (λ (v : Float). Value v (kind_of_bits p)) (of_bits-to_bits binary64 x f)
    (fields_case (leb (2 ^ 63) p) (p % 2 ^ 63 / 2 ^ 52) (p % 2 ^ 52) (kind_of_bits p) (pattern_case p))

-- ---- NaN

nan_only : (x : Float) → Value x NaN → x ≡ nan
nan_only x nan_value = refl

pub nan_of_kind : (x : Float) → T (fits binary64 x) → kind x ≡ NaN → x ≡ nan
nan_of_kind x f e = nan_only x (subst (Value x) e (value_case x f))

pub number_of_kind : (x : Float) → ¬ (kind x ≡ NaN) → T (not (is_nan x))
unfolding is_nan
number_of_kind nan n = absurd (n kind_nan_value)
number_of_kind (inf s) n = tt
number_of_kind (fin s m e) n = tt

-- ---- finite, by kind and by the library's test

pub library_of_value : (x : Float) (s : Bool) (a c : ℕ) → HasValue x s a c → T (library_is_finite x)
library_of_value nan s a c v = absurd v
library_of_value (inf t) s a c v = absurd v
library_of_value (fin t m e) s a c v = tt

pub finite_as_lem : (x : Float) → T (fits binary64 x) → finite x ≡ library_is_finite x
unfolding finite
finite_as_lem x f = go x (kind x) (value_case x f)
  where
    go : (x : Float) (κ : Kind) → Value x κ → finite_kind κ ≡ library_is_finite x
    go x κ zero_value = refl
    go x κ subnormal_value = refl
    go x κ normal_value = refl
    go x κ infinite_value = refl
    go x κ nan_value = refl

-- this way of every float, whether the format holds it or not
pub finite_library : (x : Float) → T (finite x) → T (library_is_finite x)
unfolding finite kind
finite_library nan h = h
finite_library (inf true) h = h
finite_library (inf false) h = h
finite_library (fin s m e) h = tt

pub library_finite : (x : Float) → T (fits binary64 x) → T (library_is_finite x) → T (finite x)
library_finite x f h = subst T (sym (finite_as_lem x f)) h
