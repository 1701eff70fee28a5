-- Laws of `root` and `exact` on floats: where the root is positive, finite, and a value of the format, and where it is exact. Assumes nothing.
use mathlib.Core.Logic.{◌⊎◌, inl, inr}
use mathlib.Core.Path.{◌≡◌, refl, sym, ap, ◌∙◌, subst}
use mathlib.Core.Bool.{Bool, true, false, not, ◌&&◌}
use Prim.Native.Nat.{ℕ, zero, suc, ◌*◌, ◌^◌, ◌≤◌, ◌<◌, zero-le}
use native.Mathlib.Nat.{lt_of_le_of_lt, mul-pos, zero-lt-suc}
use native.Mathlib.Omega.{arith}
use lib.Dec.{T, ltb→lt, lt→ltb}
use lib.Ieee.{Float, nan, inf, fin, binary64, up, down, lt, to_bits, of_bits, fits}
use lib.Ieee.Bits.{is_true, of_bits-fits, to_bits-of_bits, nan_bits_is}
use lib.Ieee.Exact.{HasValue}
use lib.Ieee.Fits.{up_pos}
use lib.Ieee.Positive as ieee
use lib.Ieee.Scale.{finite as library_is_finite}
use lib.Ieee.Positive.{first_pos}
use Rattle.binary64.specs.declared.kinds.Kind.{Kind}
use Rattle.binary64.specs.declared.kinds.Kind.TheVariants.{Zero, Subnormal, Normal}
use Rattle.binary64.specs.Kinds.{kind, finite_kind, finite, positive}
use Rattle.binary64.specs.Root.{magnitude, MidpointRule, root_bits, root_by, root, squares_to, exact}
use Rattle.binary64.specs.RootSteps.{PositiveFinite}
use Rattle.binary64.proofs.Magnitudes.{magnitude_subnormal, magnitude_mono}
use Rattle.binary64.proofs.Midpoints.{root_range, root_rule}
use Rattle.binary64.proofs.Values.{Value, zero_value, subnormal_value, normal_value, infinite_value, nan_value, value_case, finite_library, library_finite, library_of_value, pattern_value, pattern_number, bits_range}

-- ---- greater than zero and finite

positive_library : (x : Float) → T (library_is_finite x) → T (positive x) → T (ieee.positive x)
unfolding positive lt
positive_library nan f h = absurd f
positive_library (inf s) f h = absurd f
positive_library (fin true m e) f h = absurd h
positive_library (fin false m e) f h =
    lt→ltb 0 m (first_pos m (up e) (first_pos (m * up e) 1 (lt_of_le_of_lt zero-le (ltb→lt (0 * 1 * down e) (m * up e * 1) h))))

pub library_positive : (x : Float) → T (ieee.positive x) → T (positive x)
unfolding positive lt
library_positive nan h = absurd h
library_positive (inf s) h = absurd h
library_positive (fin true m e) h = absurd h
library_positive (fin false zero e) h = absurd h
library_positive (fin false (suc m) e) h =
    lt→ltb (0 * 1 * down e) (suc m * up e * 1) (let p = mul-pos (mul-pos (zero-lt-suc m) (up_pos e)) (zero-lt-suc 0) in omega arith)

positive_finite : (x : Float) → T (finite x) → T (positive x) → T (ieee.positive x)
positive_finite x f h = positive_library x (finite_library x f) h

-- ---- the root of a positive finite value

positive_kind : (x : Float) (κ : Kind) → Value x κ → T (ieee.positive x) → (κ ≡ Subnormal) ⊎ (κ ≡ Normal)
positive_kind x κ (zero_value {s = true}) h = absurd h
positive_kind x κ (zero_value {s = false}) h = absurd h
positive_kind x κ subnormal_value h = inl refl
positive_kind x κ normal_value h = inr refl
positive_kind x κ (infinite_value {s = s}) h = absurd h
positive_kind x κ nan_value h = absurd h

rooted : (κ : Kind) (above : Bool) (x : Float) → (κ ≡ Subnormal) ⊎ (κ ≡ Normal) → above ≡ true → root_by κ above x ≡ of_bits binary64 (root_bits (to_bits binary64 x))
unfolding root_by
rooted κ above x (inl e) a = rw (e, a) refl
rooted κ above x (inr e) a = rw (e, a) refl

pub root_is : (x : Float) → T (fits binary64 x) → T (finite x) → T (positive x) → root x ≡ of_bits binary64 (root_bits (to_bits binary64 x))
unfolding root
root_is x f g h = rooted (kind x) (positive x) x (positive_kind x (kind x) (value_case x f) (positive_finite x g h)) (is_true (positive x) h)

pub exact_is : (x : Float) → T (finite x) → T (positive x) → exact x ≡ squares_to (to_bits binary64 (root x)) (to_bits binary64 x)
unfolding exact
exact_is x g h = rw (is_true (positive x) h, is_true (finite x) g) refl

module _ (x : Float) (f : T (fits binary64 x)) (g : T (finite x)) (h : T (positive x)) where
  pub positive_pattern : PositiveFinite (to_bits binary64 x)
  unfolding kind
  positive_pattern =
      let p = positive_finite x g h in
      let below : to_bits binary64 x < 2047 * 2 ^ 52 = (bits_range x f p).1 in
      record { unsigned = omega arith; subnormal_or_normal = positive_kind x (kind x) (value_case x f) p }

  pub root_below : root_bits (to_bits binary64 x) < 2047 * 2 ^ 52
  root_below = (root_range (to_bits binary64 x) positive_pattern).1

  -- its value, in units of 2 ^ -1074
  root_value : HasValue (root x) false (magnitude (root_bits (to_bits binary64 x))) (2 ^ 1074)
  root_value =
      subst (λ (y : Float). HasValue y false (magnitude (root_bits (to_bits binary64 x))) (2 ^ 1074)) (sym (root_is x f g h))
      (pattern_value (root_bits (to_bits binary64 x)) root_below)

  pub root_finite : T (finite (root x))
  root_finite =
      let fit : T (fits binary64 (root x)) = subst (λ (y : Float). T (fits binary64 y)) (sym (root_is x f g h)) (of_bits-fits binary64 (root_bits (to_bits binary64 x))) in
      library_finite (root x) fit (library_of_value (root x) false (magnitude (root_bits (to_bits binary64 x))) (2 ^ 1074) root_value)

  pub root_positive : T (positive (root x))
  root_positive =
      let r : ℕ = root_bits (to_bits binary64 x) in
      let below : r < 2047 * 2 ^ 52 = root_below in
      let above : 1 ≤ r = omega (arith, (root_range (to_bits binary64 x) positive_pattern).0) in
      let more : magnitude 1 ≤ magnitude r = magnitude_mono above (omega arith) in
      library_positive (root x) (ieee.positive_of_value (root x) (magnitude r) (2 ^ 1074) root_value (omega (arith, magnitude_subnormal 1 (omega arith))))

  -- its pattern, and document 01's rule of the value and its root
  root_bits_lem : to_bits binary64 (root x) ≡ root_bits (to_bits binary64 x)
  root_bits_lem =
      let below : root_bits (to_bits binary64 x) < 2047 * 2 ^ 52 = root_below in
      ap (to_bits binary64) (root_is x f g h)
      ∙ to_bits-of_bits binary64 (root_bits (to_bits binary64 x)) (omega arith)
      (subst (λ (b : Bool). T (not b)) (nan_bits_is binary64 (root_bits (to_bits binary64 x))) (pattern_number (root_bits (to_bits binary64 x)) below))

  pub exact_bits : exact x ≡ squares_to (root_bits (to_bits binary64 x)) (to_bits binary64 x)
  exact_bits = exact_is x g h ∙ ap (λ (r : ℕ). squares_to r (to_bits binary64 x)) root_bits_lem

  pub root_midpoints : MidpointRule (to_bits binary64 x) (to_bits binary64 (root x))
  root_midpoints = subst (λ (y : ℕ). MidpointRule (to_bits binary64 x) y) (sym root_bits_lem) (root_rule (to_bits binary64 x) positive_pattern)

-- ---- the values without a root of document 01

module _ (x : Float) where
  pub inexact_below : positive x ≡ false → exact x ≡ false
  unfolding exact
  inexact_below e = rw e refl

  pub inexact_infinite : finite x ≡ false → exact x ≡ false
  unfolding exact
  inexact_infinite e = go (positive x)
    where
      go : (b : Bool) → b && (finite x && squares_to (to_bits binary64 (root x)) (to_bits binary64 x)) ≡ false
      go true = rw e refl
      go false = refl

  pub inexact_zero : T (fits binary64 x) → kind x ≡ Zero → exact x ≡ false
  unfolding finite
  inexact_zero f e = go (positive x) refl
    where
      never : (κ : Kind) → κ ≡ Zero → (κ ≡ Subnormal) ⊎ (κ ≡ Normal) → ⊥
      never κ z (inl s) = let w : ◌≡◌ {A = ℕ} 0 1 = cc in omega arith
      never κ z (inr n) = let w : ◌≡◌ {A = ℕ} 0 1 = cc in omega arith

      go : (b : Bool) → positive x ≡ b → exact x ≡ false
      go false h = inexact_below h
      go true h =
          absurd (never (kind x) e (positive_kind x (kind x) (value_case x f) (positive_finite x (subst (λ κ. T (finite_kind κ)) (sym e) tt) (subst T (sym h) tt))))
