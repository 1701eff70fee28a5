-- The values of patterns, by `magnitude`: a pattern is a significand r and an exponent k, as r + k * 2 ^ 52, its value is r * 2 ^ k, and the value grows
-- strictly from each pattern to the next, up to 2 ^ 63. Assumes nothing.
use mathlib.Core.Path.{◌≡◌, refl, sym, ap, ◌∙◌, subst}
use mathlib.Core.Logic.{◌⊎◌, inl, inr}
use Prim.Native.Nat.{ℕ, zero, suc, ◌+◌, ◌-◌, ◌*◌, ◌/◌, ◌%◌, ◌^◌, ◌≤◌, ◌<◌}
use native.Mathlib.Nat.{zero-lt-suc, le_of_lt, le_of_eq, lt_of_not-le, add-zero, mul-one, mul_assoc, add-mul, one-mul, pow-succ', eq-or-lt_of_le, mod-lt, le-add_right, lt_trans, le_dest}
use native.Mathlib.Decide.{dec_le}
use native.Mathlib.Omega.{arith}
use lib.Dec.{lit≤}
use lib.Pow.{pow_pos, split}
use Rattle.binary64.specs.declared.kinds.Kind.{Kind}
use Rattle.binary64.specs.Kinds.{kind_of_fields, kind_of_bits}
use Rattle.binary64.specs.Root.{in_units, magnitude}
use Rattle.binary64.proofs.KindLaws.{Case, normal_case, infinite_case, nan_case, case_of, kind_subnormal, field_is, fraction_is}

-- ---- the value of a significand r at an exponent k

magnitude_fields : (x t : ℕ) → t < 2 ^ 52 → x ≤ 2047 → magnitude (x * 2 ^ 52 + t) ≡ in_units (kind_of_fields x t) x t
unfolding magnitude kind_of_bits
magnitude_fields x t h l = rw (field_is x t h l, fraction_is x t h) refl

pub magnitude_subnormal : (p : ℕ) → p < 2 ^ 52 → magnitude p ≡ p
unfolding in_units kind_of_fields
magnitude_subnormal p h =
    let at : p ≡ 0 * 2 ^ 52 + p = omega arith in
    ap magnitude at ∙ magnitude_fields 0 p h (lit≤ tt) ∙ go p
  where
    go : (t : ℕ) → in_units (kind_of_fields 0 t) 0 t ≡ t
    go zero = refl
    go (suc t) = rw (kind_subnormal (suc t) (zero-lt-suc t)) refl

with_lead : (k t : ℕ) (κ : Kind) → Case (suc k) t κ → in_units κ (suc k) t ≡ (2 ^ 52 + t) * 2 ^ (suc k - 1)
unfolding in_units
with_lead k t κ (normal_case low high) = refl
with_lead k t κ infinite_case = refl
with_lead k t κ (nan_case some) = refl

pub magnitude_normal : (k f : ℕ) → f < 2 ^ 52 → k < 2047 → magnitude (suc k * 2 ^ 52 + f) ≡ (2 ^ 52 + f) * 2 ^ k
magnitude_normal k f h l =
    let less : suc k - 1 ≡ k = omega arith in
    magnitude_fields (suc k) f h l
    ∙ with_lead k f (kind_of_fields (suc k) f) (case_of (suc k) f l)
    ∙ ap (λ (x : ℕ). (2 ^ 52 + f) * 2 ^ x) less

-- a significand without its leading digit stands only at the least exponent
abbrev pub Canonical : ℕ → ℕ → Type 0
Canonical r k = (k ≡ 0) ⊎ (2 ^ 52 ≤ r)

magnitude_significand : (r k : ℕ) → 2 ^ 52 ≤ r → r ≤ 2 ^ 53 → r + k * 2 ^ 52 < 2 ^ 63 → magnitude (r + k * 2 ^ 52) ≡ r * 2 ^ k
magnitude_significand r k g h b = elim (eq-or-lt_of_le h) [
  | inl e ↦
      let at : r + k * 2 ^ 52 ≡ suc (suc k) * 2 ^ 52 + 0 = omega arith in
      ap magnitude at ∙ magnitude_normal (suc k) 0 (pow_pos 52) (omega arith) ∙ ap (λ (x : ℕ). 2 ^ 52 * x) (pow-succ' 2 k)
      ∙ sym (mul_assoc (2 ^ 52) 2 (2 ^ k)) ∙ ap (λ (x : ℕ). x * 2 ^ k) (sym e)
  | inr l ↦
      let at : r + k * 2 ^ 52 ≡ suc k * 2 ^ 52 + (r - 2 ^ 52) = omega arith in
      let f_lt : r - 2 ^ 52 < 2 ^ 52 = omega arith in
      let back : 2 ^ 52 + (r - 2 ^ 52) ≡ r = omega arith in
      ap magnitude at ∙ magnitude_normal k (r - 2 ^ 52) f_lt (omega arith) ∙ ap (λ (x : ℕ). x * 2 ^ k) back
]

pub magnitude_is : (r k : ℕ) → r ≤ 2 ^ 53 → Canonical r k → r + k * 2 ^ 52 < 2 ^ 63 → magnitude (r + k * 2 ^ 52) ≡ r * 2 ^ k
magnitude_is r k h (inl e) b = elim (dec_le (2 ^ 52) r) [
  | yes g ↦ magnitude_significand r k g h b
  | no n ↦
      let at : r + k * 2 ^ 52 ≡ r = omega arith in
      ap magnitude at ∙ magnitude_subnormal r (lt_of_not-le n) ∙ sym (mul-one r) ∙ ap (λ (x : ℕ). r * 2 ^ x) (sym e)
]
magnitude_is r k h (inr g) b = magnitude_significand r k g h b

-- every pattern is a significand at an exponent
record Parts (p : ℕ) : Type 0 where
  pub significand : ℕ
  pub exponent : ℕ
  pub below : significand < 2 ^ 53
  pub canonical : Canonical significand exponent
  pub pattern : p ≡ significand + exponent * 2 ^ 52

parts : (p : ℕ) → Parts p
parts p = go (p / 2 ^ 52) (split p 52) (mod-lt p (pow_pos 52))
  where
    go : (field : ℕ) → field * 2 ^ 52 + p % 2 ^ 52 ≡ p → p % 2 ^ 52 < 2 ^ 52 → Parts p
    go zero e l = record { significand = p % 2 ^ 52; exponent = 0; below = omega arith; canonical = inl refl; pattern = omega arith }
    go (suc k) e l =
        record {
          significand = 2 ^ 52 + p % 2 ^ 52;
          exponent = k;
          below = omega arith;
          canonical = inr (le-add_right (2 ^ 52) (p % 2 ^ 52));
          pattern = omega arith;
        }

magnitude_parts : (p : ℕ) (w : Parts p) → p < 2 ^ 63 → magnitude p ≡ w.significand * 2 ^ w.exponent
magnitude_parts p w b =
    ap magnitude w.pattern ∙ magnitude_is w.significand w.exponent (le_of_lt w.below) w.canonical (omega (arith, w.pattern))

-- ---- from a pattern to the next

canonical_suc : (r k : ℕ) → Canonical r k → Canonical (r + 1) k
canonical_suc r k (inl e) = inl e
canonical_suc r k (inr g) = inr (omega arith)

magnitude_next : (p : ℕ) (w : Parts p) → p + 1 < 2 ^ 63 → magnitude (p + 1) ≡ (w.significand + 1) * 2 ^ w.exponent
magnitude_next p w b =
    let r = w.significand in
    let k = w.exponent in
    let at : p + 1 ≡ (r + 1) + k * 2 ^ 52 = omega (arith, w.pattern) in
    let h : r + 1 ≤ 2 ^ 53 = omega (arith, w.below) in
    ap magnitude at ∙ magnitude_is (r + 1) k h (canonical_suc r k w.canonical) (omega arith)

-- the value before a power of two
pub magnitude_before_power : (j : ℕ) → j < 2047 → magnitude (2 ^ 52 + suc j * 2 ^ 52 - 1) ≡ (2 ^ 53 - 1) * 2 ^ j
magnitude_before_power j b =
    let at : 2 ^ 52 + suc j * 2 ^ 52 - 1 ≡ (2 ^ 53 - 1) + j * 2 ^ 52 = omega arith in
    ap magnitude at ∙ magnitude_is (2 ^ 53 - 1) j (lit≤ tt) (inr (lit≤ tt)) (omega arith)

magnitude_step : (p : ℕ) → p + 1 < 2 ^ 63 → magnitude p < magnitude (p + 1)
magnitude_step p b =
    let w = parts p in
    let u : ℕ = 2 ^ w.exponent in
    let r = w.significand in
    let grown : (r + 1) * u ≡ r * u + u = add-mul r 1 u ∙ ap (λ (x : ℕ). r * u + x) (one-mul u) in
    omega (arith, magnitude_parts p w (omega arith), magnitude_next p w b, grown, pow_pos w.exponent)

magnitude_lt : (p d : ℕ) → p + suc d < 2 ^ 63 → magnitude p < magnitude (p + suc d)
magnitude_lt p zero b = magnitude_step p b
magnitude_lt p (suc d) b =
    let at : p + suc d + 1 ≡ p + suc (suc d) = omega arith in
    lt_trans (magnitude_lt p d (omega arith)) (subst (λ (q : ℕ). magnitude (p + suc d) < magnitude q) at (magnitude_step (p + suc d) (omega arith)))

pub magnitude_mono : {p q : ℕ} → p ≤ q → q < 2 ^ 63 → magnitude p ≤ magnitude q
magnitude_mono {p} {q} h b = go (le_dest h).0 (le_dest h).1
  where
    go : (d : ℕ) → p + d ≡ q → magnitude p ≤ magnitude q
    go zero e = le_of_eq (ap magnitude (sym (add-zero p) ∙ e))
    go (suc d) e = le_of_lt (subst (λ (x : ℕ). magnitude p < magnitude x) e (magnitude_lt p d (omega arith)))
