-- Laws of the kinds: what a kind says of the exponent field and the fraction, that every pattern falls under exactly one case, and that the kind
-- of a value is that of its pattern. Assumes nothing.
use Prim.Native.Nat.{ℕ, zero, suc, ◌+◌, ◌*◌, ◌%◌, ◌/◌, ◌^◌, ◌≤◌, ◌<◌}
use native.Mathlib.Decide.{dec_le}
use native.Mathlib.Omega.{arith}
use mathlib.Core.Path.{◌≡◌, refl, sym, ap, ◌∙◌, subst}
use mathlib.Core.Bool.{Bool, true, false, not, ◌&&◌, cond, true≢false}
use lib.Dec.{T, eqb}
use lib.Pow.{low as low-digits}
use lib.Ieee.{Float, nan, inf, fin, binary64, to_bits, of_bits, is_nan, nan_bits}
use lib.Ieee.Bits.{to_bits-of_bits, nan_bits_is}
use borrow.Author.Tests.{lt-ltb, ne_eqb, eqb-true, eqb-false}
use Rattle.binary64.specs.declared.kinds.Kind.{Kind}
use Rattle.binary64.specs.declared.kinds.Kind.TheVariants.{Zero, Subnormal, Normal, Infinite, NaN}
use Rattle.binary64.specs.Kinds.{exponent_field, fraction, FieldKind, all_zeros, between, all_ones, field_kind, FractionKind, zero_fraction, nonzero_fraction, fraction_kind, kind_of, kind_of_fields, kind_of_bits, kind}

-- ---- the kind of a field x and a fraction t

some_fraction : (t : ℕ) → 0 < t → fraction_kind t ≡ nonzero_fraction
unfolding fraction_kind
some_fraction t h = rw (ne_eqb t 0 (λ e. omega arith))

between_field : (x : ℕ) → 1 ≤ x → x ≤ 2046 → field_kind x ≡ between
unfolding field_kind
between_field x low high = rw (ne_eqb x 0 (λ e. omega arith)) (ap (λ (b : Bool). cond b between all_ones) (lt-ltb x _ (omega arith)))

pub kind_zero : kind_of_fields 0 0 ≡ Zero
unfolding kind_of_fields
kind_zero = refl

pub kind_subnormal : (t : ℕ) → 0 < t → kind_of_fields 0 t ≡ Subnormal
unfolding kind_of_fields
kind_subnormal t h = rw (some_fraction t h)

pub kind_normal : (x : ℕ) → 1 ≤ x → x ≤ 2046 → (t : ℕ) → kind_of_fields x t ≡ Normal
unfolding kind_of_fields
kind_normal x low high t = rw (between_field x low high) (go (fraction_kind t))
  where
    go : (k : FractionKind) → kind_of between k ≡ Normal
    go zero_fraction = refl
    go nonzero_fraction = refl

pub kind_infinite : kind_of_fields 2047 0 ≡ Infinite
unfolding kind_of_fields
kind_infinite = refl

pub kind_nan : (t : ℕ) → 0 < t → kind_of_fields 2047 t ≡ NaN
unfolding kind_of_fields
kind_nan t h = rw (some_fraction t h)

-- the other way: what a kind says of them, each kind's numbers
pub data Case : ℕ → ℕ → Kind → Type 0 where
  zero_case : Case 0 0 Zero
  subnormal_case : {t : ℕ} → 0 < t → Case 0 t Subnormal
  normal_case : {x t : ℕ} → 1 ≤ x → x ≤ 2046 → Case x t Normal
  infinite_case : Case 2047 0 Infinite
  nan_case : {t : ℕ} → 0 < t → Case 2047 t NaN

pub case_of : (x t : ℕ) → x ≤ 2047 → Case x t (kind_of_fields x t)
case_of zero zero h = rw kind_zero zero_case
case_of zero (suc t) h = let some : 0 < suc t = omega arith in rw (kind_subnormal (suc t) some) (subnormal_case some)
case_of (suc x) t h = elim (dec_le (suc x) 2046) [
  | yes high ↦ (let low : 1 ≤ suc x = omega arith in rw (kind_normal (suc x) low high t) (normal_case low high))
  | no n ↦ (let e : suc x ≡ 2047 = omega arith in rw e (last t))
]
  where
    last : (t : ℕ) → Case 2047 t (kind_of_fields 2047 t)
    last zero = rw kind_infinite infinite_case
    last (suc t) = let some : 0 < suc t = omega arith in rw (kind_nan (suc t) some) (nan_case some)

pub pattern_case : (p : ℕ) → Case (exponent_field p) (fraction p) (kind_of_bits p)
unfolding exponent_field kind_of_bits
pattern_case p = case_of (p % 2 ^ 63 / 2 ^ 52) (fraction p) (omega arith)

subnormal_case_fields : (x t : ℕ) → Case x t Subnormal → (x ≡ 0) × (0 < t)
subnormal_case_fields x t (subnormal_case some) = (refl, some)

pub subnormal_fields : (p : ℕ) → kind_of_bits p ≡ Subnormal → (exponent_field p ≡ 0) × (0 < fraction p)
subnormal_fields p e = subnormal_case_fields (exponent_field p) (fraction p) (subst (Case (exponent_field p) (fraction p)) e (pattern_case p))

normal_case_fields : (x t : ℕ) → Case x t Normal → (1 ≤ x) × (x ≤ 2046)
normal_case_fields x t (normal_case low high) = (low, high)

pub normal_fields : (p : ℕ) → kind_of_bits p ≡ Normal → (1 ≤ exponent_field p) × (exponent_field p ≤ 2046)
normal_fields p e = normal_case_fields (exponent_field p) (fraction p) (subst (Case (exponent_field p) (fraction p)) e (pattern_case p))

-- the fields of a pattern without a sign's digit
pub field_is : (x t : ℕ) → t < 2 ^ 52 → x ≤ 2047 → exponent_field (x * 2 ^ 52 + t) ≡ x
unfolding exponent_field
field_is x t h l = omega arith

pub fraction_is : (x t : ℕ) → t < 2 ^ 52 → fraction (x * 2 ^ 52 + t) ≡ t
unfolding fraction
fraction_is x t h = low-digits x 52 h

-- ---- every pattern falls under exactly one case, whose row gives its kind, and that is the kind of its numbers

abbrev pub InField : FieldKind → ℕ → Type 0
InField all_zeros x = x ≡ 0
InField between x = (1 ≤ x) × (x ≤ 2046)
InField all_ones x = x ≡ 2047

abbrev pub InFraction : FractionKind → ℕ → Type 0
InFraction zero_fraction t = t ≡ 0
InFraction nonzero_fraction t = 0 < t

pub record Under (p : ℕ) (f : FieldKind) (k : FractionKind) : Type 0 where
  pub in_field : InField f (exponent_field p)
  pub in_fraction : InFraction k (fraction p)

pub record OneCase (p : ℕ) : Type 0 where
  pub of_field : FieldKind
  pub of_fraction : FractionKind
  pub under : Under p of_field of_fraction
  pub only : (f : FieldKind) (k : FractionKind) → Under p f k → (f ≡ of_field) × (k ≡ of_fraction)
  pub row : kind_of_bits p ≡ kind_of of_field of_fraction
  pub answer : Case (exponent_field p) (fraction p) (kind_of_bits p)

in_field_lem : (x : ℕ) → x ≤ 2047 → InField (field_kind x) x
unfolding field_kind
in_field_lem zero h = refl
in_field_lem (suc x) h = elim (dec_le (suc x) 2046) [
  | yes high ↦ (let low : 1 ≤ suc x = omega arith in rw (between_field (suc x) low high) (low, high))
  | no n ↦ (let e : suc x ≡ 2047 = omega arith in rw e refl)
]

only_field : (x : ℕ) (f : FieldKind) → InField f x → f ≡ field_kind x
unfolding field_kind
only_field x all_zeros h = rw h refl
only_field x between h = sym (between_field x h.0 h.1)
only_field x all_ones h = rw h refl

in_fraction_lem : (t : ℕ) → InFraction (fraction_kind t) t
unfolding fraction_kind
in_fraction_lem zero = refl
in_fraction_lem (suc t) = let some : 0 < suc t = omega arith in rw (some_fraction (suc t) some) some

only_fraction : (t : ℕ) (k : FractionKind) → InFraction k t → k ≡ fraction_kind t
unfolding fraction_kind
only_fraction t zero_fraction h = rw h refl
only_fraction t nonzero_fraction h = sym (some_fraction t h)

pub one_case : (p : ℕ) → OneCase p
unfolding exponent_field kind_of_bits
one_case p =
    record {
      of_field = field_kind (exponent_field p);
      of_fraction = fraction_kind (fraction p);
      under = record { in_field = in_field_lem (exponent_field p) (omega arith); in_fraction = in_fraction_lem (fraction p) };
      only = λ f k u. (only_field (exponent_field p) f u.in_field, only_fraction (fraction p) k u.in_fraction);
      row = refl;
      answer = pattern_case p;
    }

-- ---- the kind of a value is that of its pattern

is_nan_lem : (v : Float) → is_nan v ≡ true → v ≡ nan
unfolding is_nan
is_nan_lem nan h = refl
is_nan_lem (inf s) h = absurd (true≢false (sym h))
is_nan_lem (fin s m e) h = absurd (true≢false (sym h))

pub kind_nan_value : kind nan ≡ NaN
unfolding kind
kind_nan_value = refl

nan_pattern : (p : ℕ) → nan_bits binary64 p ≡ true → kind_of_bits p ≡ NaN
unfolding nan_bits kind_of_bits exponent_field fraction
nan_pattern p h = go (eqb (p % 2 ^ 63 / 2 ^ 52) 2047) refl (eqb (p % 2 ^ 52) 0) refl h
  where
    go : (a : Bool) → eqb (p % 2 ^ 63 / 2 ^ 52) 2047 ≡ a → (b : Bool) → eqb (p % 2 ^ 52) 0 ≡ b → a && not b ≡ true → kind_of_fields (p % 2 ^ 63 / 2 ^ 52) (p % 2 ^ 52) ≡ NaN
    go true e true f k = absurd (true≢false (sym k))
    go true e false f k =
        let some : 0 < p % 2 ^ 52 = (let n = eqb-false (p % 2 ^ 52) 0 f in omega arith) in
        ap (λ x. kind_of_fields x (p % 2 ^ 52)) (eqb-true (p % 2 ^ 63 / 2 ^ 52) 2047 e) ∙ kind_nan (p % 2 ^ 52) some
    go false e b f k = absurd (true≢false (sym k))

pub kind_of_pattern : (p : ℕ) → p < 2 ^ 64 → kind (of_bits binary64 p) ≡ kind_of_bits p
unfolding kind
kind_of_pattern p h = go (nan_bits binary64 p) refl
  where
    go : (b : Bool) → nan_bits binary64 p ≡ b → kind_of_bits (to_bits binary64 (of_bits binary64 p)) ≡ kind_of_bits p
    go true e = ap (λ v. kind_of_bits (to_bits binary64 v)) (is_nan_lem (of_bits binary64 p) (sym (nan_bits_is binary64 p) ∙ e)) ∙ sym (nan_pattern p e)
    go false e = ap kind_of_bits (to_bits-of_bits binary64 p h (subst (λ b. T (not b)) (sym (sym (nan_bits_is binary64 p) ∙ e)) tt))
