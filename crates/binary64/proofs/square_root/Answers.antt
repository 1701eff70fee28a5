-- `binary64::square_root` meets its contract, kind by kind. Assumes nothing.
use mathlib.Core.Path.{◌≡◌, refl, sym, ap, ◌∙◌, subst}
use mathlib.Core.Logic.{◌⊎◌, inl, inr}
use mathlib.Core.Bool.{Bool, true, false, not}
use Prim.Native.Nat.{ℕ, ◌*◌, ◌^◌, ◌<◌}
use lib.Dec.{T}
use lib.Ieee.{Float, nan, binary64, div, of_bits, to_bits, fits, is_nan, nan_bits}
use Rattle.binary64.specs.declared.kinds.Kind.{Kind}
use Rattle.binary64.specs.declared.kinds.Kind.TheVariants.{Zero, Subnormal, Normal, Infinite, NaN}
use Rattle.binary64.specs.Kinds.{kind, finite_kind, finite, positive}
use Rattle.binary64.specs.Root.{root_bits, root_by, root, squares_to, exact}
use Rattle.binary64.specs.RootSteps.{PositiveFinite}
use Rattle.binary64.proofs.Values.{nan_of_kind, number_of_kind, pattern_number}
use Rattle.binary64.proofs.RootLaws.{root_is, positive_pattern, root_below, exact_bits, inexact_below, inexact_infinite, inexact_zero}
use Rattle.binary64.proofs.square_root.Goals as goal

-- ---- a zero, an infinity, a NaN

module _ (x : Float) where
  infinite_exact : kind x ≡ Infinite → false ≡ exact x
  unfolding finite
  infinite_exact e = sym (inexact_infinite x (ap finite_kind e))

  infinite_root : kind x ≡ Infinite → positive x ≡ true → x ≡ root x
  unfolding root
  infinite_root e a = rw (e, a) refl

  infinite_below : kind x ≡ Infinite → positive x ≡ false → nan ≡ root x
  unfolding root
  infinite_below e a = rw (e, a) refl

  itself : T (fits binary64 x) → (kind x ≡ Zero) ⊎ (kind x ≡ NaN) → (x ≡ root x) × (false ≡ exact x)
  unfolding root finite
  itself f (inl e) = (rw e refl, sym (inexact_zero x f e))
  itself f (inr e) = (rw e (nan_of_kind x f e), sym (inexact_infinite x (ap finite_kind e)))

-- ---- a subnormal or normal value

either : (P : Kind → Type 0) (κ : Kind) → P Subnormal → P Normal → (κ ≡ Subnormal) ⊎ (κ ≡ Normal) → P κ
either P κ s n (inl e) = subst P (sym e) s
either P κ s n (inr e) = subst P (sym e) n

module _ (x : Float) (k : (kind x ≡ Subnormal) ⊎ (kind x ≡ Normal)) where
  below_root : positive x ≡ false → (nan ≡ root x) × (false ≡ exact x)
  unfolding root
  below_root a = (rw a (either (λ κ. nan ≡ root_by κ false x) (kind x) refl refl k), sym (inexact_below x a))

  finite_value : T (finite x)
  unfolding finite
  finite_value = either (λ κ. T (finite_kind κ)) (kind x) tt tt k

  not_nan : T (not (is_nan x))
  unfolding finite
  not_nan = number_of_kind x (λ e. subst (λ κ. T (finite_kind κ)) e finite_value)

  module _ (f : T (fits binary64 x)) (a : T (positive x)) where
    rootable : PositiveFinite (to_bits binary64 x)
    rootable = positive_pattern x f finite_value a

    rooted : root x ≡ of_bits binary64 (root_bits (to_bits binary64 x))
    rooted = root_is x f finite_value a

    exactly : exact x ≡ squares_to (root_bits (to_bits binary64 x)) (to_bits binary64 x)
    exactly = exact_bits x f finite_value a

    root_number : (b : ℕ) → b ≡ root_bits (to_bits binary64 x) → T (not (nan_bits binary64 b))
    root_number b e = pattern_number b (subst (λ (y : ℕ). y < 2047 * 2 ^ 52) (sym e) (root_below x f finite_value a))

-- ---- the needs

is_true : {b : Bool} → b ≡ true → T b
is_true e = subst T (sym e) tt

second_kind : (x : Float) {κ : Kind} → κ ≡ kind x → (κ ≡ Subnormal) ⊎ (κ ≡ Normal) → (kind x ≡ Subnormal) ⊎ (kind x ≡ Normal)
second_kind x e h = subst (λ κ. (κ ≡ Subnormal) ⊎ (κ ≡ Normal)) e h

is_above : (c : goal.Then-x) → T (positive c.args.x)
unfolding of_bits positive
is_above c = is_true c.if-x.true

pub float_to_bits-x : goal.float_to_bits-x
float_to_bits-x c = not_nan c.args.x (second_kind c.args.x c.kind_of.ensures c.in-Subnormal.is)

pub root_of_bits-found-requires : goal.root_of_bits-found-requires
root_of_bits-found-requires c = rootable c.args.x (second_kind c.args.x c.kind_of.ensures c.in-Subnormal.is) (is_true c.well_formed.0.1) (is_above c)

pub float_from_bits-value : goal.float_from_bits-value
float_from_bits-value c =
    root_number c.args.x (second_kind c.args.x c.kind_of.ensures c.in-Subnormal.is) (is_true c.well_formed.0.1) (is_above c.before)
    c.root_of_bits-found.result.bits c.root_of_bits-found.ensures.bits

pub returns-in-Zero : goal.returns-in-Zero
returns-in-Zero c =
    itself c.args.x (is_true c.well_formed.0.1)
    (subst (λ κ. (κ ≡ Zero) ⊎ (κ ≡ NaN)) c.kind_of.ensures c.in-Zero.is)

pub returns-then-x : goal.returns-then-x
returns-then-x c =
    let kinds = second_kind c.args.x c.kind_of.ensures c.in-Subnormal.is in
    let holds = is_true c.well_formed.0.1 in (
      ap (of_bits binary64) c.root_of_bits-found.ensures.bits ∙ sym (rooted c.args.x kinds holds (is_above c.before)),
      c.root_of_bits-found.ensures.exactly ∙ sym (exactly c.args.x kinds holds (is_above c.before)),
    )

pub returns-else-x : goal.returns-else-x
unfolding of_bits div positive
returns-else-x c = below_root c.args.x (second_kind c.args.x c.kind_of.ensures c.in-Subnormal.is) c.if-x.false

pub returns-then-x-2 : goal.returns-then-x-2
unfolding of_bits positive
returns-then-x-2 c =
    let x = c.args.x in
    (infinite_root x (sym c.kind_of.ensures ∙ c.in-Infinite.is) c.if-x-2.true, infinite_exact x (sym c.kind_of.ensures ∙ c.in-Infinite.is))

pub returns-else-x-2 : goal.returns-else-x-2
unfolding of_bits div positive
returns-else-x-2 c =
    let x = c.args.x in
    (infinite_below x (sym c.kind_of.ensures ∙ c.in-Infinite.is) c.if-x-2.false, infinite_exact x (sym c.kind_of.ensures ∙ c.in-Infinite.is))
