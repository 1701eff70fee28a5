-- `binary64::is_finite` meets its contract, by cases on the kind. Assumes nothing.
use mathlib.Core.Logic.{◌⊎◌, inl, inr}
use mathlib.Core.Path.{◌≡◌, refl, ap, ◌∙◌}
use mathlib.Core.Bool.{true, false}
use Rattle.binary64.specs.declared.kinds.Kind.{Kind}
use Rattle.binary64.specs.declared.kinds.Kind.TheVariants.{Zero, Subnormal, Normal, Infinite, NaN}
use Rattle.binary64.specs.Kinds.{finite_kind, finite}
use Rattle.binary64.proofs.is_finite.Goals as goal

first_three : (κ : Kind) → (κ ≡ Zero) ⊎ ((κ ≡ Subnormal) ⊎ (κ ≡ Normal)) → true ≡ finite_kind κ
unfolding finite_kind
first_three Zero h = refl
first_three Subnormal h = refl
first_three Normal h = refl
first_three Infinite (inl e) = absurd cc
first_three Infinite (inr (inl e)) = absurd cc
first_three Infinite (inr (inr e)) = absurd cc
first_three NaN (inl e) = absurd cc
first_three NaN (inr (inl e)) = absurd cc
first_three NaN (inr (inr e)) = absurd cc

last_two : (κ : Kind) → ¬ (κ ≡ Zero) → ¬ (κ ≡ Subnormal) → ¬ (κ ≡ Normal) → false ≡ finite_kind κ
unfolding finite_kind
last_two Zero z s n = absurd (z refl)
last_two Subnormal z s n = absurd (s refl)
last_two Normal z s n = absurd (n refl)
last_two Infinite z s n = refl
last_two NaN z s n = refl

pub returns-in-Zero : goal.returns-in-Zero
unfolding finite
returns-in-Zero c = first_three c.kind_of.result c.in-Zero.is ∙ ap finite_kind c.kind_of.ensures

pub returns-in_default : goal.returns-in_default
unfolding finite
returns-in_default c = last_two c.kind_of.result c.in_default.not-Zero c.in_default.not-Subnormal c.in_default.not-Normal ∙ ap finite_kind c.kind_of.ensures
