-- A loop that stores f q at a place of its own: what stands in the list after r turns. Assumes nothing.
use Prim.Native.Nat.{ℕ, ◌+◌, ◌<◌}
use native.Mathlib.Omega.{arith}
use native.Mathlib.Decide.{dec_lt}
use mathlib.Core.Path.{◌≡◌, ◌∙◌}
use mathlib.Core.Logic.{◌≢◌}
use mathlib.Core.List.{List}
use lib.ListN.{length, set, length-set}
use lib.Seq.{get_or-set_same, get_or-set_other}
use lib.Ieee.{Float, nan}
use Rattle.kernels.specs.Kernels.{Scattered}

module _ (place : ℕ → ℕ) (f : ℕ → Float) (v₀ : List Float) where
  pub scattered_next :
      (r : ℕ) (v : List Float) (x : Float) → place r < length v₀ → ((s : ℕ) → s < r → place s ≢ place r) → Scattered r place f v₀ v → x ≡ f r →
      Scattered (r + 1) place f v₀ (set v (place r) x)
  scattered_next r v x room apart so e =
      record {
        size = length-set v (place r) x ∙ so.size;
        inside = λ s h.
            elim (dec_lt s r) [
              | yes before ↦ get_or-set_other v (place r) (place s) x nan (apart s before) ∙ so.inside s before
              | no after ↦
                  let here : s ≡ r = omega arith in
                  rw here (get_or-set_same v (place r) x nan (omega (arith, so.size)) ∙ e)
            ];
        outside = λ p none.
            get_or-set_other v (place r) p x nan (none r (omega arith)) ∙ so.outside p (λ s h. none s (omega arith));
      }
