-- Document 01's rule for the root, as theorems about `root_bits`, for every positive finite pattern: its root meets the rule, strictly on both sides, and
-- nothing else does. At a power of two the gap below is half the gap above. Assumes nothing.
use mathlib.Core.Path.{◌≡◌, ap, ◌∙◌, subst}
use mathlib.Core.Logic.{inr}
use Prim.Native.Nat.{ℕ, suc, ◌+◌, ◌-◌, ◌*◌, ◌^◌, ◌≤◌, ◌<◌}
use native.Mathlib.Nat.{pow-succ'}
use native.Mathlib.Omega.{arith}
use lib.Dec.{lit≤}
use Rattle.binary64.specs.Root.{magnitude, MidpointRule, root_bits}
use Rattle.binary64.specs.RootSteps.{PositiveFinite}
use Rattle.binary64.proofs.Magnitudes.{magnitude_is, magnitude_before_power}
use Rattle.binary64.proofs.Normalising.{normalised}
use Rattle.binary64.proofs.IntegerRoots.{integer_root}
use Rattle.binary64.proofs.Rounding.{radicand, rounded_rule, rounded_root, rounded_range}
-- MidpointRule p r, for p and r below 2 ^ 63, gives r ≡ root_bits p
pub use Rattle.binary64.proofs.Bisection.{root_unique}

module _ (p : ℕ) (pattern : PositiveFinite p) where
  pub root_rule : MidpointRule p (root_bits p)
  root_rule =
      let (s, x, n) = normalised p pattern in
      let (q, t, w) = integer_root (radicand s x) in
      subst (λ (r : ℕ). MidpointRule p r) (rounded_root p s x q t n w pattern.unsigned) (rounded_rule p s x q t n w)

  -- the root is a normal finite value
  pub root_range : (2 ^ 52 < root_bits p) × (root_bits p < 2047 * 2 ^ 52)
  root_range =
      let (s, x, n) = normalised p pattern in
      let (q, t, w) = integer_root (radicand s x) in
      subst (λ (r : ℕ). (2 ^ 52 < r) × (r < 2047 * 2 ^ 52)) (rounded_root p s x q t n w pattern.unsigned) (rounded_range p s x q t n w)

halves : (u a b c : ℕ) → a ≡ 2 ^ 52 * (2 * u) → b ≡ (2 ^ 53 - 1) * u → c ≡ (2 ^ 52 + 1) * (2 * u) → 2 * (a - b) ≡ c - a
halves u a b c ea eb ec = omega arith

-- the first pattern of an exponent field k is a power of two
pub gap_below_power : (k : ℕ) → 2 ≤ k → k < 2047 → 2 * (magnitude (k * 2 ^ 52) - magnitude (k * 2 ^ 52 - 1)) ≡ magnitude (k * 2 ^ 52 + 1) - magnitude (k * 2 ^ 52)
gap_below_power k h b =
    let j = k - 2 in
    let twice : 2 ^ suc j ≡ 2 * 2 ^ j = pow-succ' 2 j in
    let at : k * 2 ^ 52 ≡ 2 ^ 52 + suc j * 2 ^ 52 = omega arith in
    let before : k * 2 ^ 52 - 1 ≡ 2 ^ 52 + suc j * 2 ^ 52 - 1 = omega arith in
    let after : k * 2 ^ 52 + 1 ≡ (2 ^ 52 + 1) + suc j * 2 ^ 52 = omega arith in
    halves (2 ^ j) (magnitude (k * 2 ^ 52)) (magnitude (k * 2 ^ 52 - 1)) (magnitude (k * 2 ^ 52 + 1))
    (ap magnitude at ∙ magnitude_is (2 ^ 52) (suc j) (lit≤ tt) (inr (lit≤ tt)) (omega arith) ∙ ap (λ (x : ℕ). 2 ^ 52 * x) twice)
    (ap magnitude before ∙ magnitude_before_power j (omega arith))
    (ap magnitude after ∙ magnitude_is (2 ^ 52 + 1) (suc j) (lit≤ tt) (inr (lit≤ tt)) (omega arith) ∙ ap (λ (x : ℕ). (2 ^ 52 + 1) * x) twice)
