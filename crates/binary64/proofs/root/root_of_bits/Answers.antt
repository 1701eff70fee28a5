-- `binary64::root::root_of_bits` meets its contract: the shift loses nothing, so the integer root is that of `radicand`, and `rounded_found` says the rest.
-- Assumes nothing.
use mathlib.Core.Path.{◌≡◌, sym, subst}
use Prim.Native.Nat.{ℕ, ◌*◌, ◌%◌, ◌^◌, ◌<◌}
use native.Mathlib.Nat.{mod-eq_of_lt}
use native.Mathlib.Omega.{arith}
use Rattle.binary64.specs.RootSteps.{Normalised, IntegerRoot}
use Rattle.binary64.proofs.Rounding.{radicand, even_range, root_range, rounded_found}
use Rattle.binary64.proofs.root.root_of_bits.Goals as goal

shifted_lt : (p s x : ℕ) → Normalised p s x → s * 2 ^ (x % 2) < 2 ^ 54
shifted_lt p s x n = omega (arith, (even_range s x n.significand_ge n.significand_lt).1)

shifted_all : (p s x : ℕ) → Normalised p s x → s * 2 ^ (x % 2) % 2 ^ 64 ≡ s * 2 ^ (x % 2)
shifted_all p s x n = let h = shifted_lt p s x n in mod-eq_of_lt (omega arith)

root_of_radicand : (p s x q t : ℕ) → Normalised p s x → IntegerRoot (s * 2 ^ (x % 2) % 2 ^ 64 * 2 ^ 54) q t → IntegerRoot (radicand s x) q t
root_of_radicand p s x q t n w = subst (λ (y : ℕ). IntegerRoot (y * 2 ^ 54) q t) (shifted_all p s x n) w

pub integer_root-floor-requires : goal.integer_root-floor-requires
integer_root-floor-requires c =
    let p = c.args.bits in
    let s = c.normalise-x.result.significand in
    let x = c.normalise-x.result.exponent in
    let n = c.normalise-x.ensures in
    subst (λ (y : ℕ). y < 2 ^ 54) (sym (shifted_all p s x n)) (shifted_lt p s x n)

pub overflow_add-result : goal.overflow_add-result
overflow_add-result c =
    let p = c.args.bits in
    let s = c.normalise-x.result.significand in
    let x = c.normalise-x.result.exponent in
    let q = c.integer_root-floor.result.root in
    let t = c.integer_root-floor.result.remainder in
    let n = c.normalise-x.ensures in
    omega (arith, (root_range p s x q t n (root_of_radicand p s x q t n c.integer_root-floor.ensures)).1)

pub returns : goal.returns
returns c =
    let p = c.args.bits in
    let s = c.normalise-x.result.significand in
    let x = c.normalise-x.result.exponent in
    let q = c.integer_root-floor.result.root in
    let t = c.integer_root-floor.result.remainder in
    let n = c.normalise-x.ensures in
    rounded_found p s x q t n (root_of_radicand p s x q t n c.integer_root-floor.ensures) c.requires.unsigned
