-- The power is small, and the one that the definition names.
use Prim.Native.Nat.{◌^◌, ◌≤◌}
use native.Mathlib.Nat.{pow-le-pow_right, zero-lt-suc}
use native.Mathlib.Omega.{arith}
use mathlib.Core.Path.{◌≡◌, ap, ◌∙◌}
use Rattle.shape.specs.Places.{triangle}
use Rattle.acceptance.specs.Systems.{total}
use Rattle.acceptance.proofs.Systems.{triangle_small}
use Rattle.acceptance.proofs.total.Goals as goal

entries_are : (c : goal.After-triangle-entries) → c.triangle-entries.result ≡ triangle c.args.n
entries_are c = c.triangle-entries.ensures ∙ ap triangle c.new.ensures.0

pub overflow_cast-entries : goal.overflow_cast-entries
overflow_cast-entries c = omega (arith, entries_are c, triangle_small c.args.n c.requires)

pub pow-requires : goal.pow-requires
pow-requires c =
    let below : c.triangle-entries.result ≤ 6 = omega (arith, entries_are c, triangle_small c.args.n c.requires) in
    let p : 5 ^ c.triangle-entries.result ≤ 5 ^ 6 = pow-le-pow_right (zero-lt-suc 4) below in
    omega arith

pub returns : goal.returns
unfolding total
returns c = c.pow.ensures ∙ ap (λ k. 5 ^ k) (entries_are c.before)
