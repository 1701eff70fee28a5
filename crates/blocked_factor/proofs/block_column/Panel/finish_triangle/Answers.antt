-- `blocked_factor::block_column::Panel::finish_triangle` meets its contract. Assumes nothing.
use native.Mathlib.Omega.{arith}
use mathlib.Core.Path.{◌≡◌}
use Prim.Native.Nat.{◌+◌, min}
use Rattle.blocked_factor.proofs.Finishing.{triangle_next}
use Rattle.blocked_factor.proofs.block_column.Panel.finish_triangle.Goals as goal

pub loop-s-preserved : goal.loop-s-preserved
loop-s-preserved c =
    let e : min (c.args.self.s0 + c.args.self.g) c.loop-s.s ≡ c.loop-s.s = omega arith in
    triangle_next (omega arith) (omega arith) c.loop-s.invariant (rw e at c.finish_rows.ensures) c.finish_diagonal-judged.ensures

pub returns : goal.returns
returns c =
    let e : c.loop-s.s ≡ c.args.self.s0 + c.args.self.g = omega arith in
    rw e at c.loop-s.invariant
