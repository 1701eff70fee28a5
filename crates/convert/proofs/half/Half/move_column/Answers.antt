-- `convert::half::Half::move_column` meets its contract. Assumes nothing.
use Prim.Native.Nat.{ℕ}
use native.Mathlib.Omega.{arith}
use Rattle.calls.specs.Conversions.{reverse}
use Rattle.kernels.proofs.Transfers.{join_rows}
use Rattle.convert.proofs.Halves.{next_place, moved_at}
use Rattle.convert.proofs.half.Half.move_column.Goals as goal

pub loop-i-preserved : goal.loop-i-preserved
loop-i-preserved c =
    let self = c.args.self in
    let n : ℕ = self.route.shape.order in
    let steps = rw c.stride.ensures at c.ends-from_step.ensures in (
      omega arith,
      omega (arith, steps.0, next_place self.route.form n self.left self.right self.by_rows self.route.conversion c.loop-i.i c.args.j (omega arith) (omega arith) (omega arith)),
      omega (
        arith,
        steps.1,
        next_place self.route.form n self.left self.right self.by_rows (reverse self.route.conversion) c.loop-i.i c.args.j (omega arith) (omega arith) (omega arith),
      ),
      join_rows c.loop-i.invariant.3
          (moved_at self.route.conversion self.route.form n (omega arith) (omega arith) c.loop-i.invariant.1 c.loop-i.invariant.2),
    )
