-- `convert::half::Half::move_to_packed` meets its contract. The loop's invariant: the rows from `left` to i are moved. Assumes nothing.
use Prim.Native.Nat.{◌-◌}
use Rattle.convert.specs.Halves.{Moved}
use Rattle.convert.proofs.half.Half.move_to_packed.Given as goal

abbrev pub invariant-loop-i : goal.invariant-loop-i
invariant-loop-i l =
    Moved l.self.route.conversion l.self.route.form l.self.route.shape.order l.self.left l.i l.self.left l.self.right l.source l.initial.target l.target

abbrev pub decreases-loop-i : goal.decreases-loop-i
decreases-loop-i l = l.self.route.shape.order - l.i
