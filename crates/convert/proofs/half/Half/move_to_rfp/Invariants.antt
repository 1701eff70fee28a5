-- `convert::half::Half::move_to_rfp` meets its contract. The loop's invariant: the columns before j are moved. Assumes nothing.
use Prim.Native.Nat.{◌-◌}
use Rattle.convert.specs.Halves.{Moved}
use Rattle.convert.proofs.half.Half.move_to_rfp.Given as goal

abbrev pub invariant-loop-j : goal.invariant-loop-j
invariant-loop-j l =
    Moved l.self.route.conversion l.self.route.form l.self.route.shape.order 0 l.self.route.shape.order l.self.left l.j l.source l.initial.target l.target

abbrev pub decreases-loop-j : goal.decreases-loop-j
decreases-loop-j l = l.self.right - l.j
