-- `convert::half::Half::move_last_rows` meets its contract. The loop's invariant: the rows from i to r are moved. Assumes nothing.
use Prim.Native.Nat.{◌≤◌}
use Rattle.convert.specs.Halves.{Moved}
use Rattle.convert.proofs.half.Half.move_last_rows.Given as goal

abbrev pub invariant-loop-r : goal.invariant-loop-r
invariant-loop-r l =
    (l.r ≤ l.self.route.shape.order)
    × Moved l.self.route.conversion l.self.route.form l.self.route.shape.order l.i l.r l.self.left l.right l.source l.initial.target l.target
