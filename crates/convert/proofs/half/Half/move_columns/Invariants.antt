-- `convert::half::Half::move_columns` meets its contract. The loop's invariant: the columns before j are moved. Assumes nothing.
use Prim.Native.Nat.{◌≤◌}
use Rattle.convert.specs.Halves.{Moved}
use Rattle.convert.proofs.half.Half.move_columns.Given as goal

abbrev pub invariant-loop-j : goal.invariant-loop-j
invariant-loop-j l =
    (l.j ≤ l.right) × Moved l.self.route.conversion l.self.route.form l.self.route.shape.order l.first l.end l.left l.j l.source l.initial.target l.target
