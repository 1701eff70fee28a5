-- `convert::route::Route::copy_columns` meets its contract. The loop's invariant: the columns before j are moved. Assumes nothing.
use Prim.Native.Nat.{◌≤◌}
use Rattle.convert.specs.Halves.{Moved}
use Rattle.convert.proofs.route.Route.copy_columns.Given as goal

abbrev pub invariant-loop-j : goal.invariant-loop-j
invariant-loop-j l =
    (l.j ≤ l.right) × Moved l.self.conversion l.self.form l.self.shape.order 0 l.self.shape.order l.left l.j l.source l.initial.target l.target
