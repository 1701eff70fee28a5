-- `convert::half::Half::move_columns4` meets its contract. The loop's invariant: the rows before i are moved, and `to` is the place of entry (i, j). The
-- packed places of row i are i − first behind those of row first. Assumes nothing.
use mathlib.Core.Path.{◌≡◌}
use Prim.Native.Nat.{◌+◌, ◌≤◌}
use Rattle.shape.specs.Places.{rfp_place}
use Rattle.convert.specs.Halves.{Moved}
use Rattle.convert.proofs.half.Half.move_columns4.Given as goal

abbrev pub invariant-loop-i : goal.invariant-loop-i
invariant-loop-i l =
    (l.i ≤ l.fn.self.route.shape.order)
    × (l.to ≡ rfp_place l.fn.self.route.form l.fn.self.route.shape.order l.i l.j)
    × Moved l.fn.self.route.conversion l.fn.self.route.form l.fn.self.route.shape.order l.first l.i l.j (l.j + 4) l.source l.initial.target l.target
