-- `convert::half::Half::move_rows` meets its contract. The loop's invariant: the columns before j are moved, and `to` is the place of entry (i, j). The
-- places of column j are j − left behind those of column left. Assumes nothing.
use mathlib.Core.Path.{◌≡◌}
use Prim.Native.Nat.{◌+◌, ◌≤◌}
use Rattle.shape.specs.Places.{packed_place}
use Rattle.convert.specs.Halves.{Moved}
use Rattle.convert.proofs.half.Half.move_rows.Given as goal

abbrev pub invariant-loop-j : goal.invariant-loop-j
invariant-loop-j g l =
    (l.j ≤ l.right)
    × (l.to ≡ packed_place l.self.route.shape.order l.i l.j)
    × Moved l.self.route.conversion l.self.route.form l.self.route.shape.order l.i (l.i + g.row.N) l.self.left l.j l.source l.initial.target l.target
