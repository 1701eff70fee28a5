-- `convert::half::Half::move_column` meets its contract. The loop's invariant: the rows before i are moved, and `from` and `to` are the places of entry
-- (i, j). Assumes nothing.
use mathlib.Core.Path.{◌≡◌}
use Prim.Native.Nat.{◌+◌, ◌≤◌}
use Rattle.calls.specs.Conversions.{source_place, target_place}
use Rattle.convert.specs.Halves.{Moved}
use Rattle.convert.proofs.half.Half.move_column.Given as goal

abbrev pub invariant-loop-i : goal.invariant-loop-i
invariant-loop-i l =
    let self = l.fn.self in
    (l.i ≤ l.end)
    × (l.from ≡ source_place self.route.conversion self.route.form self.route.shape.order l.i l.j)
    × (l.to ≡ target_place self.route.conversion self.route.form self.route.shape.order l.i l.j)
    × Moved self.route.conversion self.route.form self.route.shape.order l.first l.i l.j (l.j + 1) l.source l.initial.target l.target
