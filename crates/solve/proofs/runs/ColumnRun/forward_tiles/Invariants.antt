-- `solve::runs::ColumnRun::forward_tiles` meets its contract. The invariant of its loop: the products are subtracted from the rows before r, and whole tiles
-- are left. Assumes nothing.
use Prim.Native.Nat.{◌-◌, ◌%◌, ◌≤◌}
use mathlib.Core.Path.{◌≡◌}
use Rattle.solve.specs.Parts.{blocked_entries}
use Rattle.solve.specs.Substitution.{RowsSubtracted}
use Rattle.solve.proofs.runs.ColumnRun.forward_tiles.Given as goal

abbrev pub invariant-loop-r : goal.invariant-loop-r
invariant-loop-r g l =
    (l.from ≤ l.r) × (l.r ≤ l.self.memory.shape.order) × ((l.self.memory.shape.order - l.r) % g.row.ROWS ≡ 0)
    × RowsSubtracted (blocked_entries l.self.memory) l.self.w l.from l.r l.initial.work l.work

abbrev pub decreases-loop-r : goal.decreases-loop-r
decreases-loop-r g l = l.self.memory.shape.order - l.r
