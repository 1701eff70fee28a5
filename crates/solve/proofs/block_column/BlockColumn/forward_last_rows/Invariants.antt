-- `solve::block_column::BlockColumn::forward_last_rows` meets its contract. The invariant of its loop: the products are subtracted from the rows before r, and `at` is
-- where row r begins. Assumes nothing.
use Prim.Native.Nat.{◌≤◌}
use mathlib.Core.Path.{◌≡◌}
use Rattle.solve.specs.Parts.{block_entries}
use Rattle.solve.specs.Substitution.{RowsSubtracted}
use Rattle.solve.proofs.BlockPlaces.{row_place}
use Rattle.solve.proofs.block_column.BlockColumn.forward_last_rows.Given as goal

abbrev pub invariant-loop-r : goal.invariant-loop-r
invariant-loop-r l =
    (l.from ≤ l.r) × (l.r ≤ l.self.h) × (l.at ≡ row_place l.self l.r)
    × RowsSubtracted (block_entries l.self) l.self.w l.from l.r l.initial.work l.work
