-- `solve::block_column::BlockColumn::backward_triangle` meets its contract. The invariant of its loop: the rows from r on are finished, their products are
-- taken from those before r, and `at` is where row r begins. Assumes nothing.
use mathlib.Core.Path.{◌≡◌}
use Rattle.solve.specs.Parts.{block_entries}
use Rattle.solve.proofs.BlockPlaces.{row_place}
use Rattle.solve.proofs.Triangles.{TakenFrom}
use Rattle.solve.proofs.block_column.BlockColumn.backward_triangle.Given as goal

abbrev pub invariant-loop-r : goal.invariant-loop-r
invariant-loop-r l = (l.at ≡ row_place l.self l.r) × TakenFrom (block_entries l.self) l.self.w l.r l.initial.work l.work
