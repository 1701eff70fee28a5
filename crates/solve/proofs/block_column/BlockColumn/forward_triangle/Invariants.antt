-- `solve::block_column::BlockColumn::forward_triangle` meets its contract. The invariant of its loop: the rows before r are finished; row r begins at `at`. Assumes
-- nothing.
use mathlib.Core.Path.{◌≡◌}
use Rattle.solve.specs.Parts.{block_entries}
use Rattle.solve.specs.Substitution.{TriangleForward}
use Rattle.solve.proofs.BlockPlaces.{row_place}
use Rattle.solve.proofs.block_column.BlockColumn.forward_triangle.Given as goal

abbrev pub invariant-loop-r : goal.invariant-loop-r
invariant-loop-r l =
    (l.at ≡ row_place l.self l.r) × TriangleForward (block_entries l.self) l.r l.initial.work l.work
