-- `solve::block_column::BlockColumn::backward_columns16` meets its contract. The invariant of its loop: the products of the rows from r on are subtracted,
-- and row r has its entry in column s at `at`. Assumes nothing.
use Prim.Native.Nat.{◌+◌, ◌-◌, ◌≤◌}
use mathlib.Core.Path.{◌≡◌}
use Rattle.solve.specs.Parts.{block_entries}
use Rattle.solve.proofs.BlockPlaces.{place}
use Rattle.solve.proofs.BlockColumns.{Less16}
use Rattle.solve.proofs.block_column.BlockColumn.backward_columns16.Given as goal

abbrev pub invariant-loop-r : goal.invariant-loop-r
invariant-loop-r l =
    (l.first ≤ l.r) × (l.at ≡ place l.self l.r (l.self.skip + l.s))
    × Less16 (block_entries l.self) l.end (l.end - l.r) l.s l.work l.values
