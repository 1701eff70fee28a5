-- `solve::block_column::BlockColumn::backward_last_columns` meets its contract. The invariant of its loop: the products of the rows from r on are subtracted.
-- Assumes nothing.
use Prim.Native.Nat.{◌-◌, ◌≤◌}
use Rattle.solve.specs.Parts.{block_entries}
use Rattle.solve.specs.Substitution.{ColumnsSubtracted}
use Rattle.solve.proofs.block_column.BlockColumn.backward_last_columns.Given as goal

abbrev pub invariant-loop-r : goal.invariant-loop-r
invariant-loop-r l =
    (l.first ≤ l.r) × ColumnsSubtracted (block_entries l.self) l.end (l.end - l.r) l.from l.self.w l.initial.work l.work
