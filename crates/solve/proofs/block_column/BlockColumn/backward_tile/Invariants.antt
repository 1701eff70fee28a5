-- `solve::block_column::BlockColumn::backward_tile` meets its contract. The invariant of its loop: the products are subtracted from the first 16 q rows.
-- Assumes nothing.
use Prim.Native.Nat.{◌-◌, ◌*◌}
use Rattle.solve.specs.Parts.{block_entries}
use Rattle.solve.specs.Substitution.{ColumnsSubtracted}
use Rattle.solve.proofs.block_column.BlockColumn.backward_tile.Given as goal

abbrev pub invariant-loop-q : goal.invariant-loop-q
invariant-loop-q l = ColumnsSubtracted (block_entries l.self) l.end (l.end - l.first) 0 (16 * l.q) l.initial.work l.work
