-- `blocked_factor::block_column::BlockColumn::pack` meets its contract. The invariant: the first t rows are packed. Assumes nothing.
use Rattle.blocked_factor.specs.BlockColumns.{Packed}
use Rattle.blocked_factor.proofs.block_column.BlockColumn.pack.Given as goal

abbrev pub invariant-loop-t : goal.invariant-loop-t
invariant-loop-t l = Packed l.initial.panel l.panel l.at l.lanes l.part l.self.width l.first l.count l.t
