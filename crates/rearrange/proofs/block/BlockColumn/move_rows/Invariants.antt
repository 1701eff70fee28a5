-- `rearrange::block::BlockColumn::move_rows` meets its contract. The loop's invariant: the rows before `first` are moved. Assumes nothing.
use Rattle.rearrange.specs.Moves.{Moved}
use Rattle.rearrange.proofs.block.BlockColumn.move_rows.Given as goal

abbrev pub invariant-loop-first : goal.invariant-loop-first
invariant-loop-first l = Moved l.self.to l.self.part.order l.self.part.block 0 l.first 0 l.self.part.block l.source l.fn.target l.target
