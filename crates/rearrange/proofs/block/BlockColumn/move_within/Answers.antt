-- `rearrange::block::BlockColumn::move_within` meets its contract: the block column stands in the work memory in the new order, and its values are copied back.
-- Assumes nothing.
use native.Mathlib.Omega.{arith}
use Rattle.rearrange.proofs.Moves.{moved_back}
use Rattle.rearrange.proofs.block.BlockColumn.move_within.Goals as goal

pub returns : goal.returns
returns c =
    let args = c.args in
    rw c.copy.ensures
    (moved_back args.self.to args.self.part.order args.self.part.block args.memory.now c.move_rows.new.target c.block_start-length.result c.block_start-length.ensures
    (omega (arith, c.block_start-length.ensures)) (omega (arith, c.block_start-length.ensures, c.move_rows.auto)) (omega arith) c.move_rows.ensures)
