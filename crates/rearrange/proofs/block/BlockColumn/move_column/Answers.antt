-- `rearrange::block::BlockColumn::move_column` meets its contract. Assumes nothing.
use native.Mathlib.Omega.{arith}
use Rattle.rearrange.proofs.Moves.{column_next}
use Rattle.rearrange.proofs.block.BlockColumn.move_column.Goals as goal

pub loop-r-preserved : goal.loop-r-preserved
loop-r-preserved c = (omega arith, column_next c.args.self.columns c.requires.held (omega arith) c.loop-r.invariant.1 c.ends-from_step.ensures)
