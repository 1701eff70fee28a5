-- `blocked_factor::block_column::Panel::finish_rows` meets its contract. Assumes nothing.
use native.Mathlib.Omega.{arith}
use Rattle.blocked_factor.proofs.Finishing.{rows_next}
use Rattle.blocked_factor.proofs.block_column.Panel.finish_rows.Goals as goal

pub loop-s-preserved : goal.loop-s-preserved
loop-s-preserved g c = rows_next (omega arith) (omega arith) (omega arith) c.loop-s.invariant c.divide_rows.ensures
