-- `blocked_factor::block_column::BlockColumn::new` meets its contract. Assumes nothing.
use native.Mathlib.Omega.{arith}
use Rattle.shape.proofs.Blocks.{width_le}
use Rattle.blocked_factor.proofs.block_column.BlockColumn.new.Goals as goal

pub invariant_of-result : goal.invariant_of-result
invariant_of-result c = record { tall = omega (arith, width_le c.args.shape.order c.args.shape.block c.args.c); order = omega arith }
