-- `blocked_factor::block_column::BlockColumn::place` meets its contract. Assumes nothing.
use native.Mathlib.Omega.{arith}
use Rattle.blocked_factor.proofs.BlockRows.{place_row}
use Rattle.blocked_factor.proofs.block_column.BlockColumn.place.Goals as goal

pub returns : goal.returns
returns c = omega (arith, place_row c.args.self.width c.args.r c.args.s)
