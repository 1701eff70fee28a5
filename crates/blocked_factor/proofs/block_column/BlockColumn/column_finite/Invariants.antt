-- `blocked_factor::block_column::BlockColumn::column_finite` meets its contract. The invariant: `finite` is the answer for the rows before r. Assumes
-- nothing.
use mathlib.Core.Path.{◌≡◌}
use Rattle.blocked_factor.specs.BlockColumns.{column_finite}
use Rattle.blocked_factor.proofs.block_column.BlockColumn.column_finite.Given as goal

abbrev pub invariant-loop-r : goal.invariant-loop-r
invariant-loop-r l = l.finite ≡ column_finite l.self.width l.r l.part l.s
