-- `blocked_factor::block_column::BlockColumn::lowest_overflow` meets its contract. The invariant: the columns before s are finite. Assumes nothing.
use Prim.Native.Nat.{ℕ, ◌<◌}
use lib.Dec.{T}
use Rattle.blocked_factor.specs.BlockColumns.{column_finite}
use Rattle.blocked_factor.proofs.block_column.BlockColumn.lowest_overflow.Given as goal

abbrev pub invariant-loop-s : goal.invariant-loop-s
invariant-loop-s l = (k : ℕ) → k < l.s → T (column_finite l.self.width l.self.rows l.part k)
