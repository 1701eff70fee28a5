-- `blocked_factor::block_column::BlockColumn::places` meets its contract. The invariant: the first k places are stored. Assumes nothing.
use Prim.Native.Nat.{ℕ, ◌+◌, ◌<◌}
use mathlib.Core.Path.{◌≡◌}
use lib.ListN.{length, get_or}
use Rattle.blocked_factor.specs.BlockColumns.{row_start}
use Rattle.blocked_factor.proofs.block_column.BlockColumn.places.Given as goal

abbrev pub invariant-loop-k : goal.invariant-loop-k
invariant-loop-k g l = (length l.places ≡ g.row.N) × ((q : ℕ) → q < l.k → get_or l.places q 0 ≡ row_start l.self.width (l.r + q) + l.s)
