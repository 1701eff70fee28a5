-- `rearrange::block::BlockColumn::move_diagonal` meets its contract. The loop's invariant: the rows before r are moved. The measure is the number of rows
-- left. Assumes nothing.
use mathlib.Core.Path.{◌≡◌}
use Prim.Native.Nat.{◌≤◌}
use lib.ListN.{length}
use Rattle.rearrange.specs.Moves.{Moved}
use Rattle.rearrange.proofs.block.BlockColumn.move_diagonal.Given as goal

abbrev pub invariant-loop-r : goal.invariant-loop-r
invariant-loop-r l =
    (length l.target ≡ length l.initial.target)
    × (l.r ≤ l.self.part.block)
    × Moved l.self.to l.self.part.order l.self.part.block 0 l.r 0 l.self.part.block l.source l.initial.target l.target
