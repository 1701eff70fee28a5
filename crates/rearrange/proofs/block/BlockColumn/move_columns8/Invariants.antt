-- `rearrange::block::BlockColumn::move_columns8` meets its contract. The loop's invariant: the rows before r are moved, and q is the place of entry (r, s).
-- The packed places of row r are r − first behind those of row first. The measure is the number of rows left. Assumes nothing.
use mathlib.Core.Path.{◌≡◌}
use Prim.Native.Nat.{◌+◌, ◌≤◌}
use lib.ListN.{length}
use Rattle.shape.specs.Places.{place_in_block}
use Rattle.rearrange.specs.Moves.{Moved}
use Rattle.rearrange.proofs.block.BlockColumn.move_columns8.Given as goal

abbrev pub invariant-loop-r : goal.invariant-loop-r
invariant-loop-r l =
    (length l.target ≡ length l.initial.target)
    × (l.first ≤ l.r)
    × (l.r ≤ l.end)
    × (l.q ≡ place_in_block l.self.part.block l.r l.s)
    × Moved l.self.to l.self.part.order l.self.part.block l.first l.r l.s (l.s + 8) l.source l.initial.target l.target
