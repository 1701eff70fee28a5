-- `rearrange::block::BlockColumn::move_row` meets its contract. The loop's invariant: the columns before s are moved, and `packed` is the packed place
-- of entry (r, s), `gap` places before that of (r + 1, s + 1). Assumes nothing.
use mathlib.Core.Path.{◌≡◌}
use Prim.Native.Nat.{◌+◌, ◌≤◌}
use Rattle.shape.specs.Places.{packed_place}
use Rattle.rearrange.specs.Moves.{Moved}
use Rattle.rearrange.proofs.block.BlockColumn.move_row.Given as goal

abbrev pub invariant-loop-s : goal.invariant-loop-s
invariant-loop-s l =
    (l.s ≤ l.r + 1)
    × (l.gap + l.s ≡ l.self.part.order)
    × (l.packed ≡ packed_place l.self.part.order l.r l.s)
    × Moved l.self.to l.self.part.order l.self.part.block l.r (l.r + 1) 0 l.s l.source l.initial.target l.target
