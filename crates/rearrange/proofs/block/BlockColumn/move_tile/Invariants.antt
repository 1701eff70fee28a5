-- `rearrange::block::BlockColumn::move_tile` meets its contract. Both loops' invariant: the columns before s are moved. Assumes nothing.
use mathlib.Core.Path.{◌≡◌}
use Prim.Native.Nat.{◌%◌, ◌≤◌}
use Rattle.rearrange.specs.Moves.{Moved}
use Rattle.rearrange.proofs.block.BlockColumn.move_tile.Given as goal

abbrev pub invariant-loop-s : goal.invariant-loop-s
invariant-loop-s l =
    (l.s % 8 ≡ 0)
    × (l.s ≤ l.by_eights)
    × Moved l.self.to l.self.part.order l.self.part.block l.first l.end 0 l.s l.source l.initial.target l.target

abbrev pub invariant-loop-s-2 : goal.invariant-loop-s-2
invariant-loop-s-2 l =
    (l.s ≤ l.self.part.block) × Moved l.self.to l.self.part.order l.self.part.block l.first l.end 0 l.s l.source l.fn.target l.target
