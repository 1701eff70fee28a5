-- `blocked_factor::block_column::Panel::finish_below` meets its contract. The invariant of both loops: the rows before r are finished. Assumes nothing.
use Prim.Native.Nat.{◌+◌, ◌-◌, ◌%◌, ◌≤◌}
use mathlib.Core.Path.{◌≡◌}
use Rattle.blocked_factor.specs.BlockStages.{BelowFinished}
use Rattle.blocked_factor.proofs.block_column.Panel.finish_below.Given as goal

abbrev pub invariant-loop-r : goal.invariant-loop-r
invariant-loop-r l =
    (l.self.s0 + l.self.g ≤ l.r)
    × (l.r ≤ l.whole)
    × ((l.whole - l.r) % 8 ≡ 0)
    × BelowFinished l.self.column.width l.self.s0 (l.self.s0 + l.self.g) (l.self.s0 + l.self.g) l.r l.initial.part l.part

abbrev pub invariant-loop-r-2 : goal.invariant-loop-r-2
invariant-loop-r-2 l = BelowFinished l.self.column.width l.self.s0 (l.self.s0 + l.self.g) (l.self.s0 + l.self.g) l.r l.fn.part l.part
