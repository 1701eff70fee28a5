-- `blocked_factor::block_column::Panel::finish_triangle` meets its contract. The invariant: the rows before s are finished, and their columns judged by their pivots. Assumes nothing.
use Prim.Native.Nat.{◌+◌}
use Rattle.calls.specs.Outcomes.{judgement_of}
use Rattle.blocked_factor.specs.BlockStages.{TriangleFinished}
use Rattle.blocked_factor.proofs.block_column.Panel.finish_triangle.Given as goal

abbrev pub invariant-loop-s : goal.invariant-loop-s
invariant-loop-s l =
    TriangleFinished l.self.column.first l.self.column.width l.self.s0 (l.self.s0 + l.self.g) l.s l.saved (judgement_of l.initial.judged)
    l.initial.part (judgement_of l.judged) l.part
