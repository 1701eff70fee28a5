-- `blocked_factor::block_column::BlockColumn::factor_panels` meets its contract. The invariant: the columns before s0 are finished, and judged by their pivots, and the saved entry values
-- stay. Assumes nothing.
use Prim.Native.Nat.{◌≤◌}
use mathlib.Core.Path.{◌≡◌}
use lib.ListN.{length}
use Rattle.calls.specs.Outcomes.{judgement_of}
use Rattle.blocked_factor.specs.BlockColumns.{row_start, SameTo}
use Rattle.blocked_factor.specs.BlockStages.{ColumnsFinished}
use Rattle.blocked_factor.proofs.block_column.BlockColumn.factor_panels.Given as goal

abbrev pub invariant-loop-s0 : goal.invariant-loop-s0
invariant-loop-s0 l =
    (l.s0 ≤ l.self.width)
    × (length l.work ≡ length l.initial.work)
    × SameTo (row_start l.self.width l.self.rows) l.initial.work l.work
    × ColumnsFinished l.self.first l.self.width l.self.rows 0 l.s0 l.initial.work (judgement_of l.initial.judged) l.initial.part
    (judgement_of l.judged) l.part
