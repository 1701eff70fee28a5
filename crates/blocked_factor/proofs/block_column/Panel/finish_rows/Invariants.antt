-- `blocked_factor::block_column::Panel::finish_rows` meets its contract. The invariant: the rows are finished in columns s0 .. s − 1. Assumes nothing.
use Prim.Native.Nat.{◌+◌}
use Rattle.blocked_factor.specs.BlockStages.{RowsFinished}
use Rattle.blocked_factor.proofs.block_column.Panel.finish_rows.Given as goal

abbrev pub invariant-loop-s : goal.invariant-loop-s
invariant-loop-s g l = RowsFinished l.self.column.width l.self.s0 l.s l.r (l.r + g.row.N) l.initial.part l.part
