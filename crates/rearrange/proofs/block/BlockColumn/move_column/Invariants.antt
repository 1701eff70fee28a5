-- `rearrange::block::BlockColumn::move_column` meets its contract. The loop's invariant: the rows before r are moved, and `from` and `to` are the places
-- of entry (r, s). Assumes nothing.
use Prim.Native.Nat.{◌≤◌}
use Rattle.rearrange.proofs.Moves.{ColumnMoved}
use Rattle.rearrange.proofs.block.BlockColumn.move_column.Given as goal

abbrev pub invariant-loop-r : goal.invariant-loop-r
invariant-loop-r l =
    let self = l.fn.self in
    (l.r ≤ l.end) × ColumnMoved self.to self.part.order self.part.block l.s l.first l.r l.source l.initial.target l.target l.from l.to
