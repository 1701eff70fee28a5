-- `blocked_factor::block_column::BlockColumn::pack` meets its contract. Assumes nothing.
use native.Mathlib.Omega.{arith}
use Rattle.blocked_factor.proofs.Panels.{packed_next}
use Rattle.blocked_factor.proofs.block_column.BlockColumn.pack.Goals as goal

pub loop-t-preserved : goal.loop-t-preserved
loop-t-preserved c =
    let a = c.args in
    packed_next a.panel.now c.loop-t.panel _ a.part.now a.at a.lanes a.self.width a.first a.count c.loop-t.t c.loop-t.invariant (omega arith)
    (rw c.row.ensures at c.pack_lane.ensures)
