-- `blocked_factor::block_column::Panel::update_rows` meets its contract. The invariant: the rows before r are updated. Assumes nothing.
use Rattle.kernels.specs.Kernels.{row_at}
use Rattle.blocked_factor.specs.BlockColumns.{row_start, PanelUpdated}
use Rattle.blocked_factor.proofs.block_column.Panel.update_rows.Given as goal

abbrev pub invariant-loop-r : goal.invariant-loop-r
invariant-loop-r l =
    PanelUpdated 0 l.self.column.width l.r l.self.s0 l.self.g (λ q. row_at l.initial.part (row_start l.self.column.width q)) l.self.s0 l.initial.part
    l.part
