-- `blocked_factor::runs::RunPanel::update` meets its contract. The invariant of its loops: the rows before r are updated. Assumes nothing.
use Prim.Native.Nat.{◌+◌, ◌-◌, ◌%◌, ◌≤◌}
use mathlib.Core.Path.{◌≡◌}
use Rattle.kernels.specs.Kernels.{run_at}
use Rattle.blocked_factor.specs.BlockColumns.{PanelUpdated}
use Rattle.blocked_factor.proofs.runs.RunPanel.update.Given as goal

abbrev pub invariant-loop-r : goal.invariant-loop-r
invariant-loop-r l =
    PanelUpdated l.column.start l.column.width l.r l.s0 l.g (λ q. run_at l.fn.m l.self.run.start l.self.run.order l.self.run.block (l.above + q))
    l.self.run.columns l.fn.m l.m

abbrev pub invariant-loop-r-2 : goal.invariant-loop-r-2
invariant-loop-r-2 l =
    (l.column.width ≤ l.r)
    × (l.r ≤ l.whole)
    × ((l.whole - l.r) % l.tile ≡ 0)
    × PanelUpdated l.column.start l.column.width l.r l.s0 l.g (λ q. run_at l.fn.m l.self.run.start l.self.run.order l.self.run.block (l.above + q))
    l.self.run.columns l.fn.m l.m

abbrev pub invariant-loop-r-3 : goal.invariant-loop-r-3
invariant-loop-r-3 l =
    PanelUpdated l.column.start l.column.width l.r l.s0 l.g (λ q. run_at l.fn.m l.self.run.start l.self.run.order l.self.run.block (l.above + q))
    l.self.run.columns l.fn.m l.m
