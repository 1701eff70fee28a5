-- `blocked_factor::runs::update_by_run` meets its contract. The invariant of its loop: the columns before s0 are updated. Assumes nothing.
use Prim.Native.Nat.{◌+◌, ◌-◌, ◌≤◌}
use mathlib.Core.Path.{◌≡◌}
use lib.ListN.{length}
use Rattle.kernels.specs.Kernels.{run_at}
use Rattle.blocked_factor.specs.BlockColumns.{PanelUpdated}
use Rattle.blocked_factor.proofs.runs.update_by_run.Given as goal

abbrev pub invariant-loop-s0 : goal.invariant-loop-s0
invariant-loop-s0 l =
    (l.s0 ≤ l.target.width)
    × (length l.spare ≡ length l.initial.spare)
    × PanelUpdated l.target.start l.target.width l.target.rows 0 l.s0
    (λ r. run_at l.initial.m l.run.start l.run.order l.run.block (l.run.order - l.target.rows + r)) l.run.columns l.initial.m l.m

abbrev pub decreases-loop-s0 : goal.decreases-loop-s0
decreases-loop-s0 l = l.target.width - l.s0
