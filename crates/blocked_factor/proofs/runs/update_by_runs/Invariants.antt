-- `blocked_factor::runs::update_by_runs` meets its contract. The invariant of its loop: the products of the columns before k are subtracted. Assumes
-- nothing.
use Prim.Native.Nat.{◌-◌, ◌≤◌}
use mathlib.Core.Path.{◌≡◌}
use lib.ListN.{length}
use Rattle.shape.specs.Places.{block_of, block_start, width}
use Rattle.blocked_factor.specs.BlockColumns.{PanelUpdated}
use Rattle.blocked_factor.specs.BlockSteps.{row_of}
use Rattle.blocked_factor.proofs.runs.update_by_runs.Given as goal

abbrev pub invariant-loop-k : goal.invariant-loop-k
invariant-loop-k l =
    (l.k ≤ l.c)
    × (block_of l.shape.block l.k ≡ l.k)
    × (length l.spare ≡ length l.initial.spare)
    × PanelUpdated (block_start l.shape.order l.c) (width l.shape.order l.shape.block l.c) (l.shape.order - l.c) 0 (width l.shape.order l.shape.block l.c)
    (row_of l.shape.order l.shape.block l.c l.initial.m) l.k l.initial.m l.m

abbrev pub decreases-loop-k : goal.decreases-loop-k
decreases-loop-k l = l.c - l.k
