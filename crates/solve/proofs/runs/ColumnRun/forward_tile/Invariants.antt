-- `solve::runs::ColumnRun::forward_tile` meets its contract. The invariant of its loop: the first s rows are stored. Assumes nothing.
use Prim.Native.Nat.{◌≤◌}
use lib.Ieee.{nan}
use Rattle.kernels.specs.Kernels.{Filled, tile_at}
use Rattle.solve.proofs.runs.ColumnRun.forward_tile.Given as goal

abbrev pub invariant-loop-s : goal.invariant-loop-s
invariant-loop-s g l = (l.s ≤ l.len) × Filled nan l.r l.s (λ q. tile_at l.less q 0) l.initial.work l.work
