-- `kernels::columns::step_columns` meets its contract. The invariant of its loop: the first k columns, whole block columns, are done, and x is the
-- place of row i in the next one. Assumes nothing.
use Prim.Native.Nat.{◌-◌, ◌*◌, ◌≤◌, ◌<◌}
use mathlib.Core.Path.{◌≡◌}
use lib.Ieee.{nan}
use Rattle.shape.specs.Places.{triangle, block_of}
use Rattle.kernels.specs.Kernels.{Filled}
use Rattle.kernels.proofs.Runs.{row_place, less_row}
use Rattle.kernels.proofs.columns.step_columns.Given as goal

abbrev pub invariant-loop-k : goal.invariant-loop-k
invariant-loop-k g l =
    (l.k ≤ g.row.W) × (block_of g.row.B l.k ≡ l.k) × (l.k < g.row.W → l.x ≡ row_place l.h g.row.B l.i l.k) × (l.step ≡ 2 * g.row.B * g.row.B - triangle g.row.B)
    × Filled nan 0 l.k (less_row l.h g.row.B l.i l.part l.y l.initial.next) l.initial.next l.next

abbrev pub decreases-loop-k : goal.decreases-loop-k
decreases-loop-k g l = g.row.W - l.k
