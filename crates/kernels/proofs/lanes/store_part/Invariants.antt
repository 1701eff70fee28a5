-- `kernels::lanes::store_part` meets its contract. The invariant of its loop: of the first s values those before count are stored. Assumes nothing.
use Prim.Native.Nat.{◌≤◌, min}
use lib.Ieee.{nan}
use Rattle.kernels.specs.Kernels.{Replaced}
use Rattle.kernels.proofs.lanes.store_part.Given as goal

abbrev pub invariant-loop-s : goal.invariant-loop-s
invariant-loop-s g l = (l.s ≤ g.row.N) × Replaced nan l.at (min l.s l.count) l.initial.v l.values l.v
