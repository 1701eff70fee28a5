-- `kernels::lanes::scatter` meets its contract. Assumes nothing.
use Prim.Native.Nat.{◌+◌, ◌≤◌}
use lib.ListN.{get_or}
use lib.Ieee.{nan}
use Rattle.kernels.specs.Kernels.{Scattered}
use Rattle.kernels.proofs.lanes.scatter.Given as goal

abbrev pub invariant-loop-s : goal.invariant-loop-s
invariant-loop-s g l = (l.s ≤ g.row.N) × Scattered l.s (λ q. get_or l.at q 0 + l.k) (λ q. get_or l.values q nan) l.initial.v l.v
