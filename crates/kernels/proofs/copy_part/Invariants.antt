-- `kernels::copy_part` meets its contract. The invariant of its loop: the first k values are copied. Assumes nothing.
use Prim.Native.Nat.{◌≤◌}
use lib.Ieee.{nan}
use Rattle.kernels.specs.Kernels.{Filled, row_at}
use Rattle.kernels.proofs.copy_part.Given as goal

abbrev pub invariant-loop-k : goal.invariant-loop-k
invariant-loop-k l = (l.k ≤ l.count) × Filled nan l.start l.k (row_at l.from l.at) l.initial.to l.to
