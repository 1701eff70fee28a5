-- `kernels::lanes::pack_lane` meets its contract. Assumes nothing.
use Prim.Native.Nat.{◌+◌, ◌*◌, ◌≤◌}
use Rattle.kernels.specs.Kernels.{row_at, Scattered}
use Rattle.kernels.proofs.lanes.pack_lane.Given as goal

abbrev pub invariant-loop-k : goal.invariant-loop-k
invariant-loop-k l = (l.k ≤ l.count) × Scattered l.k (λ q. l.at + l.lanes * q + l.t) (row_at l.m l.from) l.initial.panel l.panel
