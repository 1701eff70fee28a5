-- `kernels::lanes::pack_lane` meets its contract. Assumes nothing.
use native.Mathlib.Omega.{arith}
use mathlib.Core.Path.{refl}
use Rattle.kernels.proofs.Grids.{lane_end}
use Rattle.kernels.proofs.Loops.{scattered_next}
use Rattle.kernels.proofs.lanes.pack_lane.Goals as goal

pub loop-k-preserved : goal.loop-k-preserved
loop-k-preserved c =
    let a = c.args in
    let end = lane_end a.lanes c.loop-k.k a.count c.loop-k-test.true in
    (omega arith, scattered_next _ _ _ c.loop-k.k c.loop-k.panel _ (omega arith) (λ s h e. omega (arith, lane_end a.lanes s c.loop-k.k h)) c.loop-k.invariant.1 refl)
