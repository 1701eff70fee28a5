-- `kernels::lanes::subtract_rising` meets its contract. Assumes nothing.
use native.Mathlib.Nat.{zero-add}
use native.Mathlib.Omega.{arith}
use mathlib.Core.Path.{sym, ◌∙◌}
use Rattle.kernels.proofs.Products.{minus_none, minus_next}
use Rattle.kernels.proofs.lanes.subtract_rising.Goals as goal

pub loop-k-init : goal.loop-k-init
loop-k-init g c = (omega arith, λ s h. sym (minus_none _ _ _))

pub loop-k-preserved : goal.loop-k-preserved
loop-k-preserved g c = (omega arith, λ s h. c.step-next.ensures s h ∙ rw (zero-add, minus_next, ← c.loop-k.invariant.1 s h, ← c.gather.ensures s h))
