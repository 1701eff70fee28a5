-- `kernels::minus_products` meets its contract. The invariant of its loop: the first k products are subtracted. Assumes nothing.
use native.Mathlib.Omega.{arith}
use mathlib.Core.Path.{sym}
use Rattle.kernels.proofs.Products.{minus_none, minus_next}
use Rattle.kernels.proofs.minus_products.Goals as goal

pub loop-k-init : goal.loop-k-init
loop-k-init c = (omega arith, sym (minus_none _ _ _))

pub loop-k-preserved : goal.loop-k-preserved
loop-k-preserved c = (omega arith, rw (minus_next, ← c.loop-k.invariant.1))
