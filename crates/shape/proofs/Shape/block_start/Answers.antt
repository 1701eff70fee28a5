-- `shape::Shape::block_start` meets its contract: the order is bounded, so the product fits. Assumes nothing.
use mathlib.Core.Path.{refl}
use native.Mathlib.Omega.{arith}
use Rattle.shape.specs.Places.{block_start}
use Rattle.shape.proofs.Bounds.{product_fits}
use Rattle.shape.proofs.Shape.block_start.Goals as goal

pub overflow_mul-result-2 : goal.overflow_mul-result-2
overflow_mul-result-2 c = product_fits _ _ (omega arith) (omega arith)

pub returns : goal.returns
unfolding block_start
returns c = refl
