-- `shape::Shape::triangle` meets its contract: the order is bounded, so the product fits. Assumes nothing.
use mathlib.Core.Path.{refl}
use native.Mathlib.Omega.{arith}
use Rattle.shape.specs.Places.{triangle}
use Rattle.shape.proofs.Bounds.{product_fits}
use Rattle.shape.proofs.Shape.triangle.Goals as goal

pub overflow_mul-result : goal.overflow_mul-result
overflow_mul-result c = product_fits _ _ (omega arith) (omega arith)

pub returns : goal.returns
unfolding triangle
returns c = refl
