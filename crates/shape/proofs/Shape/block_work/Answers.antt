-- `shape::Shape::block_work` meets its contract: min(n, b) is at most n, so the product fits. Assumes nothing.
use mathlib.Core.Path.{ap}
use Prim.Native.Nat.{ℕ, ◌*◌}
use native.Mathlib.Omega.{arith}
use Rattle.shape.specs.Places.{block_work}
use Rattle.shape.proofs.Bounds.{product_fits}
use Rattle.shape.proofs.Shape.block_work.Goals as goal

pub overflow_mul-result : goal.overflow_mul-result
overflow_mul-result c = product_fits _ _ (omega arith) (omega arith)

pub returns : goal.returns
unfolding block_work
returns c = ap (λ (w : ℕ). c.args.self.order * w) c.min.ensures
