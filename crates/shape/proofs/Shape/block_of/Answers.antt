-- `shape::Shape::block_of` meets its contract: the product is at most j, so it fits. Assumes nothing.
use mathlib.Core.Path.{refl}
use native.Mathlib.Omega.{arith}
use Rattle.shape.specs.Places.{block_of}
use Rattle.shape.proofs.Blocks.{block_of_le}
use Rattle.shape.proofs.Shape.block_of.Goals as goal

pub overflow_mul-result : goal.overflow_mul-result
unfolding block_of
overflow_mul-result c =
    let args = c.args in
    omega (arith, block_of_le args.self.block args.j)

pub returns : goal.returns
unfolding block_of
returns c = refl
