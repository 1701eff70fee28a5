-- `shape::Shape::packed_place` meets its contract: the order is bounded, so the product fits, and the sum is the entry's place, which
-- is below triangle n. Assumes nothing.
use mathlib.Core.Path.{refl}
use native.Mathlib.Omega.{arith}
use Rattle.shape.specs.Places.{packed_place}
use Rattle.shape.proofs.Bijections.{packed_bijection}
use Rattle.shape.proofs.Bounds.{triangle_le, product_fits}
use Rattle.shape.proofs.Shape.packed_place.Goals as goal

pub overflow_mul-result-2 : goal.overflow_mul-result-2
overflow_mul-result-2 c = product_fits _ _ (omega arith) (omega arith)

pub returns : goal.returns
unfolding packed_place
returns c = refl

pub overflow_add-result : goal.overflow_add-result
overflow_add-result c =
    let args = c.args in
    let below = (packed_bijection args.self.order).below in
    omega (arith, returns c, below args.i args.j c.requires.entry, triangle_le args.self.order c.requires.order_le_max_order)
