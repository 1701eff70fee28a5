-- `shape::Shape::place_in_block` meets its contract: the row is bounded, and with it each product and the place, which is at most
-- triangle r + s. Assumes nothing.
use Prim.Native.Nat.{ℕ, ◌≤◌}
use native.Mathlib.Omega.{arith}
use borrow.Author.Tests.{lt-ltb, le-ltb}
use Rattle.shape.specs.Bounds.{max_order}
use Rattle.shape.specs.Places.{place_in_block}
use Rattle.shape.proofs.Rows.{place_in_block_le}
use Rattle.shape.proofs.Bounds.{triangle_le, product_fits}
use Rattle.shape.proofs.Shape.place_in_block.Goals as goal

place_le : (w r s : ℕ) → r ≤ max_order → s ≤ r → place_in_block w r s ≤ 8006000
place_le w r s row column = omega (arith, place_in_block_le w r s, triangle_le r row)

pub returns-then-r-w : goal.returns-then-r-w
unfolding place_in_block
returns-then-r-w c = rw (lt-ltb _ _ c.if-r-w.true)

pub returns-else-r-w : goal.returns-else-r-w
unfolding place_in_block
returns-else-r-w c = rw (le-ltb _ _ c.if-r-w.false)

pub overflow_mul-result : goal.overflow_mul-result
overflow_mul-result c = product_fits _ _ (omega arith) (omega arith)

pub overflow_add-result-then-r-w : goal.overflow_add-result-then-r-w
overflow_add-result-then-r-w c =
    let args = c.args in
    omega (arith, returns-then-r-w c, place_le args.w args.r args.s (omega arith) (omega arith))

pub overflow_mul-result-else-r-w : goal.overflow_mul-result-else-r-w
overflow_mul-result-else-r-w c = product_fits _ _ (omega arith) (omega arith)

pub overflow_mul-result-else-r-w-2 : goal.overflow_mul-result-else-r-w-2
overflow_mul-result-else-r-w-2 c = product_fits _ _ (omega arith) (omega arith)

pub overflow_add-result-else-r-w-2 : goal.overflow_add-result-else-r-w-2
overflow_add-result-else-r-w-2 c =
    let args = c.args in
    omega (arith, returns-else-r-w c, place_le args.w args.r args.s (omega arith) (omega arith))

pub overflow_add-result-else-r-w-3 : goal.overflow_add-result-else-r-w-3
overflow_add-result-else-r-w-3 c =
    let args = c.args in
    omega (arith, returns-else-r-w c, place_le args.w args.r args.s (omega arith) (omega arith))
