-- `shape::Shape::blocked_place` meets its contract: the block column begins at or before column j, and the sum is the entry's place,
-- which is below triangle n. Assumes nothing.
use native.Mathlib.Omega.{arith}
use Rattle.shape.proofs.Blocks.{block_of_le, blocked_place_block}
use Rattle.shape.proofs.Bijections.{blocked_bijection}
use Rattle.shape.proofs.Bounds.{triangle_le}
use Rattle.shape.proofs.Shape.blocked_place.Goals as goal

pub block_width-w-requires : goal.block_width-w-requires
block_width-w-requires c =
    let args = c.args in
    omega (arith, block_of_le args.self.block args.j)

pub block_start-requires : goal.block_start-requires
block_start-requires c =
    let args = c.args in
    omega (arith, block_of_le args.self.block args.j)

pub overflow_sub-i : goal.overflow_sub-i
overflow_sub-i c =
    let args = c.args in
    omega (arith, block_of_le args.self.block args.j)

pub overflow_sub-j : goal.overflow_sub-j
overflow_sub-j c =
    let args = c.args in
    omega (arith, block_of_le args.self.block args.j)

pub returns : goal.returns
returns c =
    let args = c.args in
    cc (blocked_place_block args.self.order args.self.block args.i args.j)

pub overflow_add-result : goal.overflow_add-result
overflow_add-result c =
    let args = c.args in
    let below = (blocked_bijection args.self.order args.self.block c.requires.block_nonzero).below in
    omega (arith, returns c, below args.i args.j c.requires.entry, triangle_le args.self.order c.requires.order_le_max_order)
