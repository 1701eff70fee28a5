-- `rearrange::move_blocks` meets its contract. Assumes nothing.
use mathlib.Core.Path.{◌∙◌}
use native.Mathlib.Omega.{arith}
use mathlib.Core.List.{◌++◌}
use Prim.Native.Nat.{◌+◌, ◌-◌}
use lib.ListN.{length, take, drop}
use Rattle.shape.proofs.Blocks.{block_of_le, block_of_next, width_le}
use Rattle.rearrange.proofs.Blocks.{MovedBefore, part_held, moved_before_first, moved_before_next, moved_all}
use Rattle.rearrange.proofs.move_blocks.Goals as goal
use Rattle.rearrange.proofs.move_blocks.Goals.{After-move_within}

pub loop-c-init : goal.loop-c-init
loop-c-init c =
    let args = c.args in (
      omega (arith, block_of_le args.shape.block 0),
      moved_before_first args.to args.shape.order args.shape.block args.matrix.now,
    )

pub invariant_of-column : goal.invariant_of-column
invariant_of-column c =
    record { rows = omega arith; columns = omega (arith, width_le c.args.shape.order c.args.shape.block c.loop-c.c) }

pub move_within-requires : goal.move_within-requires
move_within-requires c =
    let args = c.args in
    part_held args.shape.order args.shape.block c.loop-c.c c.block_start-at.result c.new-part.result.order c.new-part.result.block c.loop-c.matrix c.loop-c.work
    (omega arith) c.block_start-at.ensures c.new-part.ensures.0 (c.new-part.ensures.1 ∙ c.block_width.ensures) (omega arith) (omega arith)

-- in a turn the block column is moved inside the matrix
turn : (c : After-move_within) →
    MovedBefore c.args.to c.args.shape.order c.args.shape.block (c.loop-c.c + c.args.shape.block) c.args.matrix.now
    (take c.block_start-at.result c.loop-c.matrix
    ++ (c.move_within.new.memory ++ drop (length c.loop-c.matrix - c.block_start-at.result) (drop c.block_start-at.result c.loop-c.matrix)))
turn c =
    let args = c.args in
    moved_before_next args.to args.shape.order args.shape.block c.loop-c.c c.block_start-at.result c.new-part.result.order c.new-part.result.block
    args.matrix.now c.loop-c.matrix c.move_within.new.memory (omega arith) (omega arith) c.loop-c.invariant.0 c.block_start-at.ensures c.new-part.ensures.0
    (c.new-part.ensures.1 ∙ c.block_width.ensures) (omega arith) c.move_within.auto.memory c.loop-c.invariant.1 c.move_within.ensures

pub loop-c-preserved : goal.loop-c-preserved
loop-c-preserved c =
    (block_of_next c.args.shape.block c.loop-c.c (omega arith) c.loop-c.invariant.0, turn (goal.at.loop-c-preserved c).After-move_within)

pub returns : goal.returns
returns c =
    let args = c.args in
    moved_all args.to args.shape.order args.shape.block c.loop-c.c args.matrix.now c.loop-c.matrix (omega arith) (omega arith) (omega arith) c.loop-c.invariant.1

pub returns-2 : goal.returns-2
returns-2 c =
    let args = c.args in
    moved_all args.to args.shape.order args.shape.block (c.loop-c.c + args.shape.block) args.matrix.now _ (omega arith) (omega arith) (omega arith)
    (turn (goal.at.returns-2 c).After-move_within)
