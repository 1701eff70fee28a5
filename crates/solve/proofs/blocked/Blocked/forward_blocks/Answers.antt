-- `solve::blocked::Blocked::forward_blocks` meets its contract. The invariant of its loop: the substitution has come to c, a block column's first.
-- Assumes nothing.
use native.Mathlib.Omega.{arith}
use mathlib.Core.Path.{◌≡◌, refl}
use lib.ListN.{length, length-take, length-drop}
use Rattle.shape.proofs.Blocks.{block_of_le}
use Rattle.solve.proofs.Substitution.{forward_start, forward_end}
use Rattle.solve.proofs.BlockTurns.{whole_next, whole_last, block_forward}
use Rattle.solve.proofs.blocked.Blocked.forward_blocks.Goals as goal

pub loop-c-init : goal.loop-c-init
loop-c-init c =
    let a = c.args in
    (omega (arith, block_of_le a.self.now.shape.block 0), omega arith, forward_start (length a.work.now) _ a.work.now refl)

pub forward-requires : goal.forward-requires
forward-requires c = simp (length-take, length-drop) (omega (arith, c.block_column.ensures.h, c.loop-c.auto.work))

pub loop-c-smaller : goal.loop-c-smaller
loop-c-smaller c = omega arith

pub loop-c-preserved : goal.loop-c-preserved
loop-c-preserved c =
    let a = c.args in
    let f = a.self.now in
    let next =
    whole_next f (length a.work.now) c.loop-c.c c.block_column.result c.requires.0 c.loop-c-test.true c.block_column.ensures c.loop-c.invariant.0
    (omega arith) in (
      next.1,
      omega arith,
      rw next.0 at (block_forward f (length a.work.now) c.loop-c.c c.block_column.result c.requires.0 c.loop-c-test.true c.block_column.ensures a.work.now
          c.loop-c.work c.forward.new.work c.loop-c.invariant.2 c.forward.ensures),
    )

-- the last one
pub returns-2 : goal.returns-2
returns-2 c =
    let a = c.args in
    let f = a.self.now in
    let last =
    whole_last f (length a.work.now) c.loop-c.c c.block_column.result c.requires.0 c.loop-c-test.true c.block_column.ensures c.loop-c.invariant.0
    (omega arith) in
    forward_end (length a.work.now) _ a.work.now _
    (rw last at (block_forward f (length a.work.now) c.loop-c.c c.block_column.result c.requires.0 c.loop-c-test.true c.block_column.ensures a.work.now
    c.loop-c.work c.forward.new.work c.loop-c.invariant.2 c.forward.ensures))

-- there are no rows
pub returns : goal.returns
returns c =
    let a = c.args in
    let none : c.loop-c.c ≡ length a.work.now = omega arith in
    forward_end (length a.work.now) _ a.work.now c.loop-c.work (rw none at c.loop-c.invariant.2)
