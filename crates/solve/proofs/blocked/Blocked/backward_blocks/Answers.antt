-- `solve::blocked::Blocked::backward_blocks` meets its contract. The invariant of its loop: the substitution has come to block column q's first, or to the
-- end of the rows. Assumes nothing.
use Prim.Native.Nat.{◌-◌, ◌*◌, min}
use native.Mathlib.Omega.{arith}
use mathlib.Core.Path.{◌≡◌, sym}
use lib.ListN.{length}
use Rattle.solve.proofs.Substitution.{backward_end}
use Rattle.solve.proofs.BlockTurns.{column_first, column_before, whole_end, block_backward}
use Rattle.solve.proofs.blocked.Blocked.backward_blocks.Goals as goal

pub loop-q-preserved : goal.loop-q-preserved
loop-q-preserved c =
    let a = c.args in
    let f = a.self.now in
    let rows = length a.work.now in
    let b = f.shape.block in
    let before = column_before c.loop-q.q b rows f.block c.loop-q-test.true (omega (arith, c.div_ceil-q.ensures)) in
    let first : min ((c.loop-q.q - 1) * b) rows ≡ (c.loop-q.q - 1) * b = omega (arith, before.0) in
    let whole = whole_end f rows ((c.loop-q.q - 1) * b) c.block_column.result c.requires.0 before.0 c.block_column.ensures (column_first (c.loop-q.q - 1) b f.block) in
    rw first (block_backward f rows ((c.loop-q.q - 1) * b) c.block_column.result c.requires.0 before.0 c.block_column.ensures a.work.now
    c.loop-q.work c.backward.new.work (rw (before.1, sym whole) at c.loop-q.invariant) c.backward.ensures)

pub returns : goal.returns
returns c =
    let a = c.args in
    let all : c.loop-q.q ≡ 0 = omega arith in
    let none : min (0 * a.self.now.shape.block) (length a.work.now) ≡ 0 = omega arith in
    backward_end (length a.work.now) _ a.work.now c.loop-q.work (rw (all, none) at c.loop-q.invariant)
