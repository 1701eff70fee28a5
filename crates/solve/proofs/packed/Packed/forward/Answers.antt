-- `solve::packed::Packed::forward` meets its contract. The invariant of its loop: the substitution has come to k; column k begins at `at`. Assumes nothing.
use Prim.Native.Nat.{◌+◌}
use native.Mathlib.Omega.{arith}
use mathlib.Core.Path.{◌≡◌, sym}
use lib.ListN.{length-take, length-drop}
use Rattle.shape.proofs.Columns.{block_start_zero, block_start_next}
use Rattle.shape.proofs.Bounds.{block_start_le, triangle_le}
use Rattle.solve.proofs.PackedTurns.{forward_turn}
use Rattle.solve.proofs.Substitution.{forward_start, forward_end}
use Rattle.solve.proofs.packed.Packed.forward.Goals as goal

pub loop-k-init : goal.loop-k-init
loop-k-init c =
    let a = c.args in
    (omega arith, sym (block_start_zero a.self.now.order), forward_start a.self.now.order _ a.work.now c.requires)

pub overflow_add-next : goal.overflow_add-next
overflow_add-next c =
    let a = c.args in
    omega (arith, block_start_next a.self.now.order c.loop-k.k (omega arith), block_start_le a.self.now.order (c.loop-k.k + 1) (omega arith), triangle_le a.self.now.order (omega arith))

pub offset_bounds-self-at : goal.offset_bounds-self-at
offset_bounds-self-at c =
    let a = c.args in
    omega (arith, block_start_le a.self.now.order c.loop-k.k (omega arith), triangle_le a.self.now.order (omega arith))

pub slice_bounds-forward_column-end : goal.slice_bounds-forward_column-end
slice_bounds-forward_column-end c =
    let a = c.args in
    omega (arith, block_start_next a.self.now.order c.loop-k.k (omega arith), block_start_le a.self.now.order (c.loop-k.k + 1) (omega arith))

pub forward_column-requires : goal.forward_column-requires
forward_column-requires c =
    let a = c.args in record {
      work_nonzero = simp (length-take, length-drop) (omega arith);
      column_len = simp (length-take, length-drop)
          (omega (arith, block_start_next a.self.now.order c.loop-k.k (omega arith), block_start_le a.self.now.order (c.loop-k.k + 1) (omega arith)));
    }

pub loop-k-preserved : goal.loop-k-preserved
loop-k-preserved c =
    let a = c.args in (
      omega arith,
      omega (arith, block_start_next a.self.now.order c.loop-k.k (omega arith)),
      forward_turn a.self.now.order c.loop-k.k c.loop-k.at a.self.now.matrix.now a.work.now c.loop-k.work c.forward_column.new.work
          c.loop-k-test.true c.loop-k.invariant.1
          c.loop-k.invariant.2 c.forward_column.ensures,
    )

pub returns : goal.returns
returns c =
    let a = c.args in
    let end : c.loop-k.k ≡ a.self.now.order = omega arith in
    forward_end a.self.now.order _ a.work.now c.loop-k.work (rw end at c.loop-k.invariant.2)
