-- `solve::block_column::BlockColumn::backward_triangle` meets its contract. The invariant of its loop: the rows from r on are finished, their products are taken from
-- those before r, and `at` is where row r begins. Assumes nothing.
use Prim.Native.Nat.{◌+◌, ◌-◌}
use native.Mathlib.Nat.{add-zero}
use native.Mathlib.Omega.{arith}
use mathlib.Core.Path.{refl}
use lib.ListN.{length-set, length-take}
use Rattle.solve.proofs.BlockPlaces.{before_inside}
use Rattle.solve.proofs.BlockColumns.{row_inside_up}
use Rattle.solve.proofs.Triangles.{taken_none}
use Rattle.solve.proofs.block_column.BlockColumn.backward_triangle.Goals as goal

pub loop-r-init : goal.loop-r-init
loop-r-init c =
    let a = c.args in
    (rw (add-zero a.self.now.skip) at c.place-at.ensures, taken_none _ a.self.now.w a.work.now)

-- in a turn the row before lies in the block column
pub overflow_sub-at : goal.overflow_sub-at
overflow_sub-at c = omega (arith, before_inside c.args.self.now c.loop-r.r c.loop-r.at (omega arith) (omega arith) c.loop-r.invariant.0)

pub overflow_add-end : goal.overflow_add-end
overflow_add-end c = omega (arith, before_inside c.args.self.now c.loop-r.r c.loop-r.at (omega arith) (omega arith) c.loop-r.invariant.0)

pub offset_bounds-part-end : goal.offset_bounds-part-end
offset_bounds-part-end c =
    omega (arith, before_inside c.args.self.now c.loop-r.r c.loop-r.at (omega arith) (omega arith) c.loop-r.invariant.0)

pub bounds-part-end : goal.bounds-part-end
bounds-part-end c = omega (arith, before_inside c.args.self.now c.loop-r.r c.loop-r.at (omega arith) (omega arith) c.loop-r.invariant.0)

pub slice_bounds-subtract_multiple-end : goal.slice_bounds-subtract_multiple-end
slice_bounds-subtract_multiple-end c = simp length-set (omega arith)

pub slice_bounds-subtract_multiple-end-in-loop-r : goal.slice_bounds-subtract_multiple-end-in-loop-r
slice_bounds-subtract_multiple-end-in-loop-r c = simp (length-take, length-set) (omega arith)

pub offset_bounds-part-at : goal.offset_bounds-part-at
offset_bounds-part-at c =
    omega (arith, before_inside c.args.self.now c.loop-r.r c.loop-r.at (omega arith) (omega arith) c.loop-r.invariant.0)

pub slice_bounds-subtract_multiple-end-in-loop-r-2 : goal.slice_bounds-subtract_multiple-end-in-loop-r-2
slice_bounds-subtract_multiple-end-in-loop-r-2 c =
    omega (arith, before_inside c.args.self.now c.loop-r.r c.loop-r.at (omega arith) (omega arith) c.loop-r.invariant.0)

pub loop-r-preserved : goal.loop-r-preserved
loop-r-preserved c =
    let a = c.args in
    row_inside_up a.self.now c.loop-r.r c.loop-r.at (c.loop-r.at - (a.self.now.skip + (c.loop-r.r - 1) + 1)) a.work.now c.loop-r.work
    c.subtract_multiple.new.v _ c.requires c.loop-r-test.true (omega arith) c.loop-r.invariant.0 (omega arith) refl c.loop-r.invariant.1
    c.subtract_multiple.ensures
