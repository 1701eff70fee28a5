-- `solve::block_column::BlockColumn::forward_triangle` meets its contract. The invariant of its loop: the rows before r are finished; row r begins at `at`.
-- Assumes nothing.
use native.Mathlib.Omega.{arith}
use mathlib.Core.Path.{◌≡◌}
use lib.Ieee.{nan}
use lib.ListN.{get_or, length-take}
use Rattle.solve.proofs.BlockPlaces.{room_inside, values_le, next_inside}
use Rattle.solve.proofs.BlockColumns.{triangle_row}
use Rattle.solve.proofs.block_column.BlockColumn.forward_triangle.Goals as goal

-- in a turn the row lies in the block column
pub subtract_rising-requires : goal.subtract_rising-requires
subtract_rising-requires c =
    (omega arith, (omega arith, λ s few. let first : s ≡ 0 = omega arith in rw first (simp length-take (omega (arith, room_inside c.args.self.now c.loop-r.r (omega arith))))))

pub overflow_add-work : goal.overflow_add-work
overflow_add-work c = omega (arith, room_inside c.args.self.now c.loop-r.r (omega arith))

pub offset_bounds-part-at : goal.offset_bounds-part-at
offset_bounds-part-at c = omega (arith, room_inside c.args.self.now c.loop-r.r (omega arith))

pub bounds-part-at : goal.bounds-part-at
bounds-part-at c = omega (arith, room_inside c.args.self.now c.loop-r.r (omega arith))

pub overflow_add-at-in-loop-r-2 : goal.overflow_add-at-in-loop-r-2
overflow_add-at-in-loop-r-2 c = omega (arith, room_inside c.args.self.now c.loop-r.r (omega arith), values_le c.args.self.now)

pub loop-r-preserved : goal.loop-r-preserved
loop-r-preserved c =
    let a = c.args in (
      omega (arith, next_inside a.self.now c.loop-r.r (omega arith)),
      triangle_row a.self.now a.work.now c.loop-r.work c.requires c.loop-r.r c.loop-r.at (get_or c.subtract_rising.result 0 nan)
          c.loop-r-test.true c.loop-r.invariant.0 (c.subtract_rising.ensures 0 (omega arith)) c.loop-r.invariant.1,
    )
