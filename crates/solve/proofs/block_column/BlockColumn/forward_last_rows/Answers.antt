-- `solve::block_column::BlockColumn::forward_last_rows` meets its contract. The invariant of its loop: the products are subtracted from the rows before r, and `at` is
-- where row r begins. Assumes nothing.
use native.Mathlib.Omega.{arith}
use mathlib.Core.Path.{◌≡◌}
use lib.Ieee.{nan}
use lib.ListN.{get_or, length-take}
use Rattle.solve.proofs.BlockPlaces.{room_under, values_le, next_under}
use Rattle.solve.proofs.BlockColumns.{under_row}
use Rattle.solve.proofs.block_column.BlockColumn.forward_last_rows.Goals as goal

pub subtract_rising-requires : goal.subtract_rising-requires
subtract_rising-requires c =
    (omega arith, (omega arith, λ s few. let first : s ≡ 0 = omega arith in rw first (simp length-take (omega (arith, room_under c.args.self.now c.loop-r.r (omega arith) (omega arith))))))

pub overflow_add-at : goal.overflow_add-at
overflow_add-at c =
    let a = c.args in
    omega (
      arith,
      room_under a.self.now c.loop-r.r (omega arith) (omega arith),
      values_le a.self.now,
    )

pub loop-r-preserved : goal.loop-r-preserved
loop-r-preserved c =
    let a = c.args in (
      omega arith,
      omega arith,
      omega (arith, next_under a.self.now c.loop-r.r a.self.now.skip (omega arith)),
      under_row a.self.now a.work.now c.loop-r.work c.requires.rows a.from c.loop-r.r c.loop-r.at
          (get_or c.subtract_rising.result 0 nan)
          (omega arith) c.loop-r.invariant.0 (omega arith) c.loop-r.invariant.2 (c.subtract_rising.ensures 0 (omega arith)) c.loop-r.invariant.3,
    )
