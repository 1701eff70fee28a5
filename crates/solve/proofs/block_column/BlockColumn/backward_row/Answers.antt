-- `solve::block_column::BlockColumn::backward_row` meets its contract. Assumes nothing.
use Prim.Native.Nat.{◌-◌}
use native.Mathlib.Omega.{arith}
use lib.ListN.{get_or}
use lib.Ieee.{nan}
use Rattle.solve.proofs.BlockPlaces.{room_part, values_le}
use Rattle.solve.proofs.BlockColumns.{row_under}
use Rattle.solve.proofs.block_column.BlockColumn.backward_row.Goals as goal

-- the part of the row lies in the block column
pub overflow_add-end : goal.overflow_add-end
overflow_add-end c =
    let a = c.args in
    omega (
      arith,
      room_part a.self.now a.r a.from (a.self.now.w - a.from) (omega arith) (omega arith) (omega arith),
      values_le a.self.now,
    )

pub offset_bounds-self-at : goal.offset_bounds-self-at
offset_bounds-self-at c =
    let a = c.args in
    omega (arith, room_part a.self.now a.r a.from (a.self.now.w - a.from) (omega arith) (omega arith) (omega arith))

pub slice_bounds-subtract_multiple-end-2 : goal.slice_bounds-subtract_multiple-end-2
slice_bounds-subtract_multiple-end-2 c =
    let a = c.args in
    omega (arith, room_part a.self.now a.r a.from (a.self.now.w - a.from) (omega arith) (omega arith) (omega arith))

pub returns : goal.returns
returns c =
    let a = c.args in
    row_under a.self.now a.r a.from c.place-at.result a.work.now c.subtract_multiple.new.v (get_or a.work.now a.r nan)
    (omega arith) (omega arith) c.place-at.ensures c.subtract_multiple.ensures
