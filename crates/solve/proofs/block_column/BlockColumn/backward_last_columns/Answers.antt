-- `solve::block_column::BlockColumn::backward_last_columns` meets its contract. The invariant of its loop: the products of the rows from r on are subtracted.
-- Assumes nothing.
use Prim.Native.Nat.{◌+◌, ◌-◌}
use native.Mathlib.Omega.{arith}
use mathlib.Core.Path.{◌≡◌}
use Rattle.solve.specs.Parts.{block_entries}
use Rattle.solve.proofs.Rows.{columns_none, columns_next}
use Rattle.solve.proofs.block_column.BlockColumn.backward_last_columns.Goals as goal

pub loop-r-init : goal.loop-r-init
loop-r-init c =
    let a = c.args in
    let none : a.end - a.end ≡ 0 = omega arith in
    (omega arith, rw none (columns_none (block_entries a.self.now) a.end a.from a.self.now.w a.work.now))

pub loop-r-preserved : goal.loop-r-preserved
loop-r-preserved c =
    let a = c.args in
    let row : a.end - 1 - (a.end - c.loop-r.r) ≡ c.loop-r.r - 1 = omega arith in
    let count : a.end - c.loop-r.r + 1 ≡ a.end - (c.loop-r.r - 1) = omega arith in (
      omega arith,
      rw count at (columns_next (block_entries a.self.now) a.end (a.end - c.loop-r.r) a.from a.self.now.w a.work.now c.loop-r.work c.backward_row.new.work
          (omega arith) c.loop-r.invariant.1 (rw row c.backward_row.ensures)),
    )
