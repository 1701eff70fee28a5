-- `solve::block_column::BlockColumn::backward_tile` meets its contract. The invariant of its loop: the products are subtracted from the first 16 q rows.
-- Assumes nothing.
use Prim.Native.Nat.{◌+◌, ◌-◌, ◌*◌, ◌/◌}
use native.Mathlib.Omega.{arith}
use mathlib.Core.Path.{◌≡◌}
use Rattle.solve.specs.Parts.{block_entries}
use Rattle.solve.proofs.Rows.{columns_join}
use Rattle.solve.proofs.block_column.BlockColumn.backward_tile.Goals as goal

pub loop-q-preserved : goal.loop-q-preserved
loop-q-preserved c =
    let a = c.args in
    let next : 16 * c.loop-q.q + 16 ≡ 16 * (c.loop-q.q + 1) = omega arith in
    rw next at (columns_join (block_entries a.self.now) a.end (a.end - a.first) 0 (16 * c.loop-q.q) (16 * c.loop-q.q + 16) a.work.now c.loop-q.work _
    (omega arith) (omega arith) (omega arith) c.loop-q.invariant c.backward_columns16.ensures)

pub returns-then-sixteens-self : goal.returns-then-sixteens-self
returns-then-sixteens-self c =
    let a = c.args in
    let all : c.loop-q.q ≡ a.self.now.w / 16 = omega arith in
    columns_join (block_entries a.self.now) a.end (a.end - a.first) 0 (16 * (a.self.now.w / 16)) a.self.now.w a.work.now c.loop-q.work _
    (omega arith) (omega arith) (omega arith) (rw all at c.loop-q.invariant) c.backward_last_columns.ensures
