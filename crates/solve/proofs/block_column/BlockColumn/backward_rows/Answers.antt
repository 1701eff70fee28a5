-- `solve::block_column::BlockColumn::backward_rows` meets its contract. The invariant of its loop: the products of the last `done` rows are subtracted.
-- Assumes nothing.
use Prim.Native.Nat.{ℕ, ◌+◌, ◌-◌, ◌/◌, ◌≤◌, ◌<◌}
use native.Mathlib.Omega.{arith}
use mathlib.Core.Path.{◌≡◌, ◌∙◌}
use mathlib.Core.List.{List}
use lib.Ieee.{Float}
use Rattle.solve.specs.Parts.{block_entries}
use Rattle.solve.specs.Substitution.{ColumnsSubtracted}
use Rattle.solve.proofs.Rows.{columns_none, columns_add}
use Rattle.solve.proofs.block_column.BlockColumn.backward_rows.Goals as goal

pub loop-done-init : goal.loop-done-init
loop-done-init c =
    let a = c.args in
    (omega arith, columns_none (block_entries a.self.now) a.self.now.h 0 a.self.now.w a.work.now)

pub backward_tile-requires : goal.backward_tile-requires
backward_tile-requires c = record { rows = c.loop-done.invariant.1.size ∙ c.requires; w_le_first = (omega arith, omega arith, omega arith) }

-- the next tile up
turn :
    (coefficient : ℕ → ℕ → Float) (h w done rows : ℕ) (v u v' : List Float) → rows ≤ h - done - w →
    done < h - w → ColumnsSubtracted coefficient h done 0 w v u →
    ColumnsSubtracted coefficient (h - done) (h - done - (h - done - rows)) 0 w u v' → ColumnsSubtracted coefficient h (done + rows) 0 w v v'
turn coefficient h w done rows v u v' le less before tile =
    let count : h - done - (h - done - rows) ≡ rows = omega arith in
    columns_add coefficient h done rows 0 w v u v' (omega arith) before (rw count at tile)

pub loop-done-preserved : goal.loop-done-preserved
loop-done-preserved c =
    let a = c.args in
    let whole : c.min.result ≡ 1 + 1023 / a.self.now.w = omega arith in (
      omega arith,
      rw whole at (turn (block_entries a.self.now) a.self.now.h a.self.now.w c.loop-done.done c.min.result a.work.now c.loop-done.work c.backward_tile.new.work
          (omega arith) (omega arith) c.loop-done.invariant.1 c.backward_tile.ensures),
    )

pub returns-2 : goal.returns-2
returns-2 c =
    let a = c.args in
    let all : c.loop-done.done + c.min.result ≡ a.self.now.h - a.self.now.w = omega arith in
    rw all at (turn (block_entries a.self.now) a.self.now.h a.self.now.w c.loop-done.done c.min.result a.work.now c.loop-done.work c.backward_tile.new.work
    (omega arith) (omega arith) c.loop-done.invariant.1 c.backward_tile.ensures)

-- no rows are below the triangle
pub returns : goal.returns
returns c =
    let all : c.loop-done.done ≡ c.args.self.now.h - c.args.self.now.w = omega arith in
    rw all at c.loop-done.invariant.1
