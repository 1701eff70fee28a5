-- `solve::block_column::BlockColumn::forward_rows` meets its contract. The invariant of its loop: the first t rows of each eighth are done. Assumes nothing.
use Prim.Native.Nat.{◌+◌, ◌-◌, ◌*◌, ◌/◌}
use native.Mathlib.Omega.{arith}
use mathlib.Core.Path.{◌≡◌, ◌∙◌}
use Rattle.solve.specs.Parts.{block_entries}
use Rattle.solve.proofs.Rows.{rows_join}
use Rattle.solve.proofs.Apart.{eighths_none, eighths_next, eighths_all}
use Rattle.solve.proofs.block_column.BlockColumn.forward_rows.Goals as goal

pub loop-t-init : goal.loop-t-init
loop-t-init c =
    let a = c.args in
    (omega arith, eighths_none (block_entries a.self.now) a.self.now.w ((a.self.now.h - a.self.now.w) / 8) a.work.now)

pub forward_rows8-requires : goal.forward_rows8-requires
forward_rows8-requires c =
    let a = c.args in
    record { rows = c.loop-t.invariant.1.size ∙ c.requires; t_lt_q = omega arith }

pub loop-t-preserved : goal.loop-t-preserved
loop-t-preserved c =
    let a = c.args in (
      omega arith,
      eighths_next (block_entries a.self.now) a.self.now.w ((a.self.now.h - a.self.now.w) / 8) c.loop-t.t a.work.now c.loop-t.work _
          c.loop-t-test.true
          c.loop-t.invariant.1 c.forward_rows8.ensures,
    )

pub returns : goal.returns
returns c =
    let a = c.args in
    let q = (a.self.now.h - a.self.now.w) / 8 in
    let all : c.loop-t.t ≡ q = omega arith in
    let entries = block_entries a.self.now in
    rows_join entries a.self.now.w a.self.now.w (a.self.now.w + 8 * q) a.self.now.h a.work.now c.loop-t.work _ (omega arith) (omega arith) (omega arith)
    (eighths_all entries a.self.now.w q a.work.now c.loop-t.work (rw all at c.loop-t.invariant.1)) c.forward_last_rows.ensures
