-- `solve::runs::ColumnRun::forward_rows` meets its contract. Assumes nothing.
use Prim.Native.Nat.{◌+◌, ◌-◌, ◌%◌}
use native.Mathlib.Omega.{arith}
use mathlib.Core.Path.{◌≡◌}
use Rattle.solve.specs.Parts.{blocked_entries}
use Rattle.solve.specs.Substitution.{RowsSubtracted}
use Rattle.solve.proofs.Rows.{replaced_none, rows_join}
use Rattle.solve.proofs.RunTurns.{run_le}
use Rattle.solve.proofs.runs.ColumnRun.forward_rows.Goals as goal
use Rattle.solve.proofs.runs.ColumnRun.forward_rows.Goals.{then-left-gt0, else-left-gt0}

pub overflow_sub-rows : goal.overflow_sub-rows
overflow_sub-rows c = (run_le c.args.self.now).0

pub forward_tiles-requires-clause-tiles : goal.forward_tiles-requires-clause-tiles
forward_tiles-requires-clause-tiles c = omega (arith, run_le c.args.self.now)

-- first the rows that eights leave, or none
pub returns-after-left-gt0 : goal.returns-after-left-gt0
returns-after-left-gt0 c =
    let a = c.args in
    let h = a.self.now.memory.shape.order in
    let w = a.self.now.w in
    let entries = blocked_entries a.self.now.memory in
    let first : RowsSubtracted entries w w (w + (h - w) % 8) a.work.now c.if-left-gt0.work =
    elim c.if-left-gt0.branch [
      | then-left-gt0 t ↦ rw t.work-is t.forward_tile.ensures
      | else-left-gt0 t ↦
          let none : w + (h - w) % 8 ≡ w = omega (arith, t.if-left-gt0.false) in
          rw (t.work-is, none) (replaced_none _ w a.work.now)
    ] in
    rows_join entries w w (w + (h - w) % 8) h a.work.now c.if-left-gt0.work _ (omega arith) (omega arith) (omega arith) first c.forward_tiles-else-rows-lt8.ensures
