-- `plain_factor::store_column` meets its contract. Assumes nothing.
use native.Mathlib.Omega.{arith}
use mathlib.Core.Path.{◌≡◌, ap, ◌∙◌}
use Rattle.plain_factor.proofs.Columns.{rows_stored, rows_stored_none, rows_stored_next, rows_stored_all}
use Rattle.plain_factor.proofs.store_column.Goals as goal

pub loop-i-init : goal.loop-i-init
loop-i-init c = rows_stored_none c.args.n c.args.j c.args.work.now c.args.matrix.now

pub loop-i-preserved : goal.loop-i-preserved
loop-i-preserved c =
    let a = c.args in
    rows_stored_next a.n a.j a.work.now a.matrix.now c.loop-i.i c.row_start-start.result c.loop-i.matrix (omega arith) c.row_start-start.ensures.place c.loop-i.invariant

pub returns : goal.returns
returns c =
    let a = c.args in
    let e : c.loop-i.i ≡ a.n = omega arith in
    rows_stored_all a.n a.j a.work.now a.matrix.now c.loop-i.matrix c.requires.work_len.0
    (c.loop-i.invariant ∙ ap (rows_stored a.n a.j a.work.now a.matrix.now) e)
