-- `shape::Shape::rfp_row` meets its contract, by the half that column j is in. Assumes nothing.
use mathlib.Core.Path.{sym}
use native.Mathlib.Omega.{arith}
use Rattle.shape.proofs.Rfp.{own_row, other_row}
use Rattle.shape.proofs.Shape.rfp_row.Goals as goal

pub returns-then-j-columns : goal.returns-then-j-columns
returns-then-j-columns c =
    let args = c.args in
    sym (own_row args.self.order args.i args.j (omega (arith, c.rfp_columns-columns.ensures)))

pub returns-else-j-columns : goal.returns-else-j-columns
returns-else-j-columns c =
    let args = c.args in
    let columns = c.rfp_columns-columns.ensures in
    omega (arith, columns, other_row args.self.order args.i args.j (omega (arith, columns)))
