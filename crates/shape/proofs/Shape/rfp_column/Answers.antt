-- `shape::Shape::rfp_column` meets its contract, by the half that column j is in; row i is past the middle where column j is. Assumes nothing.
use mathlib.Core.Path.{sym}
use native.Mathlib.Omega.{arith}
use Rattle.shape.proofs.Rfp.{rfp_columns_half, own_column, other_column}
use Rattle.shape.proofs.Shape.rfp_column.Goals as goal

pub overflow_sub-result : goal.overflow_sub-result
overflow_sub-result c =
    let args = c.args in
    omega (arith, c.rfp_columns.ensures, rfp_columns_half args.self.order)

pub returns-then-j-rfp_columns : goal.returns-then-j-rfp_columns
returns-then-j-rfp_columns c =
    let args = c.args in
    sym (own_column args.self.order args.i args.j (omega (arith, c.rfp_columns.ensures)))

pub returns-else-j-rfp_columns : goal.returns-else-j-rfp_columns
returns-else-j-rfp_columns c =
    let args = c.args in
    sym (other_column args.self.order args.i args.j (omega (arith, c.rfp_columns.ensures)))
