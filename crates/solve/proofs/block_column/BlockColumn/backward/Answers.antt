-- `solve::block_column::BlockColumn::backward` meets its contract: the rows below the triangle, and then the triangle. Assumes nothing.
use Rattle.solve.proofs.Substitution.{backward_done}
use Rattle.solve.proofs.block_column.BlockColumn.backward.Goals as goal

pub returns : goal.returns
returns c =
    let a = c.args in
    backward_done _ a.self.now.h a.self.now.w a.work.now _ _ a.self.now.fits c.backward_rows.ensures
    c.backward_triangle.ensures
