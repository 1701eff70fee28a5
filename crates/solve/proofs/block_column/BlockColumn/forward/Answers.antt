-- `solve::block_column::BlockColumn::forward` meets its contract: the triangle, and then the rows below it. Assumes nothing.
use Rattle.solve.proofs.Substitution.{forward_done}
use Rattle.solve.proofs.block_column.BlockColumn.forward.Goals as goal

pub returns : goal.returns
returns c =
    let a = c.args in
    forward_done _ a.self.now.h a.self.now.w a.work.now _ _ c.forward_triangle.ensures
    c.forward_rows.ensures
