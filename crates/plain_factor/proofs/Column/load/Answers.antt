-- `plain_factor::Column::load` meets its contract. Assumes nothing.
use native.Mathlib.Omega.{arith}
use mathlib.Core.Path.{◌∙◌}
use Rattle.plain_factor.proofs.Rows.{row_loaded}
use Rattle.plain_factor.proofs.Column.load.Goals as goal

pub returns : goal.returns
returns c =
    let s = c.args.self.now in
    λ r h. c.loop-r.invariant r (omega arith) ∙ row_loaded s.n s.matrix.now s.j c.row_start.result c.args.from r c.row_start.ensures.place
