-- `plain_factor::divide_rows` meets its contract. Assumes nothing.
use Rattle.plain_factor.proofs.Verdicts.{rows_divided}
use Rattle.plain_factor.proofs.divide_rows.Goals as goal

pub returns : goal.returns
returns c = rw c.all_finite.ensures (rows_divided c.args.j c.args.diagonal c.args.work.now _ c.requires c.divide.auto.rows c.divide.ensures)
