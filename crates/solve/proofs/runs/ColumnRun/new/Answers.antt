-- `solve::runs::ColumnRun::new` meets its contract. Assumes nothing.
use native.Mathlib.Omega.{arith}
use Rattle.shape.specs.Places.{width}
use Rattle.solve.proofs.runs.ColumnRun.new.Goals as goal

pub invariant_of-result-clause-columns : goal.invariant_of-result-clause-columns
unfolding width
invariant_of-result-clause-columns c = omega arith
