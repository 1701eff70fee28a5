-- `job::floats::floats_of` meets its contract. The loop's invariant: the first k values are there. Assumes nothing.
use Rattle.job.proofs.Patterns.{FloatsTo}
use Rattle.job.proofs.floats.floats_of.Given as goal

abbrev pub invariant-loop-k : goal.invariant-loop-k
invariant-loop-k l = FloatsTo l.bits l.out l.k
