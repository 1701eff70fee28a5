-- `strike::moves::move_values` meets its contract. The loop's invariant: the first k values stand where they go, and all else is as it was; so is the next
-- value to be read, which stands at the place that is written next or behind it. Assumes nothing.
use lib.Ieee.{nan}
use Rattle.kernels.specs.Kernels.{Filled}
use Rattle.strike.specs.Rows.{rows_at}
use Rattle.strike.proofs.moves.move_values.Given as goal

abbrev pub invariant-loop-k : goal.invariant-loop-k
invariant-loop-k l = Filled nan l.to l.k (rows_at l.initial.m l.rows l.base) l.initial.m l.m
