-- The lines of the orders below n are written.
use Rattle.text.specs.Writing.{Puts, pieces}
use Rattle.acceptance.specs.Counts.{order_lines}
use Rattle.acceptance.proofs.put_orders.Given as goal

abbrev pub invariant-loop-n : goal.invariant-loop-n
invariant-loop-n l = Puts (pieces order_lines l.n) l.fn.writer l.writer
