-- The lines of the first runs are written.
use Rattle.text.specs.Writing.{Puts, pieces}
use lib.ListN.{get_or}
use Rattle.acceptance.specs.declared.Run.TheVariants.{Plain}
use Rattle.acceptance.specs.Counts.{line}
use Rattle.acceptance.proofs.put_order.Given as goal

abbrev pub invariant-loop-run : goal.invariant-loop-run
invariant-loop-run l = Puts (pieces (λ k. line (get_or l.runs k Plain) l.n) l.run-index) l.fn.writer l.writer
