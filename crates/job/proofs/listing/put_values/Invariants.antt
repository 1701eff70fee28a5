-- `job::listing::put_values` meets its contract. The loop's invariant: the lines of the first values are written. Assumes nothing.
use Rattle.text.specs.Writing.{Puts, pieces}
use Rattle.job.proofs.Texts.{line_at}
use Rattle.job.proofs.listing.put_values.Given as goal

abbrev pub invariant-loop-v : goal.invariant-loop-v
invariant-loop-v l = Puts (pieces (line_at l.head l.values) l.v-index) l.fn.writer l.writer
