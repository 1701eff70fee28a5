-- The first numbers are written.
use Rattle.text.specs.Writing.{Puts}
use Rattle.acceptance.proofs.Lines.{begun}
use Rattle.acceptance.proofs.put_numbers.Given as goal

abbrev pub invariant-loop-number : goal.invariant-loop-number
invariant-loop-number l = Puts (begun l.numbers l.number-index) l.fn.writer l.writer
