-- `job::listing::put_hexadecimal` meets its contract. The loop's invariant: the first i digits are written. Assumes nothing.
use Rattle.text.specs.Writing.{Puts}
use Rattle.job.proofs.Texts.{hex_digits}
use Rattle.job.proofs.listing.put_hexadecimal.Given as goal

abbrev pub invariant-loop-i : goal.invariant-loop-i
invariant-loop-i l = Puts (hex_digits l.bits l.i) l.fn.writer l.writer
