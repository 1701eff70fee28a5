-- `job_format::writer::map_byte` meets its contract. The loop goes from the highest bit down; the bits from k on are in the byte. Assumes nothing.
use Rattle.job_format.specs.Rewriting.{stands}
use Rattle.job_format.proofs.Digits.{BitsDown}
use Rattle.job_format.proofs.writer.map_byte.Given as goal

abbrev pub invariant-loop-k : goal.invariant-loop-k
invariant-loop-k l = BitsDown (stands l.matrix) l.first 8 l.byte l.k
