-- `job_format::writer::put_values` meets its contract. The loop's invariant: the bytes of the first values are written. Assumes nothing.
use Rattle.text.specs.Writing.{Puts}
use Rattle.job_format.proofs.JobBytes.{values_to}
use Rattle.job_format.proofs.writer.put_values.Given as goal

abbrev pub invariant-loop-bits : goal.invariant-loop-bits
invariant-loop-bits l = Puts (values_to l.zeros l.values l.bits-index) l.fn.writer l.writer
