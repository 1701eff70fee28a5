-- `job_format::writer::put_map` meets its contract. The loop's invariant: the first i bytes of the map are written. Assumes nothing.
use Rattle.calls.specs.Sequences.{tabulate}
use Rattle.text.specs.Writing.{Puts}
use Rattle.job_format.proofs.JobBytes.{map_byte}
use Rattle.job_format.proofs.writer.put_map.Given as goal

abbrev pub invariant-loop-i : goal.invariant-loop-i
invariant-loop-i l = Puts (tabulate l.i (map_byte l.matrix)) l.fn.writer l.writer
