-- `job_format::reader::map_bit` meets its contract. Past the file's end no bit is set. Assumes nothing.
use Rattle.job_format.proofs.Formats.{bit_past, bit_at}
use Rattle.job_format.proofs.reader.map_bit.Goals as goal

pub returns-in-Some : goal.returns-in-Some
returns-in-Some c = bit_at c.args.file.now c.args.p c.in-Some.byte.now (c.in-Some.ensures.lookup.3.1 0)

pub returns-in-None : goal.returns-in-None
returns-in-None c = bit_past c.args.file.now c.args.p c.in-None.ensures.lookup.3
