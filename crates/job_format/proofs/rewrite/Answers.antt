-- `job_format::rewrite` meets its contract. A fault is handed on; else what was read is written. Assumes nothing.
use mathlib.Core.Path.{◌∙◌}
use Rattle.job_format.specs.declared.Zeros.TheVariants.{Kept}
use Rattle.job_format.specs.Format.{contents}
use Rattle.job_format.proofs.Formats.{job_fault, job_contents}
use Rattle.job_format.proofs.JobBytes.{rewrites_fault, rewrites_job}
use Rattle.job_format.proofs.rewrite.Goals as goal

pub returns-in_err-sizes : goal.returns-in_err-sizes
returns-in_err-sizes c =
    rewrites_fault c.args.file.now c.args.out.now _ c.from_residual.result c.from_residual.ensures.1 (job_fault Kept c.args.file.now _ c.in_err-sizes.ensures.read)

pub returns-in_err-read_contents : goal.returns-in_err-read_contents
returns-in_err-read_contents c =
    let whole = job_contents Kept c.args.file.now c.in_ok-sizes.sizes c.in_ok-sizes.reader.at c.in_ok-sizes.ensures.read in
    rewrites_fault c.args.file.now c.args.out.now _ c.from_residual-in_err-read_contents.result c.from_residual-in_err-read_contents.ensures.1
    (rw (c.in_ok-sizes.ensures.same_file, c.new-job.ensures.same_sizes) at c.in_err-read_contents.ensures.read ∙ whole)

pub returns : goal.returns
returns c =
    let whole = job_contents Kept c.args.file.now c.in_ok-sizes.sizes c.in_ok-sizes.reader.at c.in_ok-sizes.ensures.read in
    rewrites_job c.args.file.now c.args.out.now (contents c.read_contents.new.job) c.read_contents.new.self.at c.put_job.new.writer.at c.put_job.new.writer.out.now
    (rw (c.in_ok-sizes.ensures.same_file, c.new-job.ensures.same_sizes) at c.in_ok-read_contents.ensures.read ∙ whole)
    (rw (c.new-writer.ensures.start, c.new-writer.ensures.unchanged) at c.put_job.ensures.written)
