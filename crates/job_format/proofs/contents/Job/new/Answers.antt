-- `job_format::contents::Job::new` meets its contract. A job's values are few enough. Assumes nothing.
use native.Mathlib.Omega.{arith}
use mathlib.Core.Path.{sym, ◌∙◌}
use lib.Seq.{length-take-le}
use Rattle.job_format.proofs.Formats.{entries_fit, values_fit}
use Rattle.job_format.proofs.contents.Job.new.Goals as goal

pub slice_bounds-result-end : goal.slice_bounds-result-end
slice_bounds-result-end g c =
    sym (length-take-le c.entries.result c.args.matrix.now (omega (arith, entries_fit c.args.sizes c.requires.in_bounds c.entries.result c.entries.ensures)))

pub invariant_of-result : goal.invariant_of-result
invariant_of-result g c =
    record {
      matrix_len =
          length-take-le c.entries.result c.args.matrix.now (omega (arith, entries_fit c.args.sizes c.requires.in_bounds c.entries.result c.entries.ensures))
          ∙ c.entries.ensures;
      rhs_len =
          length-take-le c.values.result c.args.rhs.now (omega (arith, values_fit c.args.sizes c.requires.in_bounds c.values.result c.values.ensures)) ∙ c.values.ensures;
    }
