-- `job::list_job` meets its contract. What was solved is listed, and has room. Assumes nothing.
use native.Mathlib.Omega.{arith}
use mathlib.Core.Path.{sym, ap, ◌∙◌, subst}
use Rattle.job_format.specs.declared.Sizes.{Sizes}
use Rattle.job_format.specs.Format.{InBounds}
use Rattle.job_format.proofs.Formats.{triangle_small, values_small}
use Rattle.job.specs.Listing.{Job, held, result_lines, listing_of}
use Rattle.text.proofs.Texts.{puts_as}
use Rattle.job.proofs.Listings.{result_short, job_success_of, solved_lines}
use Rattle.job.proofs.list_job.Goals as goal

pub put_result-requires : goal.put_result-requires
put_result-requires c =
    let job = c.solve-verdict.new.job in
    let same = c.solve-verdict.ensures.same_sizes ∙ ap (λ (j : Job). j.sizes) c.fill.ensures in
    let inside = subst InBounds (sym same) c.requires.in_bounds in
    omega (
      arith,
      result_short job.sizes inside c.solve-verdict.result job.matrix.now job.rhs.now (job_success_of _ _ _ _ c.solve-verdict.ensures.solved)
          (omega (arith, job.matrix_len, triangle_small job.sizes.order inside.order)) (omega (arith, job.rhs_len, values_small job.sizes.order job.sizes.count inside.order inside.count)),
    )

pub returns : goal.returns
returns c =
    let job = c.solve-verdict.new.job in
    puts_as (ap (λ (s : Sizes). result_lines s c.solve-verdict.result job.matrix.now job.rhs.now) c.solve-verdict.ensures.same_sizes
    ∙ solved_lines (held c.fill.new.job) c.solve-verdict.result job.matrix.now job.rhs.now c.solve-verdict.ensures.solved
    ∙ ap listing_of c.fill.ensures) c.put_result.ensures
