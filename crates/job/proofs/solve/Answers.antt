-- `job::solve` meets its contract. A refusal of 7 or 8 is the job's verdict; else it is the pipeline's, with work memory lent from an array of zeros.
-- Assumes nothing.
use native.Mathlib.Omega.{arith}
use mathlib.Core.Path.{◌≡◌}
use Rattle.shape.specs.Places.{block_work}
use lib.Ieee.{binary64, of_bits}
use Rattle.calls.specs.Pipelines.{Ended}
use Rattle.engine.specs.Promises.{ended}
use Rattle.job.specs.Listing.{held}
use Rattle.text.proofs.Lists.{length_zeros}
use Rattle.job.proofs.Listings.{ended_as, job_refused, job_ran, work_small}
use Rattle.job.proofs.solve.Goals as goal

pub returns-in-Err-clause-solved : goal.returns-in-Err-clause-solved
returns-in-Err-clause-solved c = rw c.from.ensures (job_refused (held c.args.job.now) c.in-Err.refusal _ _ c.in-Err.ensures)

-- the array has room for the needed work memory
pub slice_bounds-work-end : goal.slice_bounds-work-end
slice_bounds-work-end c = omega (arith, work_small c.new.result.order c.new.result.block (omega arith))

pub slice_bounds-blocked_pipeline-end-3 : goal.slice_bounds-blocked_pipeline-end-3
slice_bounds-blocked_pipeline-end-3 c =
    length_zeros 4096 c.block_work-needed.result (of_bits binary64 0) (omega (arith, work_small c.new.result.order c.new.result.block (omega arith)))

pub returns-clause-solved : goal.returns-clause-solved
returns-clause-solved c =
    let sizes = c.args.job.now.sizes in
    let needed : c.block_work-needed.result ≡ block_work sizes.order sizes.block = rw (← c.new.ensures.0, ← c.new.ensures.1) c.block_work-needed.ensures in
    let small = work_small c.new.result.order c.new.result.block (omega arith) in
    let end : Ended =
    ended c.blocked_pipeline-ended.result c.blocked_pipeline-ended.new.matrix c.blocked_pipeline-ended.new.rhs c.blocked_pipeline-ended.new.work
    in
    rw c.from-2.ensures
    (job_ran (held c.args.job.now) end c.in_default.ensures
    (ended_as (held c.args.job.now) c.block_work-needed.result end needed (omega (arith, small)) c.blocked_pipeline-ended.ensures))
