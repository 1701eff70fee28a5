-- `job::list` meets its contract. By what the reading of the sizes and of the contents gave. Assumes nothing.
use native.Mathlib.Omega.{arith}
use mathlib.Core.Path.{ap, ◌∙◌}
use Rattle.text.proofs.Texts.{puts_as}
use Rattle.job.specs.Listing.{listed}
use Rattle.job.proofs.Listings.{end_short, fault_short, listing_fault, listing_sizes}
use Rattle.job.proofs.list.Goals as goal

pub put_end-requires : goal.put_end-requires
put_end-requires c = omega (arith, end_short c.code.result c.place.result)

pub returns-in-Err : goal.returns-in-Err
returns-in-Err c = puts_as (listing_fault c.args.file.now c.in-Err.fault c.in-Err.ensures.read) (rw (c.code.ensures, c.place.ensures) at c.put_end.ensures)

pub put_fault-requires : goal.put_fault-requires
put_fault-requires c = omega (arith, fault_short c.in-Ok.read.0 c.in-Ok.ensures.in_bounds c.in-Err-read_contents.fault)

pub returns-in-Ok-read_contents : goal.returns-in-Ok-read_contents
returns-in-Ok-read_contents c =
    let sizes = c.in-Ok.read.0 in
    let read = rw (c.in-Ok.ensures.same_file, c.new-bits.ensures.same_sizes) at c.in-Ok-read_contents.ensures.read in
    puts_as (ap (listed sizes) read ∙ listing_sizes c.args.file.now sizes c.in-Ok.read.1.at c.in-Ok.ensures.read) c.list_job.ensures

pub returns-in-Err-read_contents : goal.returns-in-Err-read_contents
returns-in-Err-read_contents c =
    let sizes = c.in-Ok.read.0 in
    let read = rw (c.in-Ok.ensures.same_file, c.new-bits.ensures.same_sizes) at c.in-Err-read_contents.ensures.read in
    puts_as (ap (listed sizes) read ∙ listing_sizes c.args.file.now sizes c.in-Ok.read.1.at c.in-Ok.ensures.read) c.put_fault.ensures
