-- `job::listing::put_fault` meets its contract. The last line alone after 13, else after the job's line. Assumes nothing.
use native.Mathlib.Omega.{arith}
use mathlib.Core.Path.{ap}
use lib.ListN.{length, length-append}
use Rattle.job_format.specs.Reading.{fault_code, fault_place}
use Rattle.job.specs.Listing.{job_line, end_line}
use Rattle.text.proofs.Texts.{puts_then, puts_as, room_left}
use Rattle.job.proofs.Texts.{end_alone, both_lines}
use Rattle.job.proofs.listing.put_fault.Goals as goal
use Rattle.job.proofs.listing.put_fault.Goals.{in-Malformed, in-NeedlessZero}

pub put_sizes-requires : goal.put_sizes-requires
put_sizes-requires c =
    let s = c.args.sizes in
    let f = c.args.fault in
    let two = both_lines s f (λ e. omega (arith, e, ap fault_code c.in-NeedlessZero.is)) in
    omega (arith, ap length two, length-append (job_line s.order s.block s.count) (end_line (fault_code f) (fault_place f)))

pub put_end-requires : goal.put_end-requires
put_end-requires c =
    let s = c.args.sizes in
    let f = c.args.fault in
    elim c.match-fault.branch [
      | in-Malformed w ↦ rw (w.writer-is, c.code.ensures, c.place.ensures) (omega (arith, ap length (end_alone s f (ap fault_code w.in-Malformed.is))))
      | in-NeedlessZero w ↦
          let two = both_lines s f (λ e. omega (arith, e, ap fault_code w.in-NeedlessZero.is)) in
          rw (w.writer-is, c.code.ensures, c.place.ensures)
          (room_left (length (end_line (fault_code f) (fault_place f))) (omega (arith, ap length two, length-append (job_line s.order s.block s.count) (end_line (fault_code f) (fault_place f))))
          w.put_sizes.ensures)
    ]

pub returns : goal.returns
returns c =
    let s = c.args.sizes in
    let f = c.args.fault in
    let last = rw (c.code.ensures, c.place.ensures) at c.put_end.ensures in
    elim c.match-fault.branch [
      | in-Malformed w ↦ puts_as (end_alone s f (ap fault_code w.in-Malformed.is)) (rw w.writer-is at last)
      | in-NeedlessZero w ↦
          let two = both_lines s f (λ e. omega (arith, e, ap fault_code w.in-NeedlessZero.is)) in
          puts_as two
          (puts_then (omega (arith, ap length two, length-append (job_line s.order s.block s.count) (end_line (fault_code f) (fault_place f)))) w.put_sizes.ensures
          (rw w.writer-is at last))
    ]
