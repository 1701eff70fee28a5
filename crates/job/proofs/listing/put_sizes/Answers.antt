-- `job::listing::put_sizes` meets its contract. The head, then three numbers. Assumes nothing.
use Prim.Native.Nat.{◌+◌}
use native.Mathlib.Omega.{arith}
use lib.ListN.{length, length-append}
use mathlib.Core.List.{◌++◌}
use Rattle.text.specs.Decimals.{decimal}
use Rattle.text.proofs.Decimals.{number_text, length_number}
use Rattle.text.proofs.Texts.{puts_then, puts_as, room_left}
use Rattle.job.proofs.Texts.{job_head, job_text, length_job_line}
use Rattle.job.proofs.listing.put_sizes.Goals as goal

pub put_text-requires : goal.put_text-requires
put_text-requires c = let s = c.args.sizes in omega (arith, length_job_line s.order s.block s.count)

pub put_number-requires : goal.put_number-requires
put_number-requires c =
    let s = c.args.sizes in
    let room = room_left (length (decimal s.order) + 1) (omega (arith, length_job_line s.order s.block s.count)) c.put_text.ensures in
    omega arith

pub put_number-requires-2 : goal.put_number-requires-2
put_number-requires-2 c =
    let s = c.args.sizes in
    let line = length_job_line s.order s.block s.count in
    let room =
    room_left (length (decimal s.block) + 1) (omega (arith, line, length-append job_head (number_text s.order 32), length_number s.order 32))
    (puts_then (omega (arith, line)) c.put_text.ensures c.put_number.ensures) in
    omega arith

pub put_number-requires-3 : goal.put_number-requires-3
put_number-requires-3 c =
    let s = c.args.sizes in
    let line = length_job_line s.order s.block s.count in
    let head = length-append job_head (number_text s.order 32) in
    let two = length-append (job_head ++ number_text s.order 32) (number_text s.block 32) in
    let order = length_number s.order 32 in
    let block = length_number s.block 32 in
    let room =
    room_left (length (decimal s.count) + 1) (omega (arith, line, head, two, order, block))
    (puts_then (omega (arith, line, head, order)) (puts_then (omega (arith, line)) c.put_text.ensures c.put_number.ensures) c.put_number-2.ensures) in
    omega arith

pub returns : goal.returns
returns c =
    let s = c.args.sizes in
    let line = length_job_line s.order s.block s.count in
    let head = length-append job_head (number_text s.order 32) in
    let two = length-append (job_head ++ number_text s.order 32) (number_text s.block 32) in
    let order = length_number s.order 32 in
    let block = length_number s.block 32 in
    puts_as (job_text s.order s.block s.count)
    (puts_then (omega (arith, line, head, two, order, block))
    (puts_then (omega (arith, line, head, order)) (puts_then (omega (arith, line)) c.put_text.ensures c.put_number.ensures) c.put_number-2.ensures) c.put_number-3.ensures)
