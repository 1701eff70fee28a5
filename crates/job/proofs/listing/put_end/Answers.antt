-- `job::listing::put_end` meets its contract. The head, then two numbers. Assumes nothing.
use Prim.Native.Nat.{◌+◌}
use native.Mathlib.Omega.{arith}
use lib.ListN.{length, length-append}
use Rattle.text.specs.Decimals.{decimal}
use Rattle.text.proofs.Decimals.{number_text, length_number}
use Rattle.text.proofs.Texts.{puts_then, puts_as, room_left}
use Rattle.job.proofs.Texts.{end_head, end_text, length_end_line}
use Rattle.job.proofs.listing.put_end.Goals as goal

pub put_text-requires : goal.put_text-requires
put_text-requires c = omega (arith, length_end_line c.args.code c.args.place)

pub put_number-requires : goal.put_number-requires
put_number-requires c =
    let room = room_left (length (decimal c.args.code) + 1) (omega (arith, length_end_line c.args.code c.args.place)) c.put_text.ensures in
    omega arith

pub put_number-requires-2 : goal.put_number-requires-2
put_number-requires-2 c =
    let room = room_left (length (decimal c.args.code) + length (decimal c.args.place) + 2) (omega (arith, length_end_line c.args.code c.args.place)) c.put_text.ensures in
    let rest = room_left (length (decimal c.args.place) + 1) (omega (arith, length_number c.args.code 32)) c.put_number.ensures in
    omega arith

pub returns : goal.returns
returns c =
    let line = length_end_line c.args.code c.args.place in
    puts_as (end_text c.args.code c.args.place)
    (puts_then (omega (arith, line, length-append end_head (number_text c.args.code 32), length_number c.args.code 32))
    (puts_then (omega (arith, line)) c.put_text.ensures c.put_number.ensures) c.put_number-2.ensures)
