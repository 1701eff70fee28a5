-- `job::listing::put_value` meets its contract. The head, the digits and the line feed. Assumes nothing.
use native.Mathlib.Omega.{arith}
use Rattle.job.specs.Listing.{value_line}
use Rattle.text.proofs.Texts.{puts_then, room_left}
use Rattle.job.proofs.Texts.{length_join}
use Rattle.job.proofs.listing.put_value.Goals as goal

pub put_hexadecimal-requires : goal.put_hexadecimal-requires
put_hexadecimal-requires c = room_left 16 (omega (arith, c.told-head)) c.put_text.ensures

pub put_byte-requires : goal.put_byte-requires
put_byte-requires c =
    let room = room_left 1 (omega (arith, length_join c.args.head.now c.args.v c.told-head)) (puts_then (omega (arith, c.told-head)) c.put_text.ensures c.put_hexadecimal.ensures) in
    omega arith

pub returns : goal.returns
unfolding value_line
returns c =
    puts_then (omega (arith, length_join c.args.head.now c.args.v c.told-head)) (puts_then (omega (arith, c.told-head)) c.put_text.ensures c.put_hexadecimal.ensures)
    c.put_byte.ensures
