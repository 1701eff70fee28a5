-- `job::listing::put_hexadecimal` meets its contract. The loop's invariant: the first i digits are written. Assumes nothing.
use native.Mathlib.Omega.{arith}
use Rattle.text.proofs.Texts.{puts_as, room_left}
use Rattle.job.proofs.Texts.{hex_none, hex_turn, length_hex, hex_all}
use Rattle.job.proofs.listing.put_hexadecimal.Goals as goal

pub loop-i-init : goal.loop-i-init
loop-i-init c = hex_none c.bits_of-bits.result c.args.writer.now

pub put_byte-requires : goal.put_byte-requires
put_byte-requires c =
    let room = room_left 1 (omega (arith, length_hex c.bits_of-bits.result c.loop-i.i)) c.loop-i.invariant in
    omega arith

pub loop-i-preserved : goal.loop-i-preserved
loop-i-preserved c = hex_turn c.bits_of-bits.result c.loop-i.i c.hex_digit.result (omega arith) (omega arith) c.loop-i.invariant c.hex_digit.ensures c.put_byte.ensures

pub returns : goal.returns
returns c = puts_as (hex_all c.bits_of-bits.result c.loop-i.i c.args.v c.bits_of-bits.ensures (omega arith)) c.loop-i.invariant
