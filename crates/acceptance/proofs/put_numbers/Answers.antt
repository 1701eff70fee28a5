use native.Mathlib.Omega.{arith}
use lib.ListN.{length, get_or}
use mathlib.Core.Path.{◌≡◌}
use Rattle.text.proofs.Texts.{puts_then, puts_none, length_put}
use Rattle.text.proofs.Decimals.{length_decimal}
use Rattle.acceptance.specs.Counts.{spaced, numbers_line}
use Rattle.acceptance.proofs.Lines.{begun_fits, begun_left, begun_next}
use Rattle.acceptance.proofs.put_numbers.Goals as goal

pub loop-number-init : goal.loop-number-init
loop-number-init c = puts_then (omega arith) c.put_byte.ensures (puts_none (spaced c.args.numbers.now) c.put_byte.new.self)

pub put_byte-requires-in-loop-number : goal.put_byte-requires-in-loop-number
put_byte-requires-in-loop-number c = omega (arith, begun_left c.args.numbers.now c.loop-number.number-index c.requires (omega arith) c.loop-number.invariant)

pub put_decimal-requires : goal.put_decimal-requires
put_decimal-requires c =
    let room = begun_left c.args.numbers.now c.loop-number.number-index c.requires (omega arith) c.loop-number.invariant in
    let space = c.put_byte-in-loop-number.ensures in
    omega (arith, room, space.written.next, length_put (omega (arith, room)) space, length_decimal (get_or c.args.numbers.now c.loop-number.number-index 0))

pub loop-number-preserved : goal.loop-number-preserved
loop-number-preserved c =
    let room = begun_left c.args.numbers.now c.loop-number.number-index c.requires (omega arith) c.loop-number.invariant in
    begun_next c.args.numbers.now c.loop-number.number-index c.requires (omega arith) c.loop-number.invariant
    (puts_then (omega (arith, room)) c.put_byte-in-loop-number.ensures c.put_decimal.ensures)

pub put_byte-requires-2 : goal.put_byte-requires-2
put_byte-requires-2 c = omega (arith, begun_left c.args.numbers.now c.loop-number.number-index c.requires (omega arith) c.loop-number.invariant)

pub returns : goal.returns
unfolding numbers_line
returns c =
    let end : c.loop-number.number-index ≡ length c.args.numbers.now = omega arith in
    let begun = rw end at c.loop-number.invariant in
    puts_then (begun_fits c.args.numbers.now (length c.args.numbers.now) c.requires (omega arith) begun) begun c.put_byte-2.ensures
