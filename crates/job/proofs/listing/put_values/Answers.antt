-- `job::listing::put_values` meets its contract. The loop's invariant: the lines of the first values are written. Assumes nothing.
use native.Mathlib.Omega.{arith}
use Rattle.text.proofs.Texts.{puts_as, room_left, puts_none, puts_turn}
use Rattle.job.proofs.Texts.{line_at, length_lines, lines_all}
use Rattle.job.proofs.listing.put_values.Goals as goal

pub loop-v-init : goal.loop-v-init
loop-v-init c = puts_none (line_at c.args.head.now c.args.values.now) c.args.writer.now

pub put_value-requires : goal.put_value-requires
put_value-requires c = room_left 19 (omega (arith, length_lines c.args.head.now c.args.values.now c.told-head c.loop-v.v-index)) c.loop-v.invariant

pub loop-v-preserved : goal.loop-v-preserved
loop-v-preserved c =
    puts_turn (line_at c.args.head.now c.args.values.now) c.loop-v.v-index
    (omega (arith, length_lines c.args.head.now c.args.values.now c.told-head c.loop-v.v-index)) c.loop-v.invariant c.put_value.ensures

pub returns : goal.returns
returns c = puts_as (lines_all c.args.head.now c.args.values.now c.loop-v.v-index (omega arith)) c.loop-v.invariant
