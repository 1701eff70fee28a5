use native.Mathlib.Omega.{arith}
use mathlib.Core.Path.{◌≡◌, ap}
use Rattle.text.proofs.Texts.{puts_as, puts_none, puts_turn, length_put}
use Rattle.acceptance.specs.Counts.{order_lines, listing}
use Rattle.text.specs.Writing.{pieces}
use Rattle.acceptance.proofs.Lines.{length_orders, order_of}
use lib.ListN.{length}
use Rattle.acceptance.proofs.put_orders.Goals as goal

pub loop-n-init : goal.loop-n-init
loop-n-init c = puts_none order_lines c.args.writer.now

pub put_order-requires-clause-in_bounds : goal.put_order-requires-clause-in_bounds
put_order-requires-clause-in_bounds c =
    let inv = c.loop-n.invariant in
    let short = length_orders c.loop-n.n in
    omega (arith, c.requires, short, inv.written.next, length_put (omega (arith, c.requires, short)) inv)

pub loop-n-preserved : goal.loop-n-preserved
loop-n-preserved c =
    let size : length c.every_run-runs.result ≡ 4 = omega arith in
    puts_turn order_lines c.loop-n.n (omega (arith, c.requires, length_orders c.loop-n.n)) c.loop-n.invariant
    (puts_as (order_of c.loop-n.n c.every_run-runs.result size c.every_run-runs.ensures) c.put_order.ensures)

pub returns : goal.returns
unfolding listing
returns c =
    let end : c.loop-n.n ≡ 4 = omega arith in
    puts_as (ap (pieces order_lines) end) c.loop-n.invariant
