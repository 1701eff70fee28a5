use native.Mathlib.Omega.{arith}
use lib.ListN.{get_or}
use Rattle.text.proofs.Texts.{puts_none, puts_turn, length_put}
use Rattle.acceptance.specs.declared.Run.TheVariants.{Plain}
use Rattle.acceptance.specs.Counts.{line}
use Rattle.acceptance.proofs.Lines.{length_lines}
use Rattle.acceptance.proofs.put_order.Goals as goal

pub loop-run-init : goal.loop-run-init
loop-run-init c = puts_none (λ k. line (get_or c.args.runs.now k Plain) c.args.n) c.args.writer.now

pub put_line-requires-clause-in_bounds : goal.put_line-requires-clause-in_bounds
put_line-requires-clause-in_bounds c =
    let inv = c.loop-run.invariant in
    let short = length_lines (λ k. get_or c.args.runs.now k Plain) c.args.n c.loop-run.run-index in
    omega (arith, c.requires.in_bounds, short, inv.written.next, length_put (omega (arith, c.requires.in_bounds, short)) inv)

pub loop-run-preserved : goal.loop-run-preserved
loop-run-preserved c =
    let k = c.loop-run.run-index in
    puts_turn (λ j. line (get_or c.args.runs.now j Plain) c.args.n) k
    (omega (arith, c.requires.in_bounds, length_lines (λ j. get_or c.args.runs.now j Plain) c.args.n k)) c.loop-run.invariant
    c.put_line.ensures
