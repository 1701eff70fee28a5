use native.Mathlib.Omega.{arith}
use Rattle.acceptance.proofs.Tallies.{counts_none, counts_more, counts_below}
use Rattle.acceptance.proofs.count_systems.Goals as goal

pub loop-t-init : goal.loop-t-init
loop-t-init c =
    let none = c.default-counts.ensures in
    (omega arith, counts_none c.args.run c.args.n c.default-counts.result none.0 none.1.0 none.1.1.0 none.1.1.1)

pub add-requires : goal.add-requires
add-requires c =
    let a = c.args in
    counts_below a.run a.n c.loop-t.t c.loop-t.counts (omega (arith, c.requires.count_bound)) c.loop-t.invariant.1

pub loop-t-preserved : goal.loop-t-preserved
loop-t-preserved c =
    let a = c.args in
    (omega arith, counts_more a.run a.n c.loop-t.t c.system_code.result c.loop-t.counts c.add.new.self c.loop-t.invariant.1 c.system_code.ensures c.add.ensures)
