use lib.ListN.{length}
use Rattle.acceptance.proofs.Systems.{fill_turn, fill_done}
use Rattle.acceptance.proofs.fill_system.Goals as goal

pub loop-p-preserved : goal.loop-p-preserved
loop-p-preserved c =
    let a = c.args in
    fill_turn (length a.matrix.now) a.t c.loop-p.matrix c.loop-p.left c.loop-p.p c.loop-p.invariant c.value.result c.loop-p-test.true c.value.ensures

pub returns : goal.returns
returns c =
    let a = c.args in
    fill_done (length a.matrix.now) a.t c.loop-p.matrix c.loop-p.left c.loop-p.p c.loop-p.invariant c.loop-p-test.false
