-- `engine::plain_pipeline` meets its contract: each call did what its definition says. Assumes nothing.
use Rattle.engine.proofs.Composition.{starts, plain_refused, plain_accepted}
use Rattle.engine.proofs.pipelines.plain_pipeline.Goals as goal

pub returns-then-factor-ne0 : goal.returns-then-factor-ne0
returns-then-factor-ne0 c =
    let a = c.args in
    let factored = rw (starts a.order a.block c.new.result c.new.ensures.0 c.new.ensures.1 c.new.ensures.2) at c.factor-factor.ensures in
    rw c.ended_by.ensures (plain_refused a.order a.block a.m a.matrix.now a.rhs.now a.work.now _ _ _ factored c.if-factor-ne0.true)

pub returns : goal.returns
returns c =
    let a = c.args in
    let factored = rw (starts a.order a.block c.new.result c.new.ensures.0 c.new.ensures.1 c.new.ensures.2) at c.factor-factor.ensures in
    plain_accepted a.order a.block a.m a.matrix.now a.rhs.now a.work.now _ _ _ factored c.if-factor-ne0.false _ _ _ c.solve-solver.ensures
