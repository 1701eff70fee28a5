-- `engine::blocked_pipeline` meets its contract: each call did what its definition says. Assumes nothing.
use native.Mathlib.Omega.{arith}
use Rattle.engine.proofs.Composition.{starts, blocked_not_moved, blocked_refused, blocked_accepted}
use Rattle.engine.proofs.pipelines.blocked_pipeline.Goals as goal

pub returns-then-there-ne0 : goal.returns-then-there-ne0
returns-then-there-ne0 c =
    let a = c.args in
    let there = rw (starts a.order a.block c.new.result c.new.ensures.0 c.new.ensures.1 c.new.ensures.2) at c.rearrange-there.ensures in
    rw c.ended_by.ensures (blocked_not_moved a.order a.block a.m a.matrix.now a.rhs.now a.work.now _ _ _ there c.if-there-ne0.true)

pub shape_of-matrix-then-factor-ne0 : goal.shape_of-matrix-then-factor-ne0
shape_of-matrix-then-factor-ne0 c = omega (arith, c.rearrange-there.auto, c.factor-factor.auto)

pub returns-then-factor-ne0 : goal.returns-then-factor-ne0
returns-then-factor-ne0 c =
    let a = c.args in
    let there = rw (starts a.order a.block c.new.result c.new.ensures.0 c.new.ensures.1 c.new.ensures.2) at c.rearrange-there.ensures in
    rw c.ended_by-then-factor-ne0.ensures (blocked_refused a.order a.block a.m a.matrix.now a.rhs.now a.work.now _ _ _ there c.if-there-ne0.false _ _ _ c.factor-factor.ensures c.if-factor-ne0.true)

pub shape_of-matrix : goal.shape_of-matrix
shape_of-matrix c = omega (arith, c.rearrange-there.auto, c.factor-factor.auto, c.solve-solver.auto, c.rearrange-back.auto)

pub shape_of-work : goal.shape_of-work
shape_of-work c = omega (arith, c.rearrange-there.auto, c.factor-factor.auto, c.solve-solver.auto, c.rearrange-back.auto)

pub returns : goal.returns
returns c =
    let a = c.args in
    let there = rw (starts a.order a.block c.new.result c.new.ensures.0 c.new.ensures.1 c.new.ensures.2) at c.rearrange-there.ensures in
    blocked_accepted a.order a.block a.m a.matrix.now a.rhs.now a.work.now _ _ _ there c.if-there-ne0.false _ _ _ c.factor-factor.ensures c.if-factor-ne0.false _ _ _ c.solve-solver.ensures _ _ _ c.rearrange-back.ensures
