-- `blocked_factor::factor_blocks` meets its contract. Assumes nothing.
use Prim.Native.Nat.{◌+◌}
use native.Mathlib.Omega.{arith}
use mathlib.Core.Path.{◌≡◌, refl, ◌∙◌}
use Rattle.shape.specs.Places.{width}
use Rattle.shape.proofs.Blocks.{block_of_le, block_of_next, width_full, width_last}
use Rattle.calls.proofs.OutcomeLaws.{passed_on, not_accepted}
use Rattle.blocked_factor.proofs.EarlierBlocks.{inside_le}
use Rattle.blocked_factor.proofs.BlockLoop.{block_at, reached_none, reached_next, blocks_refused, blocks_all}
use Rattle.blocked_factor.proofs.factor_blocks.Goals as goal

pub loop-c-init : goal.loop-c-init
loop-c-init c = (omega arith, omega (arith, block_of_le c.args.shape.block 0), refl, reached_none _ _ _)

pub returns-in_err-exact : goal.returns-in_err-exact
returns-in_err-exact c =
    let now = block_at _ _ c.requires c.loop-c.invariant.3.kept c.loop-c-test.true c.loop-c.invariant.1 in
    let done = rw c.in_err-exact.was at c.factor_step.ensures in
    rw (passed_on c.from_residual.result _ c.from_residual.ensures.1) (blocks_refused now c.loop-c.invariant.3 done (not_accepted c.in_err-exact.field-0.0))

pub loop-c-preserved : goal.loop-c-preserved
loop-c-preserved c =
    let a = c.args in
    let now = block_at _ _ c.requires c.loop-c.invariant.3.kept c.loop-c-test.true c.loop-c.invariant.1 in
    let full : width a.shape.order a.shape.block c.loop-c.c ≡ a.shape.block = width_full a.shape.order a.shape.block c.loop-c.c (omega arith) in
    let done = rw c.in_ok-exact.was at c.factor_step.ensures in (
      omega arith,
      block_of_next a.shape.block c.loop-c.c (omega (arith, now.block)) c.loop-c.invariant.1,
      c.factor_step.auto.work ∙ c.loop-c.invariant.2,
      rw full at (reached_next now c.loop-c.invariant.3 done refl),
    )

pub returns : goal.returns
returns c =
    let e : c.loop-c.c ≡ c.args.shape.order = omega arith in
    blocks_all (rw e at c.loop-c.invariant.3) refl

-- after the last block column
pub returns-in_ok-exact : goal.returns-in_ok-exact
returns-in_ok-exact c =
    let a = c.args in
    let now = block_at _ _ c.requires c.loop-c.invariant.3.kept c.loop-c-test.true c.loop-c.invariant.1 in
    let end : c.loop-c.c + width a.shape.order a.shape.block c.loop-c.c ≡ a.shape.order =
    omega (arith, inside_le now, width_last a.shape.order a.shape.block c.loop-c.c (omega arith))
    in
    let done = rw c.in_ok-exact.was at c.factor_step.ensures in
    blocks_all (rw end at (reached_next now c.loop-c.invariant.3 done refl)) refl
