-- `blocked_factor::factor_cleared` meets its contract: by the plain factor with block length 1, else by block columns. Assumes nothing.
use Prim.Native.Nat.{ℕ, ◌<◌}
use native.Mathlib.Omega.{arith}
use mathlib.Core.Path.{◌≡◌, sym, ap, ◌∙◌}
use lib.ListN.{replicate}
use Rattle.binary64.specs.Kinds.{zero64}
use Rattle.shape.specs.Places.{block_work}
use Rattle.calls.specs.Outcomes.{judgement_of}
use Rattle.blocked_factor.proofs.BlockLoop.{blocks_factored}
use Rattle.blocked_factor.proofs.SingleColumns.{work_one, factored_one}
use Rattle.blocked_factor.proofs.factor_cleared.Goals as goal

-- the needed work where the block length is 1
work_single : (n b : ℕ) → b ≡ 1 → block_work n b ≡ n
work_single n b e = rw e (work_one n)

pub factor_cleared-requires : goal.factor_cleared-requires
factor_cleared-requires c =
    let pre = c.requires in
    (pre.order, pre.matrix, pre.work ∙ work_single c.args.shape.order c.args.shape.block c.if-shape-eq1.true)

pub returns-then-shape-eq1 : goal.returns-then-shape-eq1
returns-then-shape-eq1 c =
    let shape = c.args.shape in
    record {
      factored = rw c.if-shape-eq1.true (factored_one shape.order c.args.m.now c.requires.matrix (judgement_of c.factor_cleared.result) _ c.factor_cleared.ensures.factored);
      work_after = c.factor_cleared.ensures.work_after ∙ ap (λ k. replicate k zero64) (sym (work_single shape.order shape.block c.if-shape-eq1.true));
    }

pub returns : goal.returns
returns c =
    let shape = c.args.shape in
    let several : 0 < shape.block = omega (arith, c.requires.block) in
    record {
      factored = blocks_factored shape.order shape.block c.args.m.now _ (judgement_of c.factor_blocks_cleared.result) several c.requires.matrix
          c.factor_blocks_cleared.ensures.blocks_done;
      work_after = c.factor_blocks_cleared.ensures.work_after;
    }
