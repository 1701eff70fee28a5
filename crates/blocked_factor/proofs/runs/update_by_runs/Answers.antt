-- `blocked_factor::runs::update_by_runs` meets its contract. The invariant of its loop: the products of the columns before k are subtracted. Assumes
-- nothing.
use Prim.Native.Nat.{◌+◌, ◌≤◌}
use native.Mathlib.Omega.{arith}
use mathlib.Core.Path.{refl, ◌∙◌}
use Rattle.shape.proofs.Blocks.{block_of_le}
use Rattle.shape.proofs.Runs.{block_of_sum}
use Rattle.blocked_factor.proofs.EarlierBlocks.{run_before, earlier_next, earlier_none, rest_whole}
use Rattle.blocked_factor.proofs.runs.update_by_runs.Goals as goal

pub loop-k-init : goal.loop-k-init
loop-k-init c = (omega arith, omega (arith, block_of_le c.args.shape.block 0), refl, earlier_none _ _ _ _ _ _)

pub run_columns-columns-requires : goal.run_columns-columns-requires
run_columns-columns-requires c =
    let a = c.args in
    let pre = c.requires.block_at in (
      omega (arith, pre.block),
      pre.block_high,
      omega (arith, c.loop-k-test.true),
      rest_whole a.shape.block c.loop-k.k a.c (omega (arith, pre.block)) c.loop-k.invariant.1 pre.first c.loop-k.invariant.0,
      omega (arith, c.loop-k.invariant.2, c.requires.block_in_bounds (omega (arith, c.loop-k-test.true))),
    )

pub update_by_run-requires : goal.update_by_run-requires
update_by_run-requires c =
    let a = c.args in
    let columns = c.run_columns-columns.ensures in record {
      run_before = rw (c.new-target.ensures.1, c.new-target.ensures.2, c.new-target.ensures.3, c.block_start.ensures, c.loop-k.invariant.3.kept)
          (run_before c.requires.block_at c.loop-k.k c.loop-k.invariant.1 _ c.run_columns-columns.result c.place_in_block.ensures (omega (arith, columns, c.requires.block_at.block))
          (omega (arith, columns)) c.run_columns-columns.ensures.3);
      columns_in_bounds = omega (arith, columns);
    }

pub loop-k-preserved : goal.loop-k-preserved
loop-k-preserved c =
    let a = c.args in
    let columns = c.run_columns-columns.ensures in
    let high : c.loop-k.k + c.run_columns-columns.result ≤ a.c = omega (arith, columns, c.loop-k-test.true) in (
      high,
      block_of_sum a.shape.block c.loop-k.k c.run_columns-columns.result (omega (arith, c.requires.block_at.block)) c.loop-k.invariant.1 c.run_columns-columns.ensures.3,
      c.update_by_run.auto.spare ∙ c.loop-k.invariant.2,
      earlier_next c.requires.block_at c.loop-k.k c.loop-k.invariant.1 c.run_columns-columns.result high c.loop-k.invariant.3
          (rw (c.new-target.ensures.1, c.new-target.ensures.2, c.new-target.ensures.3, c.block_start.ensures) at c.update_by_run.ensures),
    )
