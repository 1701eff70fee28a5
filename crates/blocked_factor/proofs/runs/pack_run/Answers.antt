-- `blocked_factor::runs::pack_run` meets its contract. Assumes nothing.
use native.Mathlib.Omega.{arith}
use mathlib.Core.Path.{◌≡◌, ◌∙◌, refl}
use Prim.Native.Nat.{ℕ, ◌+◌, ◌-◌, ◌≤◌, ◌<◌}
use native.Mathlib.Nat.{mul-le-mul_left}
use lib.ListN.{length}
use lib.Ieee.{nan}
use Rattle.shape.specs.Places.{block_start}
use Rattle.shape.proofs.Bounds.{block_start_le}
use Rattle.shape.proofs.Blocks.{block_of_le, block_of_next, width_full}
use Rattle.kernels.specs.Kernels.{RowsBelow}
use Rattle.kernels.proofs.Parts.{get_d_part, length_part}
use Rattle.blocked_factor.proofs.RunPanels.{block_le, pack_room, pack_next}
use Rattle.blocked_factor.proofs.runs.pack_run.Goals as goal

-- the source of a turn begins inside the memory, and has full width
starts : {start h b corner count i g len k : ℕ} → RowsBelow start h b corner count i g len → k < count → start + block_start h k ≤ len
starts {start} {h} {k = k} so more = omega (arith, so.size, block_start_le h k (omega (arith, so.above, so.inside)))

pub loop-k-init : goal.loop-k-init
loop-k-init c = (omega arith, omega (arith, block_of_le c.args.run.block 0), refl, λ t k few none. absurd (omega arith))

pub overflow_add-run : goal.overflow_add-run
overflow_add-run c =
    let start : c.new-source.result.start ≡ block_start c.args.run.order c.loop-k.k = rw c.new-shape.ensures.0 at c.new-source.ensures.1 in
    omega (arith, start, starts c.requires.rows_below c.loop-k-test.true, c.well_formed)

pub offset_bounds-m-run : goal.offset_bounds-m-run
offset_bounds-m-run c =
    let start : c.new-source.result.start ≡ block_start c.args.run.order c.loop-k.k = rw c.new-shape.ensures.0 at c.new-source.ensures.1 in
    omega (arith, start, starts c.requires.rows_below c.loop-k-test.true, c.well_formed)

pub slice_bounds-pack-count : goal.slice_bounds-pack-count
slice_bounds-pack-count c =
    let start : c.new-source.result.start ≡ block_start c.args.run.order c.loop-k.k = rw c.new-shape.ensures.0 at c.new-source.ensures.1 in
    omega (arith, start, starts c.requires.rows_below c.loop-k-test.true)

pub slice_bounds-pack-start : goal.slice_bounds-pack-start
slice_bounds-pack-start c =
    let start : c.new-source.result.start ≡ block_start c.args.run.order c.loop-k.k = rw c.new-shape.ensures.0 at c.new-source.ensures.1 in
    omega (arith, start, starts c.requires.rows_below c.loop-k-test.true)

pub pack-requires : goal.pack-requires
pack-requires c =
    let a = c.args in
    let source = rw (c.new-shape.ensures.0, c.new-shape.ensures.1) at c.new-source.ensures in
    let end = block_le c.requires.rows_below c.loop-k.invariant.1 c.loop-k-test.true in
    let wide : c.new-source.result.width ≡ a.run.block = source.2 ∙ width_full a.run.order a.run.block c.loop-k.k (omega (arith, end)) in
    let start = a.run.start + block_start a.run.order c.loop-k.k in
    let inside : start ≤ length a.m.now = starts c.requires.rows_below c.loop-k-test.true in record {
      count_in_bounds = omega (arith, source.3, c.requires.g_le_lanes, c.loop-k.invariant.2, mul-le-mul_left a.lanes end, c.requires.rows_below.inside);
      by_index = λ t few.
          rw (source.1, wide)
          (omega (
            arith,
            inside,
            length_part nan start (length a.m.now - start) a.m.now (omega arith),
            pack_room c.requires.rows_below c.loop-k.invariant.1 c.loop-k-test.true t few,
          ));
    }

pub loop-k-preserved : goal.loop-k-preserved
loop-k-preserved c =
    let a = c.args in
    let source = rw (c.new-shape.ensures.0, c.new-shape.ensures.1) at c.new-source.ensures in
    let end = block_le c.requires.rows_below c.loop-k.invariant.1 c.loop-k-test.true in
    let wide : c.new-source.result.width ≡ a.run.block = source.2 ∙ width_full a.run.order a.run.block c.loop-k.k (omega (arith, end)) in (
      end,
      block_of_next a.run.block c.loop-k.k c.requires.rows_below.block c.loop-k.invariant.1,
      c.pack.ensures.size ∙ c.loop-k.invariant.2,
      pack_next c.requires.rows_below c.loop-k.invariant.1 c.loop-k-test.true a.lanes a.m.now _ c.loop-k.panel _ c.requires.g_le_lanes.0 refl
          (λ p low. get_d_part nan (a.run.start + block_start a.run.order c.loop-k.k) (length a.m.now - (a.run.start + block_start a.run.order c.loop-k.k)) a.m.now p (omega arith))
          c.loop-k.invariant.3 (rw (source.1, wide) at c.pack.ensures),
    )

-- after the last block column
pub returns-2 : goal.returns-2
returns-2 c =
    let a = c.args in
    let source = rw (c.new-shape.ensures.0, c.new-shape.ensures.1) at c.new-source.ensures in
    let end = block_le c.requires.rows_below c.loop-k.invariant.1 c.loop-k-test.true in
    let wide : c.new-source.result.width ≡ a.run.block = source.2 ∙ width_full a.run.order a.run.block c.loop-k.k (omega (arith, end)) in
    let all : c.loop-k.k + a.run.block ≡ a.run.columns = omega (arith, end) in
    rw (← all)
    (pack_next c.requires.rows_below c.loop-k.invariant.1 c.loop-k-test.true a.lanes a.m.now _ c.loop-k.panel _ c.requires.g_le_lanes.0 refl
    (λ p low. get_d_part nan (a.run.start + block_start a.run.order c.loop-k.k) (length a.m.now - (a.run.start + block_start a.run.order c.loop-k.k)) a.m.now p (omega arith))
    c.loop-k.invariant.3 (rw (source.1, wide) at c.pack.ensures))
