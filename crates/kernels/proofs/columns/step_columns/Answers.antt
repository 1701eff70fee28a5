-- `kernels::columns::step_columns` meets its contract. The invariant of its loop: the first k columns, whole block columns, are done, and x is the
-- place of row i in the next one. Assumes nothing.
use Prim.Native.Nat.{ℕ, ◌<◌, ◌+◌, ◌-◌, ◌≤◌}
use native.Mathlib.Nat.{mul-le-mul}
use native.Mathlib.Omega.{arith}
use mathlib.Core.Path.{◌≡◌, ap, ◌∙◌}
use mathlib.Core.List.{List}
use lib.ListN.{get_or}
use lib.Ieee.{Float, nan}
use Rattle.shape.specs.Places.{triangle}
use Rattle.shape.proofs.Columns.{triangle_exact, block_start_zero}
use Rattle.shape.proofs.Blocks.{block_of_le, block_of_next, block_before}
use Rattle.kernels.specs.Kernels.{Filled}
use Rattle.kernels.proofs.Parts.{filled_none}
use Rattle.kernels.proofs.Runs.{square_ge, next_place, less_row, row_turn, columns_room, columns_turn}
use Rattle.kernels.proofs.columns.step_columns.Goals as goal

pub overflow_sub-step : goal.overflow_sub-step
overflow_sub-step g c = omega (arith, c.triangle.ensures ∙ ap triangle c.new.ensures.0, triangle_exact g.row.B, square_ge g.row.B)

pub loop-k-init : goal.loop-k-init
loop-k-init g c =
    let a = c.args in
    let none : a.i - 0 ≡ a.i = omega arith in (
      omega arith,
      omega (arith, block_of_le g.row.B 0),
      λ some. rw none (omega (arith, c.place_in_block-x.ensures, block_start_zero a.h)),
      omega (arith, c.triangle.ensures ∙ ap triangle c.new.ensures.0),
      filled_none nan 0 _ _,
    )

pub slice_bounds-next-end : goal.slice_bounds-next-end
slice_bounds-next-end g c =
    omega (arith, (row_turn c.requires.rows_below (omega arith) c.loop-k.invariant.1 c.loop-k-test.true).0, c.requires.w_bound, c.loop-k-test.array_long)

pub offset_bounds-part-x : goal.offset_bounds-part-x
offset_bounds-part-x g c =
    omega (arith, columns_room c.args.part.now c.requires.rows_below c.loop-k.invariant.1 c.loop-k-test.true (c.loop-k.invariant.2 c.loop-k-test.true))

pub slice_bounds-subtract_multiple-end : goal.slice_bounds-subtract_multiple-end
slice_bounds-subtract_multiple-end g c =
    omega (arith, columns_room c.args.part.now c.requires.rows_below c.loop-k.invariant.1 c.loop-k-test.true (c.loop-k.invariant.2 c.loop-k-test.true))

pub overflow_add-x : goal.overflow_add-x
overflow_add-x g c =
    let a = c.args in
    let rest : a.h - c.loop-k.k ≤ 4000 = omega (arith, c.requires.rows_below.order) in
    omega (
      arith,
      (row_turn c.requires.rows_below (omega arith) c.loop-k.invariant.1 c.loop-k-test.true).3,
      c.loop-k.invariant.2 c.loop-k-test.true,
      mul-le-mul rest c.requires.rows_below.block_high,
    )

pub overflow_sub-x-in-loop-k : goal.overflow_sub-x-in-loop-k
overflow_sub-x-in-loop-k g c =
    omega (
      arith,
      (row_turn c.requires.rows_below (omega arith) c.loop-k.invariant.1 c.loop-k-test.true).4,
      c.loop-k.invariant.2 c.loop-k-test.true,
      c.loop-k.invariant.3,
    )

pub loop-k-preserved : goal.loop-k-preserved
loop-k-preserved g c =
    let a = c.args in
    let t = row_turn c.requires.rows_below (omega arith) c.loop-k.invariant.1 c.loop-k-test.true in
    let place = c.loop-k.invariant.2 c.loop-k-test.true in
    let first = block_of_next g.row.B c.loop-k.k c.requires.rows_below.block c.loop-k.invariant.1 in (
      t.0,
      first,
      λ more.
          let next = block_before g.row.B (c.loop-k.k + g.row.B) g.row.W first c.requires.rows_below.whole more in
          omega (arith, place, c.loop-k.invariant.3, next_place a.h g.row.B c.loop-k.k c.loop-k.invariant.1 a.i (omega (arith, next, c.requires.rows_below.above)) t.2),
      c.loop-k.invariant.3,
      columns_turn c.args.part.now c.requires.rows_below c.loop-k.invariant.1 c.loop-k-test.true place c.loop-k-test.array_long c.requires.w_bound c.loop-k.invariant.4
          c.subtract_multiple.ensures,
    )

-- all columns are done
done : (k w : ℕ) (f : ℕ → Float) (t₀ t : List Float) → k ≡ w → Filled nan 0 k f t₀ t → (j : ℕ) → j < w → get_or t j nan ≡ f j
done k w f t₀ t all so j h =
    let none : 0 + j ≡ j = omega arith in
    rw none at (so.inside j (omega arith))

pub returns-2 : goal.returns-2
returns-2 g c =
    let a = c.args in
    let t = row_turn c.requires.rows_below (omega arith) c.loop-k.invariant.1 c.loop-k-test.true in
    done (c.loop-k.k + g.row.B) g.row.W (less_row a.h g.row.B a.i a.part.now a.y a.tile) a.tile _ (omega (arith, t.0))
    (columns_turn a.part.now c.requires.rows_below c.loop-k.invariant.1 c.loop-k-test.true (c.loop-k.invariant.2 c.loop-k-test.true)
    c.loop-k-test.array_long c.requires.w_bound c.loop-k.invariant.4 c.subtract_multiple.ensures)
