-- `kernels::tiles::reduce_run` meets its contract. The invariant of its loop: every value is less the products of the first k columns, whole block
-- columns, and x is the place of row i in the next one. Assumes nothing.
use Prim.Native.Nat.{◌+◌, ◌-◌, ◌*◌, ◌≤◌, ◌<◌}
use native.Mathlib.Nat.{mul-le-mul, mul-le-mul_left}
use native.Mathlib.Omega.{arith}
use mathlib.Core.Path.{◌≡◌, refl, sym}
use borrow.Author.Rules.{rules}
use lib.ListN.{length}
use Rattle.shape.proofs.Columns.{triangle_exact}
use Rattle.shape.proofs.Blocks.{block_of_le, block_of_next, block_before}
use Rattle.kernels.proofs.Products.{minus_none}
use Rattle.kernels.proofs.Runs.{square_ge, row_inside, next_place, row_begins, row_turn, run_next}
use Rattle.kernels.proofs.tiles.reduce_run.Goals as goal

pub overflow_sub-step : goal.overflow_sub-step
overflow_sub-step g c = omega (arith, c.requires.rows_below.diagonal, triangle_exact c.args.run.block, square_ge c.args.run.block)

pub overflow_add-x : goal.overflow_add-x
overflow_add-x g c = omega (arith, c.requires.rows_below.size, row_begins c.requires.rows_below c.requires.rows_nonzero.0)

pub overflow_sub-x : goal.overflow_sub-x
overflow_sub-x g c = omega (arith, (row_begins c.requires.rows_below c.requires.rows_nonzero.0).0)

pub overflow_add-x-2 : goal.overflow_add-x-2
overflow_add-x-2 g c = omega (arith, c.requires.rows_below.size, row_begins c.requires.rows_below c.requires.rows_nonzero.0)

pub loop-k-init : goal.loop-k-init
loop-k-init g c =
    let a = c.args in
    let first = row_begins c.requires.rows_below c.requires.rows_nonzero.0 in (
      omega arith,
      omega (arith, block_of_le a.run.block 0),
      λ some. omega (arith, first.1),
      refl,
      refl,
      λ r s h p. sym (minus_none _ _ _),
    )

pub reduce_block-block-requires : goal.reduce_block-block-requires
reduce_block-block-requires g c =
    let a = c.args in
    let t = row_turn c.requires.rows_below c.requires.rows_nonzero.0 c.loop-k.invariant.1 c.loop-k-test.true in
    let first : (0 < g.row.ROWS) × (g.row.LANES * c.loop-k.k + g.row.LANES * a.run.block ≤ length a.panel.now) =
    omega (arith, c.requires.rows_nonzero, mul-le-mul_left g.row.LANES t.0) in (
      search rules,
      (
        search rules,
        (
          first,
          λ r h.
              omega (
                arith,
                c.loop-k.invariant.2 c.loop-k-test.true,
                c.requires.rows_below.size,
                row_inside a.run.order a.run.block c.loop-k.k c.loop-k.invariant.1 a.i r c.requires.rows_below.block t.1 (omega (arith, c.requires.rows_below.inside)),
              ),
        ),
      ),
    )

pub overflow_add-x-in-loop-k : goal.overflow_add-x-in-loop-k
overflow_add-x-in-loop-k g c =
    let rest : c.args.run.order - c.loop-k.k ≤ 4000 = omega (arith, c.requires.rows_below.order) in
    omega (arith, row_turn c.requires.rows_below c.requires.rows_nonzero.0 c.loop-k.invariant.1 c.loop-k-test.true, c.loop-k.invariant.2 c.loop-k-test.true, row_begins c.requires.rows_below c.requires.rows_nonzero.0, c.well_formed, mul-le-mul rest c.requires.rows_below.block_high)

pub overflow_sub-x-in-loop-k-2 : goal.overflow_sub-x-in-loop-k-2
overflow_sub-x-in-loop-k-2 g c = omega (arith, row_turn c.requires.rows_below c.requires.rows_nonzero.0 c.loop-k.invariant.1 c.loop-k-test.true, c.loop-k.invariant.2 c.loop-k-test.true, c.loop-k.invariant.3)

pub loop-k-preserved : goal.loop-k-preserved
loop-k-preserved g c =
    let a = c.args in
    let t = row_turn c.requires.rows_below c.requires.rows_nonzero.0 c.loop-k.invariant.1 c.loop-k-test.true in
    let n = a.run.order in
    let b = a.run.block in
    let next = block_of_next b c.loop-k.k c.requires.rows_below.block c.loop-k.invariant.1 in (
      t.0,
      next,
      λ more.
          let after = block_before b (c.loop-k.k + b) a.run.columns next c.requires.rows_below.whole more in
          omega (
            arith,
            c.loop-k.invariant.2 c.loop-k-test.true,
            c.loop-k.invariant.3,
            c.requires.rows_below.diagonal,
            t.4,
            next_place n b c.loop-k.k c.loop-k.invariant.1 a.i (omega (arith, after, c.requires.rows_below.above)) t.2,
          ),
      c.loop-k.invariant.3,
      c.loop-k.invariant.4,
      run_next g.row.ROWS g.row.LANES a.run.start n b a.i c.loop-k.k a.m.now a.panel.now a.tile c.loop-k.next c.reduce_block-block.result c.loop-k.invariant.1
          t.1 c.requires.rows_below.inside c.loop-k.invariant.5 (rw (c.loop-k.invariant.2 c.loop-k-test.true) at c.reduce_block-block.ensures),
    )

pub returns-2 : goal.returns-2
returns-2 g c =
    let a = c.args in
    let t = row_turn c.requires.rows_below c.requires.rows_nonzero.0 c.loop-k.invariant.1 c.loop-k-test.true in
    let all : c.loop-k.k + a.run.block ≡ a.run.columns = omega (arith, t.0) in
    rw all at
    (run_next g.row.ROWS g.row.LANES a.run.start a.run.order a.run.block a.i c.loop-k.k a.m.now a.panel.now a.tile c.loop-k.next c.reduce_block-block.result
    c.loop-k.invariant.1 t.1 c.requires.rows_below.inside c.loop-k.invariant.5 (rw (c.loop-k.invariant.2 c.loop-k-test.true) at c.reduce_block-block.ensures))
