-- `variance::rules::check_blocks_from` meets its contract. The invariant of its loop: the rows before i pass, and row i has its entry in column k at `from`.
-- Assumes nothing.
use Prim.Native.Nat.{ℕ, ◌<◌, ◌+◌, ◌-◌, ◌≤◌, min}
use native.Mathlib.Omega.{arith}
use mathlib.Core.Path.{◌≡◌, sym, ap, ◌∙◌}
use mathlib.Core.List.{List}
use lib.Ieee.{Float}
use lib.ListN.{length}
use Rattle.shape.specs.Places.{triangle, block_of, block_start, width}
use Rattle.shape.proofs.Bounds.{block_start_le, triangle_le}
use Rattle.shape.proofs.Blocks.{block_of_le, width_le}
use Rattle.calls.specs.Refusals.{accepted}
use Rattle.calls.proofs.OutcomeLaws.{not_accepted, passed_on}
use Rattle.variance.specs.Parts.{finite_part}
use Rattle.variance.proofs.ColumnParts.{RowsPassed, rows_start, RowTurn, row_turn, rows_end}
use Rattle.variance.proofs.rules.check_blocks_from.Goals as goal

pub block_width-requires : goal.block_width-requires
block_width-requires c =
    omega (arith, c.block_of-c.ensures, block_of_le c.args.shape.block c.args.k)

pub overflow_add-end : goal.overflow_add-end
overflow_add-end c =
    let a = c.args in
    omega (
      arith,
      c.block_of-c.ensures,
      block_of_le a.shape.block a.k,
      c.block_width.ensures,
      width_le a.shape.order a.shape.block c.block_of-c.result,
    )

pub blocked_place-from-requires : goal.blocked_place-from-requires
blocked_place-from-requires c =
    record { order_le_max_order = omega arith; block_nonzero = omega arith; entry = record { lower = omega arith; inside = omega arith } }

pub loop-i-init : goal.loop-i-init
loop-i-init c =
    let a = c.args in
    rw c.blocked_place-from.ensures (rows_start a.shape.order a.shape.block a.k c.requires.order_le_max_order.1 c.requires.order_le_max_order.2
    a.matrix.now c.requires.matrix_len)

-- the block column of k ends where the definition says
ends : (n b k c w : ℕ) → c ≡ block_of b k → w ≡ width n b c → c + w ≡ block_of b k + width n b (block_of b k)
ends n b k c w first wide = ap (λ q. c + q) wide ∙ ap (λ q. q + width n b q) first

-- and so does row i
turn :
    (n b k : ℕ) (matrix : List Float) (i from c w row : ℕ) → 0 < b → k < n → length matrix ≡ triangle n → RowsPassed n b k matrix i from → i < n →
    c ≡ block_of b k → w ≡ width n b c → row ≡ min (i + 1) (c + w) → RowTurn n b k matrix i from (from + (row - k))
turn n b k matrix i from c w row pos inside size passed less first wide end =
    row_turn n b k pos inside matrix size i from _ passed less
    (ap (λ q. from + (q - k)) (end ∙ ap (min (i + 1)) (ends n b k c w first wide)))

pub overflow_sub-to : goal.overflow_sub-to
overflow_sub-to c =
    let s = c.args.shape in
    let pre = c.requires in
    let t =
    turn s.order s.block c.args.k c.args.matrix.now c.loop-i.i c.loop-i.from c.block_of-c.result c.block_width.result c.min.result
    pre.order_le_max_order.1 pre.order_le_max_order.2 pre.matrix_len c.loop-i.invariant c.loop-i-test.true c.block_of-c.ensures
    c.block_width.ensures c.min.ensures in
    omega (
      arith,
      c.min.ensures,
      ends s.order s.block c.args.k c.block_of-c.result c.block_width.result c.block_of-c.ensures c.block_width.ensures,
      t.columns,
    )

pub overflow_add-to : goal.overflow_add-to
overflow_add-to c =
    let s = c.args.shape in
    let pre = c.requires in
    let t =
    turn s.order s.block c.args.k c.args.matrix.now c.loop-i.i c.loop-i.from c.block_of-c.result c.block_width.result c.min.result
    pre.order_le_max_order.1 pre.order_le_max_order.2 pre.matrix_len c.loop-i.invariant c.loop-i-test.true c.block_of-c.ensures
    c.block_width.ensures c.min.ensures in
    omega (arith, t.fits, triangle_le s.order pre.order_le_max_order.0, pre.matrix_len)

pub check_part-requires : goal.check_part-requires
check_part-requires c =
    let s = c.args.shape in
    let pre = c.requires in
    let t =
    turn s.order s.block c.args.k c.args.matrix.now c.loop-i.i c.loop-i.from c.block_of-c.result c.block_width.result c.min.result
    pre.order_le_max_order.1 pre.order_le_max_order.2 pre.matrix_len c.loop-i.invariant c.loop-i-test.true c.block_of-c.ensures
    c.block_width.ensures c.min.ensures in
    (t.rising, t.fits)

pub returns-in_err-check_part : goal.returns-in_err-check_part
returns-in_err-check_part c =
    let s = c.args.shape in
    let pre = c.requires in
    let t =
    turn s.order s.block c.args.k c.args.matrix.now c.loop-i.i c.loop-i.from c.block_of-c.result c.block_width.result c.min.result
    pre.order_le_max_order.1 pre.order_le_max_order.2 pre.matrix_len c.loop-i.invariant c.loop-i-test.true c.block_of-c.ensures
    c.block_width.ensures c.min.ensures in
    rw (passed_on c.from_residual.result _ c.from_residual.ensures.1)
    (c.in_err-check_part.ensures ∙ t.refused (sym (ap accepted c.in_err-check_part.ensures) ∙ not_accepted c.in_err-check_part.field-0.0))

pub overflow_sub-from : goal.overflow_sub-from
overflow_sub-from c = omega (arith, c.block_of-c.ensures, block_of_le c.args.shape.block c.args.k)

pub overflow_add-from : goal.overflow_add-from
overflow_add-from c =
    let s = c.args.shape in
    let pre = c.requires in
    let t =
    turn s.order s.block c.args.k c.args.matrix.now c.loop-i.i c.loop-i.from c.block_of-c.result c.block_width.result c.min.result
    pre.order_le_max_order.1 pre.order_le_max_order.2 pre.matrix_len c.loop-i.invariant c.loop-i-test.true c.block_of-c.ensures
    c.block_width.ensures c.min.ensures in
    omega (arith, t.fits, triangle_le s.order pre.order_le_max_order.0, pre.matrix_len)

pub loop-i-preserved : goal.loop-i-preserved
loop-i-preserved c =
    let s = c.args.shape in
    let pre = c.requires in
    let t =
    turn s.order s.block c.args.k c.args.matrix.now c.loop-i.i c.loop-i.from c.block_of-c.result c.block_width.result c.min.result
    pre.order_le_max_order.1 pre.order_le_max_order.2 pre.matrix_len c.loop-i.invariant c.loop-i-test.true c.block_of-c.ensures
    c.block_width.ensures c.min.ensures in
    rw c.block_of-c.ensures (t.passed (sym (ap accepted c.in_ok-check_part.ensures)))

pub block_start-requires : goal.block_start-requires
block_start-requires c =
    let s = c.args.shape in
    let f = block_of s.block c.args.k in
    record {
      order_le_max_order = omega arith;
      c_le_order = omega (
        arith,
        ends s.order s.block c.args.k c.block_of-c.result c.block_width.result c.block_of-c.ensures c.block_width.ensures,
        block_of_le s.block c.args.k,
        width_le s.order s.block f,
      );
    }

pub check_part-requires-2 : goal.check_part-requires-2
check_part-requires-2 c =
    let s = c.args.shape in
    let n = s.order in
    let f = block_of s.block c.args.k in
    let inside : c.block_of-c.result + c.block_width.result ≤ n =
    omega (
      arith,
      ends s.order s.block c.args.k c.block_of-c.result c.block_width.result c.block_of-c.ensures c.block_width.ensures,
      block_of_le s.block c.args.k,
      width_le n s.block f,
    ) in
    (omega (arith, c.block_start.ensures, block_start_le n (c.block_of-c.result + c.block_width.result) inside), omega arith)

pub returns : goal.returns
returns c =
    let s = c.args.shape in
    let matrix = c.args.matrix.now in
    let pre = c.requires in
    let all : c.loop-i.i ≡ s.order = omega (arith, c.loop-i.invariant.high) in
    let end = ends s.order s.block c.args.k c.block_of-c.result c.block_width.result c.block_of-c.ensures c.block_width.ensures in
    c.check_part-2.ensures ∙ ap (λ q. finite_part q (length matrix) matrix) (c.block_start.ensures ∙ ap (block_start s.order) end)
    ∙ rows_end s.order s.block c.args.k pre.order_le_max_order.1 pre.order_le_max_order.2 matrix pre.matrix_len c.loop-i.from
    (rw all at c.loop-i.invariant)
