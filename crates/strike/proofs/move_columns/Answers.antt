-- `strike::move_columns` meets its contract. Assumes nothing.
use Prim.Native.Nat.{ℕ, ◌+◌, ◌-◌, ◌≤◌, ◌<◌}
use native.Mathlib.Omega.{arith}
use mathlib.Core.Path.{◌≡◌, refl, sym, ap, ◌∙◌}
use mathlib.Core.List.{List}
use lib.ListN.{length, get_or, take, drop}
use Rattle.strike.proofs.Rows.{part_slice, rising_part}
use Rattle.shape.specs.Places.{triangle, packed_place, block_start}
use Rattle.shape.proofs.Columns.{block_start_zero, triangle_columns}
use Rattle.shape.proofs.Bounds.{triangle_le, block_start_le}
use Rattle.strike.specs.Rows.{Unknowns}
use Rattle.strike.proofs.Columns.{row_le_place, order_le, none_moved, all_moved, next_start, column_ahead, column_moved}
use Rattle.strike.proofs.move_columns.Goals as goal

pub loop-c-init : goal.loop-c-init
loop-c-init c = (omega arith, sym (block_start_zero _), refl, none_moved _ _ _)

-- row 0 of the column would be at `base`
base_le : (n j at : ℕ) → at ≡ packed_place n j j → j ≤ at
base_le n j at e = omega (arith, e, row_le_place n j j)

pub overflow_sub-base : goal.overflow_sub-base
overflow_sub-base c = base_le c.args.shape.order (get_or c.args.unknowns.now c.loop-c.c 0) c.packed_place.result c.packed_place.ensures

first : (n j at : ℕ) → at ≡ packed_place n j j → at - j + j ≡ packed_place n j j
first n j at e = omega (arith, base_le n j at e, e)

pub move_column-requires : goal.move_column-requires
move_column-requires c =
    let a = c.args in
    let n = a.shape.order in
    let size : length c.loop-c.matrix ≡ triangle n = c.loop-c.invariant.2 ∙ c.requires.order_le_max_order.1 in
    let at = first n (get_or a.unknowns.now c.loop-c.c 0) c.packed_place.result c.packed_place.ensures in record {
      ahead = rw size (column_ahead n a.unknowns.now c.requires.unknowns c.loop-c.c _ c.loop-c.to c.loop-c-test.true at c.loop-c.invariant.1);
      rising = rising_part (part_slice a.unknowns.now c.loop-c.c (length a.unknowns.now - c.loop-c.c) (omega (arith, c.loop-c.invariant.0))) c.requires.unknowns.rising;
    }

-- where the next column goes
next : (n : ℕ) (unknowns : List ℕ) (c at to : ℕ)
    → Unknowns n unknowns
    → c < length unknowns
    → at ≡ packed_place n (get_or unknowns c 0) (get_or unknowns c 0)
    → to ≡ block_start (length unknowns) c
    → to + length (take (length unknowns - c) (drop c unknowns)) ≡ block_start (length unknowns) (c + 1)
next n unknowns c at to known taken e start = next_start n unknowns known c _ to taken (first n (get_or unknowns c 0) at e) start

pub overflow_add-to : goal.overflow_add-to
overflow_add-to c =
    let a = c.args in
    let n = a.shape.order in
    let p = length a.unknowns.now in
    omega (
      arith,
      next n a.unknowns.now c.loop-c.c c.packed_place.result c.loop-c.to c.requires.unknowns c.loop-c-test.true c.packed_place.ensures c.loop-c.invariant.1,
      block_start_le p (c.loop-c.c + 1) (omega arith),
      triangle_le p (omega (arith, order_le n a.unknowns.now c.requires.unknowns, c.requires.order_le_max_order.0)),
    )

pub loop-c-preserved : goal.loop-c-preserved
loop-c-preserved c =
    let a = c.args in
    let n = a.shape.order in
    let taken = c.loop-c-test.true in
    let at = first n (get_or a.unknowns.now c.loop-c.c 0) c.packed_place.result c.packed_place.ensures in (
      omega arith,
      next n a.unknowns.now c.loop-c.c c.packed_place.result c.loop-c.to c.requires.unknowns taken c.packed_place.ensures c.loop-c.invariant.1,
      c.move_column.ensures.size ∙ c.loop-c.invariant.2,
      column_moved n a.unknowns.now c.requires.unknowns c.loop-c.c _ c.loop-c.to taken at c.loop-c.invariant.1 a.matrix.now c.loop-c.matrix _
          c.loop-c.invariant.3 c.move_column.ensures,
    )

pub returns : goal.returns
returns c =
    let a = c.args in
    let p = length a.unknowns.now in
    let end : c.loop-c.c ≡ p = omega arith in record {
      value = c.loop-c.invariant.1 ∙ ap (block_start p) end ∙ sym (triangle_columns p);
      fresh = all_moved a.shape.order a.unknowns.now c.requires.unknowns a.matrix.now c.loop-c.matrix
          (c.loop-c.invariant.2 ∙ c.requires.order_le_max_order.1) (rw end at c.loop-c.invariant.3);
    }
