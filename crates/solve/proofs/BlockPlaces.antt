-- Places of a block column's entries, and the room that its values take. Rows below its triangle are counted from the last up. Assumes nothing.
use Prim.Native.Nat.{ℕ, ◌+◌, ◌-◌, ◌≤◌, ◌<◌}
use native.Mathlib.Nat.{add_assoc}
use native.Mathlib.Omega.{arith}
use mathlib.Core.Path.{◌≡◌, ap, ◌∙◌}
use lib.ListN.{get_or}
use lib.Ieee.{nan}
use Rattle.shape.specs.Bounds.{max_order}
use Rattle.shape.specs.Places.{triangle, block_start, place_in_block}
use Rattle.shape.proofs.Bounds.{block_start_le, triangle_le}
use Rattle.shape.proofs.Rows.{place_in_block_row, place_in_block_lt, place_in_block_next_row_inside, place_in_block_next_row_under}
use Rattle.solve.specs.declared.block_column.BlockColumn.{BlockColumn}
use Rattle.solve.specs.Parts.{block_entries}

-- a block column begins in the matrix
pub start_room : (n c at : ℕ) → n ≤ max_order → c ≤ n → at ≡ block_start n c → (at ≤ triangle n) × (triangle n ≤ 8002000)
start_room n c at order le place = (omega (arith, block_start_le n c le), triangle_le n order)

column_place : (w r s i : ℕ) → place_in_block w r s + i ≡ place_in_block w r (s + i)
column_place w r s i = omega (arith, place_in_block_row w r s, place_in_block_row w r (s + i))

module _ (block : BlockColumn) where
  -- column s of row r, in the whole block column's numbers
  abbrev pub place : ℕ → ℕ → ℕ
  place r s = place_in_block (block.skip + block.w) (block.skip + r) s

  -- where row r begins
  abbrev pub row_place : ℕ → ℕ
  row_place r = place r block.skip

  -- the values of the whole block column
  abbrev pub room : ℕ
  room = block_start (block.skip + block.h) (block.skip + block.w)

  -- ---- the entries of a row

  pub row_entries : (r at i : ℕ) → at ≡ row_place r → get_or block.part.now (at + i) nan ≡ block_entries block r i
  row_entries r at i e =
      ap (λ p. get_or block.part.now p nan) (ap (λ a. a + i) e ∙ column_place (block.skip + block.w) (block.skip + r) block.skip i)

  pub row_entries_from :
      (r s at i : ℕ) → at ≡ place r (block.skip + s) → get_or block.part.now (at + i) nan ≡ block_entries block r (s + i)
  row_entries_from r s at i e =
      ap (λ p. get_or block.part.now p nan)
      (ap (λ a. a + i) e ∙ column_place (block.skip + block.w) (block.skip + r) (block.skip + s) i ∙ ap (place r) (add_assoc block.skip s i))

  -- ---- room

  pub room_inside : (r : ℕ) → r < block.w → row_place r + r < room
  room_inside r less =
      let row : ℕ = block.skip + r in
      omega (
        arith,
        column_place (block.skip + block.w) row block.skip r,
        place_in_block_lt (block.skip + block.h) (block.skip + block.w) row row (omega arith) (omega arith) (omega arith),
      )

  pub room_under : (r : ℕ) → block.w ≤ r → r < block.h → row_place r + block.w ≤ room
  room_under r low less =
      let last : ℕ = block.skip + (block.w - 1) in
      omega (
        arith,
        column_place (block.skip + block.w) (block.skip + r) block.skip (block.w - 1),
        place_in_block_lt (block.skip + block.h) (block.skip + block.w) (block.skip + r) last (omega arith) (omega arith) (omega arith),
      )

  -- the m entries from column s on
  pub room_part :
      (r s m : ℕ) → block.w ≤ r → r < block.h → s + m ≤ block.w → place r (block.skip + s) + m ≤ room
  room_part r s m low less wide =
      omega (arith, column_place (block.skip + block.w) (block.skip + r) block.skip s, room_under r low less)

  pub values_le : room ≤ 8002000
  values_le =
      omega (
        arith,
        block_start_le (block.skip + block.h) (block.skip + block.w) (omega arith),
        triangle_le (block.skip + block.h) block.order,
      )

  -- ---- the next row, and the row before

  pub next_inside : (r : ℕ) → r < block.w → row_place (r + 1) ≡ row_place r + (block.skip + (r + 1))
  next_inside r h =
      let next : block.skip + r + 1 ≡ block.skip + (r + 1) = omega arith in
      rw next at (place_in_block_next_row_inside (block.skip + block.w) (block.skip + r) block.skip (omega arith))

  pub next_under : (r s : ℕ) → block.w ≤ r → place (r + 1) s ≡ place r s + (block.skip + block.w)
  next_under r s h =
      let next : block.skip + r + 1 ≡ block.skip + (r + 1) = omega arith in
      rw next at (place_in_block_next_row_under (block.skip + block.w) (block.skip + r) s (omega arith))

  -- of the triangle
  pub before_inside :
      (r at : ℕ) → 0 < r → r ≤ block.w → at ≡ row_place r →
      (block.skip + r ≤ at) × (at - (block.skip + r) ≡ row_place (r - 1)) × (at - (block.skip + r) + (r - 1) < room)
  before_inside r at pos le here =
      let back : r - 1 + 1 ≡ r = omega arith in
      let next : row_place r ≡ row_place (r - 1) + (block.skip + r) = rw back at (next_inside (r - 1) (omega arith)) in
      (omega arith, omega arith, omega (arith, room_inside (r - 1) (omega arith)))

  -- below it
  pub next_up :
      (r s at : ℕ) → block.w < r → at ≡ place r s → (block.skip + block.w ≤ at) × (at - (block.skip + block.w) ≡ place (r - 1) s)
  next_up r s at under here =
      let back : r - 1 + 1 ≡ r = omega arith in
      let next : place r s ≡ place (r - 1) s + (block.skip + block.w) = rw back at (next_under (r - 1) s (omega arith)) in
      (omega arith, omega arith)
