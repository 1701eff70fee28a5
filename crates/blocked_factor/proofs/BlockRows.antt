-- The rows of a block column, by where they start: they lie end to end. They belong to crate shape. Assumes nothing.
use Prim.Native.Nat.{ℕ, zero, suc, ◌+◌, ◌≤◌, ◌<◌}
use native.Mathlib.Numerals.{add-one}
use native.Mathlib.Omega.{arith}
use mathlib.Core.Path.{◌≡◌}
use Rattle.shape.specs.Places.{triangle, place_in_block}
use Rattle.shape.proofs.Columns.{triangle_next}
use Rattle.shape.proofs.Parts.{starts, starts_zero, starts_mono, starts_lt, starts_apart}
use Rattle.shape.proofs.Rows.{row_length, place_in_block_row, place_in_block_next_row}
use Rattle.blocked_factor.specs.BlockColumns.{row_start}

module _ (w : ℕ) where
  row_starts : (r : ℕ) → row_start w r ≡ starts (row_length w) r
  row_starts r = omega (arith, place_in_block_row w r 0)

  pub place_row : (r s : ℕ) → place_in_block w r s ≡ row_start w r + s
  place_row r s = omega (arith, place_in_block_row w r s, place_in_block_row w r 0)

  pub row_next : (r : ℕ) → row_start w (r + 1) ≡ row_start w r + row_length w r
  row_next r = place_in_block_next_row w r 0

  pub row_mono : (r e : ℕ) → r ≤ e → row_start w r ≤ row_start w e
  row_mono r e h = omega (arith, row_starts r, row_starts e, starts_mono (row_length w) r e h)

  pub row_lt : (r e s : ℕ) → r < e → s < row_length w r → row_start w r + s < row_start w e
  row_lt r e s h inside = omega (arith, row_starts r, row_starts e, starts_lt (row_length w) r e s h inside)

  -- column s of row r lies in a memory that has room for the rows before e
  pub row_inside : (len r e s : ℕ) → row_start w e ≤ len → r < e → s ≤ r → s < w → row_start w r + s < len
  row_inside len r e s room h low wide = omega (arith, row_lt r e s h (omega arith))

  pub row_apart : (r r' s s' : ℕ) → s < row_length w r → s' < row_length w r' → row_start w r + s ≡ row_start w r' + s' → (r ≡ r') × (s ≡ s')
  row_apart r r' s s' h h' e = starts_apart (row_length w) r r' s s' h h' (omega (arith, row_starts r, row_starts r'))

  pub row_le_triangle : (r : ℕ) → row_start w r ≤ triangle r
  row_le_triangle zero = omega (arith, row_starts 0, starts_zero (row_length w))
  row_le_triangle (suc r) = rw (← add-one r) (omega (arith, row_next r, triangle_next r, row_le_triangle r))
