-- The rows of a block column of width w, as parts laid end to end: the rows of its diagonal block, then those under it, each of
-- w entries. Assumes nothing.
use mathlib.Core.Path.{◌≡◌, refl, ap}
use Prim.Native.Nat.{ℕ, zero, suc, ◌+◌, ◌-◌, ◌*◌, ◌≤◌, ◌<◌, min}
use native.Mathlib.Nat.{add-zero, add-suc}
use native.Mathlib.Decide.{dec_lt}
use native.Mathlib.Numerals.{add-one}
use native.Mathlib.Omega.{arith}
use borrow.Author.Tests.{lt-ltb, le-ltb}
use Rattle.shape.specs.Places.{triangle, block_start, place_in_block}
use Rattle.shape.proofs.Parts.{starts, starts_next, starts_lt}
use Rattle.shape.proofs.Columns.{triangle_exact, triangle_next, block_start_double}

-- the entries of row r
abbrev pub row_length : ℕ → ℕ → ℕ
row_length w r = min (r + 1) w

-- ---- where a row starts

row_start_inside : (w r : ℕ) → r ≤ w → starts (row_length w) r ≡ triangle r
unfolding starts
row_start_inside w zero h = omega (arith, triangle_exact 0)
row_start_inside w (suc r) h =
    omega (arith, row_start_inside w r (omega arith), ap triangle (add-one r), triangle_next r)

rows_under : (w m : ℕ) → starts (row_length w) (w + m) ≡ triangle w + m * w
unfolding starts
rows_under w zero = rw add-zero (omega (arith, row_start_inside w w (omega arith)))
rows_under w (suc m) = rw add-suc (omega (arith, rows_under w m))

pub row_start_under : (w r : ℕ) → w ≤ r → starts (row_length w) r ≡ triangle w + (r - w) * w
row_start_under w r h =
    let row : w + (r - w) ≡ r = omega arith in
    rw row at (rows_under w (r - w))

row_start_le : (w r : ℕ) → starts (row_length w) r ≤ triangle r
unfolding starts
row_start_le w zero = omega arith
row_start_le w (suc r) = omega (arith, row_start_le w r, ap triangle (add-one r), triangle_next r)

row_start_one : (r : ℕ) → starts (row_length 1) r ≡ r
unfolding starts
row_start_one zero = refl
row_start_one (suc r) = omega (arith, row_start_one r)

-- ---- the values of a block column of h rows

block_values : (w m : ℕ) → block_start (w + m) w ≡ triangle w + m * w
block_values w m = omega (arith, block_start_double (w + m) w (omega arith), triangle_exact w)

block_start_values : (h w : ℕ) → w ≤ h → block_start h w ≡ triangle w + (h - w) * w
block_start_values h w full =
    let order : w + (h - w) ≡ h = omega arith in
    rw order at (block_values w (h - w))

pub block_start_rows : (h w : ℕ) → w ≤ h → block_start h w ≡ starts (row_length w) h
block_start_rows h w full = omega (arith, block_start_values h w full, row_start_under w h full)

-- ---- places

pub place_in_block_row : (w r s : ℕ) → place_in_block w r s ≡ starts (row_length w) r + s
unfolding place_in_block triangle
place_in_block_row w r s = go (dec_lt r w)
  where
    go : Dec (r < w) → place_in_block w r s ≡ starts (row_length w) r + s
    go (yes inside) = rw (lt-ltb r w inside) (omega (arith, row_start_inside w r (omega arith)))
    go (no outside) =
        let under : w ≤ r = omega arith in
        rw (le-ltb r w under) (omega (arith, row_start_under w r under))

-- one column, row by row
pub place_in_block_one : (r : ℕ) → place_in_block 1 r 0 ≡ r
place_in_block_one r = omega (arith, place_in_block_row 1 r 0, row_start_one r)

pub place_in_block_le : (w r s : ℕ) → place_in_block w r s ≤ triangle r + s
place_in_block_le w r s = omega (arith, place_in_block_row w r s, row_start_le w r)

pub place_in_block_lt : (h w r s : ℕ) → w ≤ h → r < h → s < row_length w r → place_in_block w r s < block_start h w
place_in_block_lt h w r s full row column =
    omega (arith, place_in_block_row w r s, block_start_rows h w full, starts_lt (row_length w) r h s row column)

pub place_in_block_next_column : (w r s : ℕ) → place_in_block w r (s + 1) ≡ place_in_block w r s + 1
place_in_block_next_column w r s = omega (arith, place_in_block_row w r s, place_in_block_row w r (s + 1))

pub place_in_block_next_row : (w r s : ℕ) → place_in_block w (r + 1) s ≡ place_in_block w r s + row_length w r
place_in_block_next_row w r s =
    omega (arith, place_in_block_row w r s, place_in_block_row w (r + 1) s, starts_next (row_length w) r)

pub place_in_block_next_row_inside : (w r s : ℕ) → r < w → place_in_block w (r + 1) s ≡ place_in_block w r s + (r + 1)
place_in_block_next_row_inside w r s h = omega (arith, place_in_block_next_row w r s)

pub place_in_block_next_row_under : (w r s : ℕ) → w ≤ r → place_in_block w (r + 1) s ≡ place_in_block w r s + w
place_in_block_next_row_under w r s h = omega (arith, place_in_block_next_row w r s)
