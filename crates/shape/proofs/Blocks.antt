-- The block columns of a triangle: their first columns and widths, their values, and the places in them. Column c is the first of a
-- block column where block_of b c ≡ c. Assumes nothing.
use mathlib.Core.Path.{◌≡◌, refl}
use Prim.Native.Nat.{ℕ, zero, suc, ◌+◌, ◌-◌, ◌*◌, ◌/◌, ◌≤◌, ◌<◌, min}
use native.Mathlib.Nat.{add-zero, zero-add, mul_comm, mul-div-le, lt-mul-div-succ}
use native.Mathlib.Omega.{arith}
use native.Mathlib.Decide.{dec_lt}
use lib.Arith.{digits_div}
use Rattle.shape.specs.Places.{packed_place, block_of, block_start, width, place_in_block, blocked_place}
use Rattle.shape.specs.Layouts.{Entry}
use Rattle.shape.proofs.Parts.{starts, starts_zero}
use Rattle.shape.proofs.Columns.{block_start_zero, block_start_split, packed_place_column}
use Rattle.shape.proofs.Rows.{row_length, block_start_rows, place_in_block_row, place_in_block_one}

-- ---- first columns

pub block_of_le : (b j : ℕ) → block_of b j ≤ j
unfolding block_of
block_of_le b j = mul-div-le j b

pub block_of_lt : (b j : ℕ) → 0 < b → j < block_of b j + b
unfolding block_of
block_of_lt b j h = omega (arith, lt-mul-div-succ j h)

pub block_of_multiple : (b k s : ℕ) → s < b → block_of b (b * k + s) ≡ b * k
unfolding block_of
block_of_multiple b k s h = rw (mul_comm b k, digits_div k h) (mul_comm b k)

pub block_of_inside : (b c s : ℕ) → block_of b c ≡ c → s < b → block_of b (c + s) ≡ c
unfolding block_of
block_of_inside b c s first h = rw first at (block_of_multiple b (c / b) s h)

pub block_of_first : (b k : ℕ) → 0 < b → block_of b (b * k) ≡ b * k
block_of_first b k h = rw add-zero at (block_of_multiple b k 0 h)

pub block_of_block : (b j : ℕ) → 0 < b → block_of b (block_of b j) ≡ block_of b j
unfolding block_of
block_of_block b j h = block_of_first b (j / b) h

pub block_of_next : (b c : ℕ) → 0 < b → block_of b c ≡ c → block_of b (c + b) ≡ c + b
unfolding block_of
block_of_next b c h first =
    let next : b * (c / b + 1) ≡ c + b = omega arith in
    rw next at (block_of_first b (c / b + 1) h)

-- the block column after the one at k is at c or before it
pub block_before : (b k c : ℕ) → block_of b k ≡ k → block_of b c ≡ c → k < c → k + b ≤ c
block_before b k c first first' h = go (dec_lt c (k + b))
  where
    go : Dec (c < k + b) → k + b ≤ c
    go (no p) = omega arith
    go (yes p) =
        let place : k + (c - k) ≡ c = omega arith in
        let same : block_of b c ≡ k = rw place at (block_of_inside b k (c - k) first (omega arith)) in
        absurd (omega arith)

-- a block column of w columns ends at the start of row n − c of it, were there one
pub block_end : (n c w : ℕ) → c + w ≤ n → block_start n (c + w) ≡ block_start n c + place_in_block w (n - c) 0
block_end n c w h =
    omega (arith, block_start_split n c w h, block_start_rows (n - c) w (omega arith), place_in_block_row w (n - c) 0)

-- ---- widths

pub width_pos : (n b c : ℕ) → 0 < b → c < n → 0 < width n b c
unfolding width
width_pos n b c hb h = omega arith

pub width_le_block : (n b c : ℕ) → width n b c ≤ b
unfolding width
width_le_block n b c = omega arith

pub width_le : (n b c : ℕ) → width n b c ≤ n - c
unfolding width
width_le n b c = omega arith

pub width_full : (n b c : ℕ) → b ≤ n - c → width n b c ≡ b
unfolding width
width_full n b c h = omega arith

-- the last block column may be narrower
pub width_last : (n b c : ℕ) → n - c ≤ b → width n b c ≡ n - c
unfolding width
width_last n b c h = omega arith

-- a block column that ends before the last is whole
width_inside : (n b c : ℕ) → c + width n b c < n → width n b c ≡ b
unfolding width
width_inside n b c inside = omega arith

-- the next block column's first column, where there is one
pub first_next : (n b c : ℕ) → 0 < b → block_of b c ≡ c → c + width n b c < n → block_of b (c + width n b c) ≡ c + width n b c
first_next n b c pos first inside = rw (width_inside n b c inside) (block_of_next b c pos first)

pub column_in_width : (n b j : ℕ) → 0 < b → j < n → j - block_of b j < width n b (block_of b j)
unfolding width
column_in_width n b j hb h = omega (arith, block_of_le b j, block_of_lt b j hb)

-- ---- values

-- the entries of row r of block column k, and of the whole block column
abbrev pub block_row : ℕ → ℕ → ℕ → ℕ → ℕ
block_row n b k r = row_length (width n b (b * k)) r

abbrev pub block_length : ℕ → ℕ → ℕ → ℕ
block_length n b k = starts (block_row n b k) (n - b * k)

block_next : (n b k : ℕ) → block_start n (min (b * suc k) n) ≡ block_start n (min (b * k) n) + block_length n b k
unfolding width
block_next n b k =
    let c : ℕ = min (b * k) n in
    let next : min (b * suc k) n ≡ c + width n b c = omega arith in
    let same_width : width n b c ≡ width n b (b * k) = omega arith in
    let same_rows : n - c ≡ n - b * k = omega arith in
    rw (
      next,
      block_start_split n c (width n b c) (omega arith),
      block_start_rows (n - c) (width n b c) (width_le n b c),
      same_width,
      same_rows,
    )

pub block_start_blocks : (n b k : ℕ) → block_start n (min (b * k) n) ≡ starts (block_length n b) k
unfolding starts
block_start_blocks n b zero =
    let none : min (b * 0) n ≡ 0 = omega arith in
    rw none (block_start_zero n)
block_start_blocks n b (suc k) = rw (block_next, block_start_blocks n b k)

-- ---- places

pub blocked_place_block : (n b i j : ℕ)
    → blocked_place n b i j
    ≡ block_start n (block_of b j) + place_in_block (width n b (block_of b j)) (i - block_of b j) (j - block_of b j)
unfolding blocked_place
blocked_place_block n b i j = refl

pub blocked_place_at : (n b c r s : ℕ)
    → block_of b c ≡ c
    → s < b
    → blocked_place n b (c + r) (c + s) ≡ block_start n c + place_in_block (width n b c) r s
blocked_place_at n b c r s first h =
    let row : c + r - c ≡ r = omega arith in
    let column : c + s - c ≡ s = omega arith in
    rw (blocked_place_block, block_of_inside b c s first h, row, column)

pub blocked_place_diagonal : (n b c : ℕ) → 0 < b → block_of b c ≡ c → blocked_place n b c c ≡ block_start n c
blocked_place_diagonal n b c h first =
    let w : ℕ = width n b c in
    let place : blocked_place n b c c ≡ block_start n c + place_in_block w 0 0 =
    rw add-zero at (blocked_place_at n b c 0 0 first h) in
    omega (arith, place_in_block_row w 0 0, starts_zero (row_length w))

-- in the first block column
blocked_place_first : (n b i j : ℕ) → j < b → b ≤ n → blocked_place n b i j ≡ place_in_block b i j
blocked_place_first n b i j h full =
    let first : block_of b 0 ≡ 0 = omega (arith, block_of_le b 0) in
    let whole : width n b 0 ≡ b = width_full n b 0 (omega arith) in
    simp (zero-add, block_start_zero, whole) at (blocked_place_at n b 0 i j first h)

-- a block column is the first block column of a triangle of order n − c
pub blocked_place_part : (n b i j : ℕ)
    → 0 < b
    → Entry n i j
    → blocked_place n b i j
    ≡ block_start n (block_of b j) + blocked_place (n - block_of b j) (width n b (block_of b j)) (i - block_of b j) (j - block_of b j)
blocked_place_part n b i j hb e =
    let c : ℕ = block_of b j in
    rw (blocked_place_first (n - c) (width n b c) (i - c) (j - c) (column_in_width n b j hb (omega arith)) (width_le n b c))
    (blocked_place_block n b i j)

-- ---- block length 1

pub block_of_one : (j : ℕ) → block_of 1 j ≡ j
block_of_one j = omega (arith, block_of_le 1 j, block_of_lt 1 j (omega arith))

-- blocked order is packed order
pub blocked_place_one : (n i j : ℕ) → Entry n i j → blocked_place n 1 i j ≡ packed_place n i j
blocked_place_one n i j e =
    let none : j - j ≡ 0 = omega arith in
    let one : width n 1 j ≡ 1 = width_full n 1 j (omega arith) in
    rw (blocked_place_block, block_of_one j, none, one, place_in_block_one)
    (omega (arith, packed_place_column n i j e.lower (omega arith)))
