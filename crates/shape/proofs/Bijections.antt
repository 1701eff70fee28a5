-- Each layout keeps the entries of a triangle of order n apart in exactly triangle n places, for every n and every b ≥ 1: the
-- columns of the packed layout, and the block columns of the blocked one with their rows, are parts laid end to end. Assumes nothing.
use mathlib.Core.Path.{◌≡◌, refl, ap}
use Prim.Native.Nat.{ℕ, ◌+◌, ◌-◌, ◌*◌, ◌/◌, ◌≤◌, ◌<◌, min}
use native.Mathlib.Nat.{le_refl, mul-le-mul_right}
use native.Mathlib.Omega.{arith}
use Rattle.shape.specs.Places.{triangle, packed_place, block_of, width, blocked_place}
use Rattle.shape.specs.Layouts.{Entry, Bijection}
use Rattle.shape.proofs.Parts.{starts, starts_lt, starts_apart, starts_onto, InPart}
use Rattle.shape.proofs.Columns.{
  column_length,
  triangle_columns,
  block_start_columns,
  packed_place_column,
  packed_place_lt,
}
use Rattle.shape.proofs.Rows.{place_in_block_row}
use Rattle.shape.proofs.Blocks.{
  block_row,
  block_length,
  block_of_le,
  block_of_lt,
  block_of_first,
  block_start_blocks,
  blocked_place_at,
}

-- ---- packed: part j is column j

packed_starts : (n i j : ℕ) → j ≤ i → j < n → packed_place n i j ≡ starts (column_length n) j + (i - j)
packed_starts n i j low h =
    omega (arith, packed_place_column n i j low (omega arith), block_start_columns n j (omega arith))

packed_below : (n i j : ℕ) → Entry n i j → packed_place n i j < triangle n
packed_below n i j e = rw triangle_columns (packed_place_lt n n i j e (omega arith) (le_refl n))

packed_apart : (n i j i' j' : ℕ)
    → Entry n i j
    → Entry n i' j'
    → packed_place n i j ≡ packed_place n i' j'
    → (i ≡ i') × (j ≡ j')
packed_apart n i j i' j' e e' p =
    let place : starts (column_length n) j + (i - j) ≡ starts (column_length n) j' + (i' - j') =
    omega (arith, packed_starts n i j e.lower (omega arith), packed_starts n i' j' e'.lower (omega arith)) in
    let same : (j ≡ j') × (i - j ≡ i' - j') =
    starts_apart (column_length n) j j' (i - j) (i' - j') (omega arith) (omega arith) place in
    omega arith

packed_onto : (n p : ℕ) → p < triangle n → (i : ℕ) × (j : ℕ) × Entry n i j × (packed_place n i j ≡ p)
packed_onto n p h =
    let below : p < starts (column_length n) n = omega (arith, triangle_columns n, block_start_columns n n (le_refl n)) in
    let at : InPart (column_length n) n p = starts_onto (column_length n) n p below in
    let i : ℕ = at.k + at.s in
    let entry : Entry n i at.k = omega arith in
    (i, at.k, entry, omega (arith, packed_starts n i at.k (omega arith) at.part))

pub packed_bijection : (n : ℕ) → Bijection (packed_place n) n
packed_bijection n = record { below = packed_below n; apart = packed_apart n; onto = packed_onto n }

-- ---- blocked: part k is block column k, and its part r is row r

-- entry (i, j) is at column s of row r of block column k
record InBlock (n b i j : ℕ) : Type 0 where
  k : ℕ
  r : ℕ
  s : ℕ
  block : k < n
  row : r < n - b * k
  column : s < block_row n b k r
  at_row : i ≡ b * k + r
  at_column : j ≡ b * k + s
  place : blocked_place n b i j ≡ starts (block_length n b) k + (starts (block_row n b k) r + s)

module _ (n b : ℕ) (positive : 0 < b) where
  blocked_starts : (i j k r s : ℕ)
      → i ≡ b * k + r
      → j ≡ b * k + s
      → b * k ≤ n
      → s < b
      → blocked_place n b i j ≡ starts (block_length n b) k + (starts (block_row n b k) r + s)
  blocked_starts i j k r s at_row at_column h column =
      let start : min (b * k) n ≡ b * k = omega arith in
      rw (
        at_row,
        at_column,
        blocked_place_at n b (b * k) r s (block_of_first b k positive) column,
        place_in_block_row,
        ← block_start_blocks n b k,
        start,
      )

  triangle_blocks : triangle n ≡ starts (block_length n b) n
  triangle_blocks =
      let all : min (b * n) n ≡ n = omega (arith, mul-le-mul_right n positive) in
      rw (triangle_columns, ← block_start_blocks n b n, all)

  in_block : (i j : ℕ) → Entry n i j → InBlock n b i j
  unfolding block_of width
  in_block i j e =
      let k : ℕ = j / b in
      let low : b * k ≤ j = block_of_le b j in
      let high : j < b * k + b = block_of_lt b j positive in
      let at_row : i ≡ b * k + (i - b * k) = omega arith in
      let at_column : j ≡ b * k + (j - b * k) = omega arith in
      record {
        k = k;
        r = i - b * k;
        s = j - b * k;
        block = omega (arith, mul-le-mul_right k positive);
        row = omega arith;
        column = omega arith;
        at_row = at_row;
        at_column = at_column;
        place = blocked_starts i j k (i - b * k) (j - b * k) at_row at_column (omega arith) (omega arith);
      }

  inside : {i j : ℕ} (at : InBlock n b i j) → starts (block_row n b at.k) at.r + at.s < block_length n b at.k
  inside at = starts_lt (block_row n b at.k) at.r (n - b * at.k) at.s at.row at.column

  blocked_below : (i j : ℕ) → Entry n i j → blocked_place n b i j < triangle n
  blocked_below i j e =
      let at : InBlock n b i j = in_block i j e in
      let q : ℕ = starts (block_row n b at.k) at.r + at.s in
      omega (arith, triangle_blocks, starts_lt (block_length n b) at.k n q at.block (inside at))

  same_block : {i j i' j' : ℕ} (at : InBlock n b i j) (at' : InBlock n b i' j')
      → at.k ≡ at'.k
      → starts (block_row n b at.k) at.r + at.s ≡ starts (block_row n b at'.k) at'.r + at'.s
      → (i ≡ i') × (j ≡ j')
  same_block at at' block p =
      let column : at'.s < block_row n b at.k at'.r =
      omega (arith, at'.column, ap (λ (k : ℕ). width n b (b * k)) block) in
      let place : starts (block_row n b at.k) at.r + at.s ≡ starts (block_row n b at.k) at'.r + at'.s =
      omega (arith, p, ap (λ (k : ℕ). starts (block_row n b k) at'.r) block) in
      let same : (at.r ≡ at'.r) × (at.s ≡ at'.s) =
      starts_apart (block_row n b at.k) at.r at'.r at.s at'.s at.column column place in
      omega (arith, ap (λ (k : ℕ). b * k) block)

  blocked_apart : (i j i' j' : ℕ)
      → Entry n i j
      → Entry n i' j'
      → blocked_place n b i j ≡ blocked_place n b i' j'
      → (i ≡ i') × (j ≡ j')
  blocked_apart i j i' j' e e' p =
      let at : InBlock n b i j = in_block i j e in
      let at' : InBlock n b i' j' = in_block i' j' e' in
      let q : ℕ = starts (block_row n b at.k) at.r + at.s in
      let q' : ℕ = starts (block_row n b at'.k) at'.r + at'.s in
      let same : (at.k ≡ at'.k) × (q ≡ q') =
      starts_apart (block_length n b) at.k at'.k q q' (inside at) (inside at') (omega arith) in
      same_block at at' same.0 same.1

  blocked_onto : (p : ℕ) → p < triangle n → (i : ℕ) × (j : ℕ) × Entry n i j × (blocked_place n b i j ≡ p)
  unfolding width
  blocked_onto p h =
      let block : InPart (block_length n b) n p = starts_onto (block_length n b) n p (omega (arith, triangle_blocks)) in
      let k : ℕ = block.k in
      let row : InPart (block_row n b k) (n - b * k) block.s =
      starts_onto (block_row n b k) (n - b * k) block.s block.inside in
      let i : ℕ = b * k + row.k in
      let j : ℕ = b * k + row.s in
      let entry : Entry n i j = omega (arith, row.part, row.inside) in
      let place : blocked_place n b i j ≡ starts (block_length n b) k + (starts (block_row n b k) row.k + row.s) =
      blocked_starts i j k row.k row.s refl refl (omega arith) (omega arith) in
      (i, j, entry, omega (arith, place, row.place, block.place))

pub blocked_bijection : (n b : ℕ) → 0 < b → Bijection (blocked_place n b) n
blocked_bijection n b h = record { below = blocked_below n b h; apart = blocked_apart n b h; onto = blocked_onto n b h }
