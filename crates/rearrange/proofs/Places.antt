-- Places in a block column, as places of specs/Moves.antt: below the block column's length, apart, and from row to row and column to column. And
-- as places in the whole triangle, for every n and every b ≥ 1. Assumes nothing.
use mathlib.Core.Path.{◌≡◌}
use Prim.Native.Nat.{ℕ, ◌+◌, ◌-◌, ◌/◌, ◌≤◌, ◌<◌}
use native.Mathlib.Nat.{mul-le-mul_left, div-lt_iff_lt-mul, mul_comm}
use native.Mathlib.Omega.{arith}
use Rattle.shape.specs.Places.{block_of, block_start, width, blocked_place}
use Rattle.shape.specs.Layouts.{Entry}
use Rattle.shape.proofs.Parts.{starts_apart}
use Rattle.shape.proofs.Columns.{block_start_split, packed_place_at, packed_place_lt}
use Rattle.shape.proofs.Rows.{row_length, place_in_block_row, place_in_block_lt}
use Rattle.shape.proofs.Blocks.{block_of_le, column_in_width, width_le, width_le_block, blocked_place_block, blocked_place_at}
use Rattle.shape.proofs.Bijections.{packed_bijection}
use Rattle.shape.proofs.Bounds.{block_start_mono}
use Rattle.calls.specs.declared.Layout.{Layout}
use Rattle.calls.specs.declared.Layout.TheVariants.{Packed, Blocked}
use Rattle.calls.specs.Triangles.{place_of}
use Rattle.rearrange.specs.Moves.{place_in_part}

-- ---- in a block column

pub place_in_part_lt : (layout : Layout) (n w r s : ℕ) → w ≤ n → Entry n r s → s < w → place_in_part layout n w r s < block_start n w
place_in_part_lt Packed n w r s full e h = packed_place_lt n w r s e h full
place_in_part_lt Blocked n w r s full e h = place_in_block_lt n w r s full e.inside (omega arith)

pub place_in_part_apart : (layout : Layout) (n w r s r' s' : ℕ)
    → Entry n r s
    → Entry n r' s'
    → s < w
    → s' < w
    → place_in_part layout n w r s ≡ place_in_part layout n w r' s'
    → (r ≡ r') × (s ≡ s')
place_in_part_apart Packed n w r s r' s' e e' h h' p = (packed_bijection n).apart r s r' s' e e' p
place_in_part_apart Blocked n w r s r' s' e e' h h' p =
    starts_apart (row_length w) r r' s s' (omega arith) (omega arith)
    (omega (arith, place_in_block_row w r s, place_in_block_row w r' s'))

-- ---- in the whole triangle

-- where the columns before c are whole block columns
block_of_before : (b c j : ℕ) → 0 < b → block_of b c ≡ c → j < c → block_of b j + b ≤ c
unfolding block_of
block_of_before b c j positive first h =
    let below : j / b < c / b = (div-lt_iff_lt-mul positive).1 (omega (arith, mul_comm b (c / b))) in
    omega (arith, mul-le-mul_left b below)

blocked_place_lt : (n b c i j : ℕ) → 0 < b → block_of b c ≡ c → c ≤ n → Entry n i j → j < c → blocked_place n b i j < block_start n c
blocked_place_lt n b c i j positive first inside e h =
    let d : ℕ = block_of b j in
    let w : ℕ = width n b d in
    let low : d ≤ j = block_of_le b j in
    let before : d + b ≤ c = block_of_before b c j positive first h in
    omega (
      arith,
      blocked_place_block n b i j,
      place_in_block_lt (n - d) w (i - d) (j - d) (width_le n b d) (omega arith)
          (omega (arith, column_in_width n b j positive (omega arith))),
      block_start_split n d w (omega (arith, width_le n b d)),
      block_start_mono n (d + w) c (omega (arith, width_le_block n b d)) inside,
    )

pub place_before : (layout : Layout) (n b c i j : ℕ)
    → 0 < b
    → block_of b c ≡ c
    → c ≤ n
    → Entry n i j
    → j < c
    → place_of layout n b i j < block_start n c
unfolding place_of
place_before Packed n b c i j positive first inside e h = packed_place_lt n c i j e h inside
place_before Blocked n b c i j positive first inside e h = blocked_place_lt n b c i j positive first inside e h

pub place_of_part : (layout : Layout) (n b c r s : ℕ)
    → block_of b c ≡ c
    → Entry (n - c) r s
    → s < width n b c
    → place_of layout n b (c + r) (c + s) ≡ block_start n c + place_in_part layout (n - c) (width n b c) r s
unfolding place_of
place_of_part Packed n b c r s first e h = packed_place_at n c r s e
place_of_part Blocked n b c r s first e h = blocked_place_at n b c r s first (omega (arith, width_le_block n b c))
