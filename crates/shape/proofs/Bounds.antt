-- Bounds on the numbers of specs/Places.antt, from which each sum and product fits 64 bits. Assumes nothing.
use Prim.Native.Nat.{ℕ, suc, ◌*◌, ◌-◌, ◌≤◌}
use native.Mathlib.Nat.{le_refl, mul-le-mul, mul-le-mul_left}
use native.Mathlib.Decide.{le_ind}
use native.Mathlib.Numerals.{add-one}
use native.Mathlib.Omega.{arith}
use mir.Syntax.{w64}
use mir.Val.{Fits}
use mir.Facts.{Fits-below}
use Rattle.shape.specs.Bounds.{max_order}
use Rattle.shape.specs.Places.{triangle, packed_place, block_start}
use Rattle.shape.proofs.Parts.{starts_mono}
use Rattle.shape.proofs.Columns.{column_length, triangle_rows, triangle_columns, block_start_columns, packed_place_exact, packed_place_rows, packed_place_next_column}

pub triangle_mono : (m n : ℕ) → m ≤ n → triangle m ≤ triangle n
triangle_mono m n h = omega (arith, triangle_rows m, triangle_rows n, starts_mono suc m n h)

pub triangle_le : (n : ℕ) → n ≤ max_order → triangle n ≤ 8002000
unfolding triangle
triangle_le n h = triangle_mono n max_order h

pub block_start_mono : (n c d : ℕ) → c ≤ d → d ≤ n → block_start n c ≤ block_start n d
block_start_mono n c d h inside =
    omega (
      arith,
      block_start_columns n c (omega arith),
      block_start_columns n d inside,
      starts_mono (column_length n) c d h,
    )

pub block_start_le : (n c : ℕ) → c ≤ n → block_start n c ≤ triangle n
block_start_le n c h = rw triangle_columns (block_start_mono n c n h (le_refl n))

-- a packed place rises with the order, and with the column,
packed_place_order : (m n i j : ℕ) → m ≤ n → j ≤ m → packed_place m i j ≤ packed_place n i j
packed_place_order m n i j h inside =
    let factor : 2 * m - j - 1 ≤ 2 * n - j - 1 = omega arith in
    omega (arith, packed_place_exact m i j inside, packed_place_exact n i j (omega arith), mul-le-mul_left j factor)

packed_place_columns : (n i j k : ℕ) → j ≤ k → k ≤ n → packed_place n i j ≤ packed_place n i k
packed_place_columns n i j k h =
    le_ind {n = j} (λ (c : ℕ). c ≤ n → packed_place n i j ≤ packed_place n i c) (λ inside. le_refl (packed_place n i j))
    (λ c above ih inside. omega (arith, ih (omega arith), rw add-one at (packed_place_next_column n i c inside))) k h

-- and with the row too
pub packed_place_le : (m n i j i' j' : ℕ) → m ≤ n → i ≤ i' → j ≤ j' → j ≤ m → j' ≤ n → packed_place m i j ≤ packed_place n i' j'
packed_place_le m n i j i' j' h row column inside inside' =
    omega (arith, packed_place_order m n i j h inside, packed_place_columns n i j j' column inside', packed_place_rows n i i' j' row)

-- a factor of a place function's product is at most 2 × 4000 + 1
pub product_fits : (x y : ℕ) → x ≤ 8001 → y ≤ 8001 → Fits w64 (x * y)
product_fits x y h h' = Fits-below tt (mul-le-mul h h')
