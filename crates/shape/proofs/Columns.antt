-- The closed formulas of triangle, block start and packed place. Each product is even, so that its half is exact, and each half is
-- the start of a part: of a row of a triangle, or of a column. Assumes nothing.
use mathlib.Core.Path.{◌≡◌, refl, ap, sym, ◌∙◌}
use Prim.Native.Nat.{ℕ, zero, suc, ◌+◌, ◌-◌, ◌*◌, ◌≤◌, ◌<◌}
use native.Mathlib.Nat.{div-eq_of_eq-mul_right}
use native.Mathlib.Omega.{arith}
use lib.Dec.{lit<}
use Rattle.shape.specs.Places.{triangle, packed_place, block_start}
use Rattle.shape.specs.Layouts.{Entry}
use Rattle.shape.proofs.Parts.{starts, starts_next, starts_lt}

-- ---- triangles

rows_double : (n : ℕ) → 2 * starts suc n ≡ n * (n + 1)
unfolding starts
rows_double zero = refl
rows_double (suc n) = omega (arith, rows_double n)

-- row r of a triangle has r + 1 entries
pub triangle_rows : (n : ℕ) → triangle n ≡ starts suc n
unfolding triangle
triangle_rows n = div-eq_of_eq-mul_right (lit< tt) (sym (rows_double n))

pub triangle_exact : (n : ℕ) → 2 * triangle n ≡ n * (n + 1)
triangle_exact n = rw triangle_rows (rows_double n)

pub triangle_next : (n : ℕ) → triangle (n + 1) ≡ triangle n + (n + 1)
triangle_next n = omega (arith, triangle_exact n, triangle_exact (n + 1))

-- ---- block starts

-- the entries of column j of a triangle of order n
abbrev pub column_length : ℕ → ℕ → ℕ
column_length n j = n - j

columns_double : (n c : ℕ) → c ≤ n → 2 * starts (column_length n) c + c * c ≡ c * (2 * n + 1)
unfolding starts
columns_double n zero h = omega arith
columns_double n (suc c) h = omega (arith, columns_double n c (omega arith))

column_product : (n c d s : ℕ) → c + d ≡ 2 * n + 1 → 2 * s + c * c ≡ c * (2 * n + 1) → c * d ≡ 2 * s
column_product n c d s h e = omega (arith, ap (λ (x : ℕ). c * x) h)

pub block_start_columns : (n c : ℕ) → c ≤ n → block_start n c ≡ starts (column_length n) c
unfolding block_start
block_start_columns n c h =
    div-eq_of_eq-mul_right (lit< tt)
    (column_product n c (2 * n - c + 1) (starts (column_length n) c) (omega arith) (columns_double n c h))

-- with no difference in it, as `omega` reads it
pub block_start_double : (n c : ℕ) → c ≤ n → 2 * block_start n c + c * c ≡ c * (2 * n + 1)
block_start_double n c h = omega (arith, block_start_columns n c h, columns_double n c h)

pub block_start_exact : (n c : ℕ) → c ≤ n → 2 * block_start n c ≡ c * (2 * n - c + 1)
block_start_exact n c h =
    sym (column_product n c (2 * n - c + 1) (block_start n c) (omega arith) (block_start_double n c h))

pub block_start_zero : (n : ℕ) → block_start n 0 ≡ 0
block_start_zero n = omega (arith, block_start_double n 0 (omega arith))

pub block_start_next : (n c : ℕ) → c < n → block_start n (c + 1) ≡ block_start n c + (n - c)
block_start_next n c h =
    omega (
      arith,
      block_start_columns n c (omega arith),
      block_start_columns n (c + 1) (omega arith),
      starts_next (column_length n) c,
    )

columns_split : (c m k : ℕ) → k ≤ m → block_start (c + m) (c + k) ≡ block_start (c + m) c + block_start m k
columns_split c m k h =
    omega (
      arith,
      block_start_double (c + m) (c + k) (omega arith),
      block_start_double (c + m) c (omega arith),
      block_start_double m k h,
    )

-- the columns from c on are those of a triangle of order n − c
pub block_start_split : (n c k : ℕ) → c + k ≤ n → block_start n (c + k) ≡ block_start n c + block_start (n - c) k
block_start_split n c k h =
    let order : c + (n - c) ≡ n = omega arith in
    rw order at (columns_split c (n - c) k (omega arith))

pub triangle_columns : (n : ℕ) → triangle n ≡ block_start n n
triangle_columns n = omega (arith, triangle_exact n, block_start_double n n (omega arith))

-- the triangle's columns from c on are a triangle of order n − c
pub triangle_rest : (n c : ℕ) → c ≤ n → triangle n ≡ block_start n c + triangle (n - c)
triangle_rest n c h =
    let whole : c + (n - c) ≡ n = omega arith in
    triangle_columns n ∙ ap (block_start n) (sym whole) ∙ block_start_split n c (n - c) (omega arith)
    ∙ ap (λ t. block_start n c + t) (sym (triangle_columns (n - c)))

-- ---- packed places

packed_product : (n j : ℕ) → j ≤ n → j * (2 * n - j - 1) + 2 * j ≡ 2 * block_start n j
packed_product n zero h = omega (arith, block_start_zero n)
packed_product n (suc j) h =
    let product : suc j * (2 * n - suc j - 1 + 2) ≡ 2 * block_start n (suc j) =
    column_product n (suc j) (2 * n - suc j - 1 + 2) (block_start n (suc j)) (omega arith) (block_start_double n (suc j) h) in
    omega arith

pub packed_place_exact : (n i j : ℕ) → j ≤ n → 2 * packed_place n i j ≡ 2 * i + j * (2 * n - j - 1)
unfolding packed_place
packed_place_exact n i j h = omega (arith, packed_product n j h)

-- row i of column j is i − j places past the column's start
pub packed_place_column : (n i j : ℕ) → j ≤ i → j ≤ n → packed_place n i j ≡ block_start n j + (i - j)
unfolding packed_place
packed_place_column n i j low h = omega (arith, packed_product n j h)

-- a block column starts at the same place in both layouts
pub packed_place_diagonal : (n c : ℕ) → c ≤ n → block_start n c ≡ packed_place n c c
packed_place_diagonal n c h = omega (arith, packed_place_column n c c (omega arith) h)

-- the columns from c on are packed as a triangle of order n − c
pub packed_place_at : (n c r s : ℕ) → Entry (n - c) r s → packed_place n (c + r) (c + s) ≡ block_start n c + packed_place (n - c) r s
packed_place_at n c r s e =
    omega (
      arith,
      packed_place_column n (c + r) (c + s) (omega arith) (omega arith),
      packed_place_column (n - c) r s e.lower (omega arith),
      block_start_split n c s (omega arith),
    )

-- the columns before d end where column d starts
pub packed_place_lt : (n d i j : ℕ) → Entry n i j → j < d → d ≤ n → packed_place n i j < block_start n d
packed_place_lt n d i j e h inside =
    omega (
      arith,
      packed_place_column n i j e.lower (omega arith),
      block_start_columns n j (omega arith),
      block_start_columns n d inside,
      starts_lt (column_length n) j d (i - j) h (omega arith),
    )

pub packed_place_next_row : (n i j : ℕ) → packed_place n (i + 1) j ≡ packed_place n i j + 1
unfolding packed_place
packed_place_next_row n i j = omega arith

pub packed_place_rows : (n first i j : ℕ) → first ≤ i → packed_place n i j ≡ packed_place n first j + (i - first)
unfolding packed_place
packed_place_rows n first i j h = omega arith

pub packed_place_next_column : (n i j : ℕ) → j < n → packed_place n i (j + 1) ≡ packed_place n i j + (n - j - 1)
unfolding packed_place
packed_place_next_column n i j h =
    omega (
      arith,
      packed_place_diagonal n j (omega arith),
      packed_place_diagonal n (j + 1) (omega arith),
      block_start_next n j h,
    )

pub packed_place_next_diagonal : (n j : ℕ) → j < n → packed_place n (j + 1) (j + 1) ≡ packed_place n j j + (n - j)
packed_place_next_diagonal n j h =
    omega (
      arith,
      packed_place_diagonal n j (omega arith),
      packed_place_diagonal n (j + 1) (omega arith),
      block_start_next n j h,
    )
