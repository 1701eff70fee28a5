-- Document 01, "Where an entry is kept". Rows, columns and places count from 0.
--
--      packed, n 5           blocked, n 5, b 2
--      0                     0
--      1  5                  1  2
--      2  6  9               3  4  9
--      3  7 10 12            5  6 10 11
--      4  8 11 13 14         7  8 12 13 14
use Rattle.std.specs.Prelude.{ℕ, ◌+◌, ◌-◌, ◌*◌, ◌/◌, ◌%◌, min, cond, eqb, ltb}

-- the values of a triangle of order n
unfoldable pub triangle : ℕ → ℕ
triangle n = n * (n + 1) / 2

-- Packed, lower triangle by columns: entry (i, j), i ≥ j, is at i + j(2n − j − 1)/2.
unfoldable pub packed_place : ℕ → ℕ → ℕ → ℕ
packed_place n i j = i + j * (2 * n - j - 1) / 2

-- the first column of the block column that holds column j: c = b × floor(j / b)
unfoldable pub block_of : ℕ → ℕ → ℕ
block_of b j = b * (j / b)

-- The block column begins at c(2n − c + 1)/2.
unfoldable pub block_start : ℕ → ℕ → ℕ
block_start n c = c * (2 * n - c + 1) / 2

-- its width: w = min(b, n − c)
unfoldable pub width : ℕ → ℕ → ℕ → ℕ
width n b c = min b (n - c)

-- inside it, r = i − c, s = j − c: at r(r + 1)/2 + s if r < w, else at w(w + 1)/2 + (r − w)w + s
unfoldable pub place_in_block : ℕ → ℕ → ℕ → ℕ
place_in_block w r s = cond (ltb r w) (r * (r + 1) / 2 + s) (w * (w + 1) / 2 + (r - w) * w + s)

unfoldable pub blocked_place : ℕ → ℕ → ℕ → ℕ → ℕ
unfolding block_of block_start width place_in_block
blocked_place n b i j =
    let c = block_of b j in
    block_start n c + place_in_block (width n b c) (i - c) (j - c)

-- the work memory of a rearranger and of the blocked factor: n × min(n, b)
unfoldable pub block_work : ℕ → ℕ → ℕ
block_work n b = n * min n b

-- ---- Document 02, (h): rectangular full packed, an array by columns

--      form 0, n 6, entries ij       form 0, n 7
--      33 43 53                      00 44 54 64
--      00 44 54                      10 11 55 65
--      10 11 55                      20 21 22 66
--      20 21 22                      30 31 32 33
--      30 31 32                      40 41 42 43
--      40 41 42                      50 51 52 53
--      50 51 52                      60 61 62 63

-- For n = 2k the array of form 0 has n + 1 rows and k columns, for n = 2k + 1 it has n rows and k + 1 columns.
unfoldable pub rfp_rows : ℕ → ℕ
rfp_rows n = n + 1 - n % 2

unfoldable pub rfp_columns : ℕ → ℕ
rfp_columns n = n / 2 + n % 2

-- The position of entry (i, j) there: the array's own columns come first, and the others are transposed above them.
unfoldable pub rfp_row : ℕ → ℕ → ℕ → ℕ
rfp_row n i j = cond (ltb j (rfp_columns n)) (i + 1 - n % 2) (j - rfp_columns n)

unfoldable pub rfp_column : ℕ → ℕ → ℕ → ℕ
rfp_column n i j = cond (ltb j (rfp_columns n)) j (i - n / 2)

-- Form 1 is the transpose of form 0; here any other number is taken as 1.
unfoldable pub rfp_place : ℕ → ℕ → ℕ → ℕ → ℕ
rfp_place form n i j =
    cond (eqb form 0) (rfp_column n i j * rfp_rows n + rfp_row n i j) (rfp_row n i j * rfp_columns n + rfp_column n i j)
