-- Rows below several block columns of b columns, in a memory of order h in blocked order: where they stand in each of these. Assumes nothing.
use Prim.Native.Nat.{ℕ, zero, suc, ◌+◌, ◌-◌, ◌*◌, ◌≤◌, ◌<◌}
use native.Mathlib.Nat.{mul-le-mul_right}
use native.Mathlib.Omega.{arith}
use mathlib.Core.Path.{◌≡◌, ap, ap₂, sym, ◌∙◌}
use mathlib.Core.List.{List, ◌++◌}
use lib.ListN.{length, get_or, take, drop}
use lib.Ieee.{Float, nan, binary64, sub, mul}
use Rattle.shape.specs.Places.{triangle, block_of, block_start, width, place_in_block, blocked_place}
use Rattle.shape.proofs.Bijections.{blocked_bijection}
use Rattle.shape.proofs.Bounds.{triangle_le}
use Rattle.shape.proofs.Columns.{triangle_exact, block_start_zero}
use Rattle.shape.proofs.Rows.{place_in_block_row, row_start_under}
use Rattle.shape.proofs.Blocks.{block_of_le, block_before, block_end, width_full, blocked_place_at}
use Rattle.calls.specs.Arithmetic.{minus_products}
use Rattle.calls.proofs.Columns.{products_same, minus_add}
use Rattle.kernels.specs.Kernels.{MultipleSubtracted, Filled, RowsBelow, TileIs, tile_at, row_at, run_at, lane_at}
use Rattle.kernels.proofs.Parts.{filled_append}
use Rattle.kernels.proofs.Products.{part_multiple}

pub square_ge : (w : ℕ) → w ≤ w * w
square_ge zero = omega arith
square_ge (suc w) = let one : 1 ≤ suc w = omega arith in omega (arith, mul-le-mul_right (suc w) one)

-- a row below the diagonal block, by its distance from the block
pub row_under : (b d : ℕ) → place_in_block b (b + d) 0 ≡ triangle b + d * b
row_under b d =
    let rows : b + d - b ≡ d = omega arith in
    omega (arith, place_in_block_row b (b + d) 0, row_start_under b (b + d) (omega arith), ap (λ q. q * b) rows)

-- where row i stands in the block column at k, and in the first one
abbrev pub row_place : ℕ → ℕ → ℕ → ℕ → ℕ
row_place h b i k = block_start h k + place_in_block b (i - k) 0

pub first_place : (h b i : ℕ) → b ≤ i → triangle b + (i - b) * b ≡ row_place h b i 0
first_place h b i low =
    let none : i - 0 ≡ b + (i - b) = omega arith in
    rw none (omega (arith, row_under b (i - b), block_start_zero h))

module _ (h b k : ℕ) (first : block_of b k ≡ k) where
  -- the rows below follow each other
  pub row_entry :
      (i r q : ℕ) → k + b ≤ i → i + r < h → q < b → blocked_place h b (i + r) (k + q) ≡ row_place h b i k + r * b + q
  row_entry i r q low high few =
      let d : ℕ = i - k - b in
      let here : i - k ≡ b + d = omega arith in
      let row : k + (b + (d + r)) ≡ i + r = omega arith in
      let full : width h b k ≡ b = width_full h b k (omega arith) in
      let at : blocked_place h b (k + (b + (d + r))) (k + q) ≡ block_start h k + place_in_block b (b + (d + r)) q =
      rw full at (blocked_place_at h b k (b + (d + r)) q first few) in
      let at' : blocked_place h b (i + r) (k + q) ≡ block_start h k + place_in_block b (b + (d + r)) q = rw row at at in
      at'
      ∙ omega (
        arith,
        place_in_block_row b (b + (d + r)) q,
        place_in_block_row b (b + (d + r)) 0,
        row_under b (d + r),
        row_under b d,
        ap (λ z. place_in_block b z 0) here,
      )

  row_here : (i q : ℕ) → k + b ≤ i → i < h → q < b → row_place h b i k + q ≡ blocked_place h b i (k + q)
  row_here i q low high few =
      let none : i + 0 ≡ i = omega arith in
      omega (arith, rw none at (row_entry i 0 q low (omega arith) few))

  pub row_inside : (i r : ℕ) → 0 < b → k + b ≤ i → i + r < h → row_place h b i k + r * b + b ≤ triangle h
  row_inside i r pos low high =
      omega (
        arith,
        row_entry i r (b - 1) low high (omega arith),
        (blocked_bijection h b pos).below (i + r) (k + (b - 1)) (record { lower = omega arith; inside = high }),
      )

  -- from one block column to the next
  next_sum : (i : ℕ) → k + b + b ≤ i → i < h → row_place h b i (k + b) + (2 * b * b - triangle b) ≡ row_place h b i k + (h - k) * b
  next_sum i low high = at (i - k - b - b) (h - k - b) (omega arith) (omega arith) (omega arith)
    where
      sum : (s t d e : ℕ) → 2 * t ≡ b * (b + 1) → s + (t + e * b) + (t + d * b) + (2 * b * b - t) ≡ s + (t + (d + b) * b) + (b + e) * b
      sum s t d e double = omega (arith, square_ge b)

      at :
          (d e : ℕ) → i - (k + b) ≡ b + d → i - k ≡ b + (d + b) → h - k ≡ b + e →
          row_place h b i (k + b) + (2 * b * b - triangle b) ≡ row_place h b i k + (h - k) * b
      at d e row row' rest =
          let start : block_start h (k + b) ≡ block_start h k + (triangle b + e * b) =
          block_end h k b (omega arith) ∙ ap (λ z. block_start h k + place_in_block b z 0) rest ∙ ap (λ z. block_start h k + z) (row_under b e) in
          rw (start, row, row', rest, row_under b d, row_under b (d + b)) (sum (block_start h k) (triangle b) d e (triangle_exact b))

  pub next_place : (i : ℕ) → k + b + b ≤ i → i < h → row_place h b i k + (h - k) * b - (2 * b * b - triangle b) ≡ row_place h b i (k + b)
  next_place i low high = omega (arith, next_sum i low high)

  -- the sum is formed once too often, and does not underflow
  pub next_fits : (i : ℕ) → k + b ≤ i → i < h → (2 * b * b - triangle b) ≤ row_place h b i k + (h - k) * b
  next_fits i low high =
      let d : ℕ = i - k - b in
      let row : i - k ≡ b + d = omega arith in
      let tall : b + 1 ≤ h - k = omega arith in
      omega (arith, row_under b d, ap (λ z. place_in_block b z 0) row, mul-le-mul_right b tall, triangle_exact b)

-- ---- a row below the columns of a run

-- the first block column is above row i, and the row stands in the memory
pub row_begins :
    {start h b corner count i rows len : ℕ} → RowsBelow start h b corner count i rows len → 0 < rows →
    (b ≤ i) × (corner + (i - b) * b ≡ row_place h b i 0) × (start + row_place h b i 0 ≤ len) × (row_place h b i 0 ≤ 8002000)
row_begins {start} {h} {b} {corner} {count} {i} so some =
    let low : 0 + b ≤ count = block_before b 0 count (omega (arith, block_of_le b 0)) so.whole so.some in
    let first = first_place h b i (omega (arith, low, so.above)) in
    let inside = row_inside h b 0 (omega (arith, block_of_le b 0)) i 0 so.block (omega (arith, low, so.above)) (omega (arith, so.inside)) in
    (omega (arith, low, so.above), omega (arith, first, so.diagonal), omega (arith, inside, so.size), omega (arith, inside, triangle_le h so.order))

-- the block column at k is one of those
pub row_turn :
    {start h b corner count i rows len k : ℕ} → RowsBelow start h b corner count i rows len → 0 < rows → block_of b k ≡ k → k < count →
    (k + b ≤ count) × (k + b ≤ i) × (i < h) × (row_place h b i k ≤ 8002000) × (2 * b * b - corner ≤ row_place h b i k + (h - k) * b)
row_turn {start} {h} {b} {corner} {count} {i} {k = k} so some first more =
    let low : k + b ≤ count = block_before b k count first so.whole more in
    let above : k + b ≤ i = omega (arith, low, so.above) in
    let high : i < h = omega (arith, so.inside) in
    let inside = row_inside h b k first i 0 so.block above (omega arith) in
    (low, above, high, omega (arith, inside, triangle_le h so.order), rw so.diagonal (next_fits h b k first i above high))

-- ---- the products of one more block column

module _
    (rows lanes start h b i k : ℕ) (m panel : List Float) (t₀ t t' : List (List Float)) (first : block_of b k ≡ k) (low : k + b ≤ i) (high : i + rows ≤ h)
    (before :
    TileIs rows lanes (λ r s. minus_products (run_at m start h b (i + r)) (lane_at lanes panel s) k (tile_at t₀ r s)) t)
    (block :
    TileIs rows lanes
    (λ r s. minus_products (row_at m (start + row_place h b i k + r * b)) (λ q. get_or panel (lanes * k + lanes * q + s) nan) b (tile_at t r s)) t') where
  pub run_next :
      TileIs rows lanes (λ r s. minus_products (run_at m start h b (i + r)) (lane_at lanes panel s) (k + b) (tile_at t₀ r s)) t'
  run_next r s p few =
      block r s p few
      ∙ products_same (row_at m (start + row_place h b i k + r * b)) (λ q. run_at m start h b (i + r) (k + q))
      (λ q. get_or panel (lanes * k + lanes * q + s) nan) (λ q. lane_at lanes panel s (k + q)) b (tile_at t r s)
      (λ q g.
      let at : start + row_place h b i k + r * b + q ≡ start + (row_place h b i k + r * b + q) = omega arith in
      ap (λ z. get_or m z nan) (at ∙ ap (λ z. start + z) (sym (row_entry h b k first i r q low (omega arith) g))))
      (λ q g.
      let at : lanes * k + lanes * q + s ≡ lanes * (k + q) + s = omega arith in
      ap (λ z. get_or panel z nan) at)
      ∙ ap (minus_products (λ q. run_at m start h b (i + r) (k + q)) (λ q. lane_at lanes panel s (k + q)) b) (before r s p few)
      ∙ sym (minus_add (run_at m start h b (i + r)) (lane_at lanes panel s) k b (tile_at t₀ r s))

-- ---- one product for each of the columns

-- column j of the tile less the product of its entry in row i and y
abbrev pub less_row : ℕ → ℕ → ℕ → List Float → Float → List Float → ℕ → Float
less_row h b i part y tile j = sub binary64 (get_or tile j nan) (mul binary64 (get_or part (blocked_place h b i j) nan) y)

-- one more block column
columns_next :
    (h b i k x : ℕ) (part t₀ t t' : List Float) (y : Float) → block_of b k ≡ k → k + b ≤ i → i < h → x ≡ row_place h b i k →
    Filled nan 0 k (less_row h b i part y t₀) t₀ t →
    Filled nan k b (λ s. sub binary64 (get_or t (k + s) nan) (mul binary64 (get_or part (x + s) nan) y)) t t' →
    Filled nan 0 (k + b) (less_row h b i part y t₀) t₀ t'
columns_next h b i k x part t₀ t t' y first low high place before row =
    filled_append nan 0 k k b (less_row h b i part y t₀) (λ s. sub binary64 (get_or t (k + s) nan) (mul binary64 (get_or part (x + s) nan) y)) t₀ t t'
    (omega arith) before row
    (λ s few.
    ap₂ (λ u p. sub binary64 u (mul binary64 (get_or part p nan) y)) (before.after (k + s) (omega arith))
    (ap (λ p. p + s) place ∙ row_here h b k first i s low high few))

module _
    {h b w i k x : ℕ} (part : List Float) (so : RowsBelow 0 h b (triangle b) w i 1 (length part)) (first : block_of b k ≡ k) (more : k < w)
    (place : x ≡ row_place h b i k)
  where
    -- the row's part in the block column lies in the memory
    pub columns_room : x + b ≤ length part
    columns_room =
        let t = row_turn so (omega arith) first more in
        omega (arith, place, row_inside h b k first i 0 so.block t.1 (omega (arith, t.2)), so.size)

    pub columns_turn :
        {t₀ t v' : List Float} {y : Float} → length t ≡ 16 → w ≤ 16 → Filled nan 0 k (less_row h b i part y t₀) t₀ t →
        MultipleSubtracted (take (k + b - k) (drop k t)) (take (x + b - x) (drop x part)) y v' →
        Filled nan 0 (k + b) (less_row h b i part y t₀) t₀ (take k t ++ (v' ++ drop (k + b - k) (drop k t)))
    columns_turn {t₀} {t} {v'} {y} size few before less =
        let here = row_turn so (omega arith) first more in
        columns_next h b i k x part t₀ t _ y first here.1 here.2 place before
        (part_multiple k x b t part v' y (omega (arith, here.0)) columns_room less)
