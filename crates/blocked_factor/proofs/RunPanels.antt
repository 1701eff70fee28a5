-- A panel packed from a run, block column by block column, and the target's columns less the run's products, rows by rows. Assumes nothing.
use Prim.Native.Nat.{ℕ, ◌+◌, ◌-◌, ◌*◌, ◌/◌, ◌%◌, ◌≤◌, ◌<◌, min}
use native.Mathlib.Nat.{div-add-mod, mul-add-mod_self_left, zero-mod, mod-eq-sub-mod, mod-eq_of_lt}
use native.Mathlib.Omega.{arith}
use native.Mathlib.Decide.{dec_lt}
use mathlib.Core.Path.{◌≡◌, sym, ap, ◌∙◌}
use mathlib.Core.List.{List}
use lib.ListN.{length, get_or}
use lib.Ieee.{Float, nan}
use Rattle.shape.specs.Places.{triangle, block_of, block_start, place_in_block, blocked_place}
use Rattle.shape.proofs.Blocks.{block_before}
use Rattle.calls.specs.Arithmetic.{minus_products}
use Rattle.calls.proofs.Columns.{products_same}
use Rattle.kernels.specs.Kernels.{GridFilled, RowsBelow, run_at, lane_at}
use Rattle.kernels.proofs.Grids.{lane_end}
use Rattle.kernels.proofs.Runs.{row_under, row_place, row_entry, row_inside}
use Rattle.blocked_factor.specs.BlockColumns.{row_start, Packed, PanelUpdated}
use Rattle.blocked_factor.specs.Runs.{RunPacked, RunBefore}
use Rattle.blocked_factor.proofs.BlockRows.{row_next, row_mono, row_lt, row_apart}

-- ---- packing

module _ {start h b corner count i g len k : ℕ} (so : RowsBelow start h b corner count i g len) (first : block_of b k ≡ k) (more : k < count) where
  pub block_le : k + b ≤ count
  block_le = block_before b k count first so.whole more

  -- row i + t in the block column at k
  pub pack_room : (t : ℕ) → t < g → start + block_start h k + row_start b (i - k + t) + b ≤ len
  pack_room t few =
      let row : i + t - k ≡ i - k + t = omega (arith, block_le, so.above) in
      let inside : row_place h b (i + t) k + 0 * b + b ≤ triangle h =
      row_inside h b k first (i + t) 0 so.block (omega (arith, block_le, so.above)) (omega (arith, so.inside)) in
      omega (arith, inside, so.size, ap (λ z. place_in_block b z 0) row)

  pub pack_next :
      (lanes : ℕ) (m part panel panel' : List Float) → g ≤ lanes → length m ≡ len →
      ((p : ℕ) → start + block_start h k + p < len → get_or part p nan ≡ get_or m (start + block_start h k + p) nan) →
      RunPacked panel lanes m start h b i k g → Packed panel panel' (lanes * k) lanes part b (i - k) b g → RunPacked panel' lanes m start h b i (k + b) g
  pack_next lanes m part panel panel' narrow size same before packed t q few low =
      elim (dec_lt q k) [
        | yes p ↦ packed.before (lanes * q + t) (omega (arith, lane_end lanes q k p)) ∙ before t q few p
        | no p ↦ here t (q - k) q few (omega arith) (omega arith)
      ]
    where
      here : (t r q : ℕ) → t < g → r < b → k + r ≡ q → lane_at lanes panel' t q ≡ run_at m start h b (i + t) q
      here t r q few low e =
          let at : lanes * (k + r) + t ≡ lanes * k + lanes * r + t = omega arith in
          let row : i + t - k ≡ i - k + t = omega (arith, block_le, so.above) in
          let none : i + t + 0 ≡ i + t = omega arith in
          let entry : blocked_place h b (i + t + 0) (k + r) ≡ row_place h b (i + t) k + 0 * b + r =
          row_entry h b k first (i + t) 0 r (omega (arith, block_le, so.above)) (omega (arith, so.inside)) low in
          let entry' : blocked_place h b (i + t) (k + r) ≡ row_place h b (i + t) k + 0 * b + r = rw none at entry in
          let place : start + block_start h k + (row_start b (i - k + t) + r) ≡ start + blocked_place h b (i + t) (k + r) =
          omega (arith, entry', ap (λ z. place_in_block b z 0) row) in
          rw (sym e)
          (ap (λ z. get_or panel' z nan) at
          ∙ packed.lane t r few low
          ∙ same (row_start b (i - k + t) + r) (omega (arith, pack_room t few))
          ∙ ap (λ z. get_or m z nan) place)

-- ---- rows of the target

-- whole tiles of t rows: n − n % t rows are some of them, and so are those that one leaves; the last one leaves none
pub tiles_first : (n t : ℕ) → (n - n % t) % t ≡ 0
tiles_first n t =
    let e : n - n % t ≡ t * (n / t) + 0 = omega (arith, div-add-mod n t) in
    rw e (mul-add-mod_self_left t (n / t) 0 ∙ zero-mod t)

pub tiles_next : (n t : ℕ) → t ≤ n → n % t ≡ 0 → (n - t) % t ≡ 0
tiles_next n t fit e = sym (mod-eq-sub-mod fit) ∙ e

pub tiles_last : (n t : ℕ) → 0 < n → n ≤ t → n % t ≡ 0 → n ≡ t
tiles_last n t some fit e =
    elim (dec_lt n t) [
      | yes p ↦ absurd (omega (arith, mod-eq_of_lt p))
      | no p ↦ omega arith
    ]

rows_under : (w r t : ℕ) → w ≤ r → row_start w (r + t) ≡ row_start w r + t * w
rows_under w r t low = go (r - w) (omega arith)
  where
    go : (d : ℕ) → w + d ≡ r → row_start w (r + t) ≡ row_start w r + t * w
    go d e =
        let next : w + (d + t) ≡ r + t = omega arith in
        omega (arith, row_under w d, row_under w (d + t), ap (row_start w) e, ap (row_start w) next)

-- the rows that are worked on at once, `size` of them from row r on: `len` columns each, `stride` apart
pub record RowsAt (w s0 g r size stride len : ℕ) : Type 0 where
  pub place : (t : ℕ) → t < size → row_start w (r + t) ≡ row_start w r + t * stride
  pub columns : (t : ℕ) → t < size → len ≡ min g (r + t + 1 - s0)

pub tile_rows : (w s0 g r size : ℕ) → s0 + g ≤ w → w ≤ r → RowsAt w s0 g r size w g
tile_rows w s0 g r size wide low = record { place = λ t few. rows_under w r t low; columns = λ t few. omega arith }

pub single_row : (w s0 g r stride len : ℕ) → len ≡ min g (r + 1 - s0) → RowsAt w s0 g r 1 stride len
single_row w s0 g r stride len e =
    record {
      place = λ t few.
          let first : t ≡ 0 = omega arith in
          let same : r + 0 ≡ r = omega arith in
          rw (first, same) (omega arith);
      columns = λ t few. omega arith;
    }

module _ {size at w rows start h b corner count : ℕ} (so : RunBefore size at w rows start h b corner count) where
  pub rows_below : (r tile : ℕ) → r + tile ≤ rows → RowsBelow start h b corner count (h - rows + r) tile size
  rows_below r tile high =
      record {
        order = so.order;
        block = so.block;
        block_high = so.block_high;
        diagonal = so.diagonal;
        some = so.some;
        whole = so.whole;
        above = omega (arith, so.above);
        inside = omega (arith, so.above);
        size = so.size;
      }

  -- their places are the target's
  pub rows_room :
      {s0 g r tile stride len : ℕ} → RowsAt w s0 g r tile stride len → s0 + g ≤ w → s0 ≤ r → r + tile ≤ rows →
      (t : ℕ) → t < tile → at + row_start w r + s0 + t * stride + len ≤ size
  rows_room {r = r} here wide low high t few =
      omega (arith, here.place t few, here.columns t few, row_next w (r + t), row_mono w (r + t + 1) rows (omega arith), so.room)

  -- the run is before the target, and stays as it was while that is updated
  pub run_kept :
      {r s0 g count' : ℕ} {x : ℕ → ℕ → Float} {m m₁ : List Float} → PanelUpdated at w r s0 g x count' m m₁ →
      (q k : ℕ) → q < rows → k < count → run_at m₁ start h b (h - rows + q) k ≡ run_at m start h b (h - rows + q) k
  run_kept before q k inside few =
      before.outside (start + blocked_place h b (h - rows + q) k)
      (λ r' s' e z. omega (arith, so.before (h - rows + q) k (omega (arith, so.above)) (omega (arith, so.above)) few))

  -- where row r is
  pub row_high : (r s0 : ℕ) → r < rows → at + s0 + row_start w r ≤ size + s0
  row_high r s0 high = omega (arith, row_mono w r rows (omega arith), so.room)

module _
    {at w rows start h b corner count s0 g : ℕ} {m m₁ : List Float} (panel : List Float) (lanes : ℕ)
    (so : RunBefore (length m) at w rows start h b corner count) (wide : s0 + g ≤ w)
    (packed : RunPacked panel lanes m start h b (h - rows + s0) count g) (r size stride len : ℕ) (low : s0 ≤ r) (high : r + size ≤ rows)
    (before : PanelUpdated at w r s0 g (λ q. run_at m start h b (h - rows + q)) count m m₁)
    (here : RowsAt w s0 g r size stride len) where
  abbrev x : ℕ → ℕ → Float
  x = λ q. run_at m start h b (h - rows + q)

  row_kept : (t s : ℕ) → t < size → s0 ≤ s → s < s0 + g → s ≤ r + t → get_or m₁ (at + row_start w (r + t) + s) nan ≡ get_or m (at + row_start w (r + t) + s) nan
  row_kept t s few left right lower =
      before.outside (at + row_start w (r + t) + s)
      (λ r' s' e p.
      let same : (r + t ≡ r') × (s ≡ s') =
      row_apart w (r + t) r' s s' (omega arith) (omega (arith, e.lower, e.right)) (omega arith)
      in
      omega (arith, e.row))

  module _
      {m₂ : List Float}
      (grid :
      GridFilled (at + row_start w r + s0) stride size len
      (λ t s.
      minus_products (run_at m₁ start h b (h - rows + r + t)) (lane_at lanes panel s) count (get_or m₁ (at + row_start w r + s0 + t * stride + s) nan))
      m₁ m₂) where
    -- row r + t, column s0 + s
    entry_new :
        (t s : ℕ) → t < size → s < g → s0 + s ≤ r + t →
        get_or m₂ (at + row_start w (r + t) + (s0 + s)) nan
        ≡ minus_products (x (r + t)) (x (s0 + s)) count (get_or m (at + row_start w (r + t) + (s0 + s)) nan)
    entry_new t s few narrow lower =
        let place : at + row_start w r + s0 + t * stride + s ≡ at + row_start w (r + t) + (s0 + s) = omega (arith, here.place t few) in
        let row : h - rows + r + t ≡ h - rows + (r + t) = omega arith in
        let lane : h - rows + s0 + s ≡ h - rows + (s0 + s) = omega arith in
        let new : get_or m₂ (at + row_start w r + s0 + t * stride + s) nan
        ≡ minus_products (run_at m₁ start h b (h - rows + r + t)) (lane_at lanes panel s) count (get_or m₁ (at + row_start w r + s0 + t * stride + s) nan) =
        grid.inside t s few (omega (arith, here.columns t few)) in
        (rw (place, row) at new)
        ∙ products_same (run_at m₁ start h b (h - rows + (r + t))) (x (r + t)) (lane_at lanes panel s) (x (s0 + s)) count
        (get_or m₁ (at + row_start w (r + t) + (s0 + s)) nan) (λ k q. run_kept so before (r + t) k (omega arith) q)
        (λ k q. rw lane at (packed s k narrow q))
        ∙ ap (minus_products (x (r + t)) (x (s0 + s)) count) (row_kept t (s0 + s) few (omega arith) (omega arith) lower)

    pub rows_updated : PanelUpdated at w (r + size) s0 g x count m m₂
    rows_updated =
        record {
          kept = grid.size ∙ before.kept;
          inside = λ r' s' e.
              elim (dec_lt r' r) [
                | yes p ↦
                    grid.outside (at + row_start w r' + s')
                    (λ t s few narrow z. omega (arith, row_lt w r' (r + t) s' (omega arith) (omega (arith, e.lower, e.right)), here.place t few, here.columns t few))
                    ∙ before.inside r' s' (record { lower = e.lower; row = p; left = e.left; right = e.right })
                | no p ↦
                    let row : r + (r' - r) ≡ r' = omega arith in
                    let column : s0 + (s' - s0) ≡ s' = omega (arith, e.left) in
                    rw (row, column) at
                    (entry_new (r' - r) (s' - s0) (omega (arith, e.row)) (omega (arith, e.right, e.left)) (omega (arith, e.lower, e.left)))
              ];
          outside = λ p none.
              grid.outside p
              (λ t s few narrow z.
              none (r + t) (s0 + s)
              (record { lower = omega (arith, here.columns t few); row = omega arith; left = omega arith; right = omega (arith, here.columns t few) })
              (omega (arith, here.place t few)))
              ∙ before.outside p
              (λ r' s' e. none r' s' (record { lower = e.lower; row = omega (arith, e.row); left = e.left; right = e.right }));
        }
