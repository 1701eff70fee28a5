-- What is promised of a block column, the target, less the products of a run: the first `count` columns, whole block columns of b, of a matrix of
-- order h in blocked order that begins at `start` of the memory. The target's rows are the last of its h rows.
use Rattle.std.specs.Prelude.{ℕ, ◌+◌, ◌≤◌, ◌<◌, ◌≡◌, cond, List, ltb, Float}
use Rattle.shape.specs.Bounds.{max_order, max_block}
use Rattle.shape.specs.Places.{triangle, block_of, blocked_place}
use Rattle.kernels.specs.Kernels.{run_at, lane_at}
use Rattle.blocked_factor.specs.BlockColumns.{row_start}

-- the lanes and the rows of a tile for g columns
abbrev pub lanes_of : ℕ → ℕ
lanes_of g = cond (ltb 8 g) 16 (cond (ltb 6 g) 8 (cond (ltb 4 g) 6 (cond (ltb 2 g) 4 2)))

abbrev pub rows_of : ℕ → ℕ
rows_of g = cond (ltb 8 g) 1 (cond (ltb 4 g) 2 (cond (ltb 2 g) 4 8))

-- the first g lanes of a panel hold the run's rows from row i on
abbrev pub RunPacked : List Float → ℕ → List Float → ℕ → ℕ → ℕ → ℕ → ℕ → ℕ → Type 0
RunPacked panel lanes m start h b i count g = (t k : ℕ) → t < g → k < count → lane_at lanes panel t k ≡ run_at m start h b (i + t) k

-- the run is before the target, which has w columns and `rows` rows and begins at place `at`
pub record RunBefore (len at w rows start h b corner count : ℕ) : Type 0 where
  pub order : h ≤ max_order
  pub block : 0 < b
  pub block_high : b ≤ max_block
  pub diagonal : corner ≡ triangle b
  pub some : 0 < count
  pub whole : block_of b count ≡ count
  pub above : count + rows ≤ h
  pub size : start + triangle h ≤ len
  pub tall : w ≤ rows
  pub room : at + row_start w rows ≤ len
  pub before : (i k : ℕ) → count ≤ i → i < h → k < count → start + blocked_place h b i k < at
