-- What the steps of the blocked factor promise of a block column of width w in a memory: it starts at place `at`, and row r of it, which is
-- row c + r of the matrix, at row_start w r from there.
use Rattle.std.specs.Prelude.{ℕ, ◌+◌, ◌-◌, ◌*◌, ◌≤◌, ◌<◌, ◌≡◌, ◌≢◌, Bool, false, List, T, length, get_or, Float}
use Rattle.std.specs.Float.{nan, binary64}
use Rattle.std.specs.Float.Ieee.{div}
use Rattle.binary64.specs.Kinds.{finite}
use Rattle.binary64.specs.Root.{root}
use Rattle.binary64.specs.declared.Pivot.{Pivot}
use Rattle.binary64.specs.declared.Pivot.TheVariants.{Root, Refused}
use Rattle.shape.specs.Places.{place_in_block}
use Rattle.calls.specs.Sequences.{tabulate, all}
use Rattle.calls.specs.Arithmetic.{minus_products}
use Rattle.kernels.specs.Kernels.{row_at, lane_at}

abbrev pub row_start : ℕ → ℕ → ℕ
row_start w r = place_in_block w r 0

-- the first `count` places are as they were
pub record SameTo (count : ℕ) (m m' : List Float) : Type 0 where
  pub at : (p : ℕ) → p < count → get_or m' p nan ≡ get_or m p nan

-- the first g of 16 lanes of a panel hold rows of the block column at place 0, from row `first` on
abbrev pub LanesHold : List Float → List Float → ℕ → ℕ → ℕ → ℕ → Type 0
LanesHold panel m w first count g = (t k : ℕ) → t < g → k < count → lane_at 16 panel t k ≡ row_at m (row_start w (first + t)) k

-- a panel has got those rows as its first g lanes, from place `at` on, and is as it was before that place
pub record Packed (panel panel' : List Float) (at lanes : ℕ) (m : List Float) (w first count g : ℕ) : Type 0 where
  pub size : length panel' ≡ length panel
  pub lane : (t k : ℕ) → t < g → k < count → get_or panel' (at + lanes * k + t) nan ≡ row_at m (row_start w (first + t)) k
  pub before : (p : ℕ) → p < at → get_or panel' p nan ≡ get_or panel p nan

-- column s of row r is one of g columns from s0 on, of the first h rows
pub record InPanel (h s0 g r s : ℕ) : Type 0 where
  pub lower : s ≤ r
  pub row : r < h
  pub left : s0 ≤ s
  pub right : s < s0 + g

-- The first `count` products x r k · x s k are subtracted from entry (r, s) of those columns, and all else is as it was.
pub record PanelUpdated (at w h s0 g : ℕ) (x : ℕ → ℕ → Float) (count : ℕ) (m m' : List Float) : Type 0 where
  pub kept : length m' ≡ length m
  pub inside :
      (r s : ℕ) → InPanel h s0 g r s →
      get_or m' (at + row_start w r + s) nan ≡ minus_products (x r) (x s) count (get_or m (at + row_start w r + s) nan)
  pub outside :
      (p : ℕ) → ((r s : ℕ) → InPanel h s0 g r s → p ≢ at + row_start w r + s) → get_or m' p nan ≡ get_or m p nan

-- From here on the block column starts at place 0. Entry (r, s) less its products with columns s0 .. s − 1.
abbrev pub less_panel : ℕ → ℕ → List Float → ℕ → ℕ → Float
less_panel w s0 m r s =
    minus_products (row_at m (row_start w r + s0)) (row_at m (row_start w s + s0)) (s - s0) (get_or m (row_start w r + s) nan)

-- The rows from `from` to `to` − 1 of column s are divided by its diagonal, and nothing else changes.
pub record ColumnDivided (w s0 s from to : ℕ) (m m' : List Float) : Type 0 where
  pub kept : length m' ≡ length m
  pub rows :
      (r : ℕ) → from ≤ r → r < to →
      get_or m' (row_start w r + s) nan ≡ div binary64 (less_panel w s0 m r s) (get_or m (row_start w s + s) nan)
  pub outside : (p : ℕ) → ((r : ℕ) → from ≤ r → r < to → p ≢ row_start w r + s) → get_or m' p nan ≡ get_or m p nan

-- the root of a judged pivot, whatever the pivot is
abbrev pub root_of : Pivot → Float
root_of (Root d e) = d
root_of (Refused v) = root v

-- the entries below the diagonal of column s are finite
abbrev pub column_finite : ℕ → ℕ → List Float → ℕ → Bool
column_finite w h m s = all finite (tabulate (h - (s + 1)) (λ i. get_or m (row_start w (s + 1 + i) + s) nan))

-- the lowest column of which they are not, or w
pub record LowestOverflow (w h : ℕ) (m : List Float) (s : ℕ) : Type 0 where
  pub inside : s ≤ w
  pub before : (k : ℕ) → k < s → T (column_finite w h m k)
  pub here : s < w → column_finite w h m s ≡ false
