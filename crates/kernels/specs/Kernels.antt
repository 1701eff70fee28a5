-- What the loops over values promise. Of a matrix they know only where blocked order keeps a row, and the packed places of one.
use Rattle.std.specs.Prelude.{ℕ, ◌+◌, ◌-◌, ◌*◌, ◌≤◌, ◌<◌, ◌≡◌, ◌≢◌, List, [], length, get_or, Float}
use Rattle.std.specs.Float.{nan, binary64}
use Rattle.std.specs.Float.Ieee.{sub, mul}
use Rattle.shape.specs.Bounds.{max_order, max_block}
use Rattle.shape.specs.Places.{triangle, block_of, blocked_place}
use Rattle.calls.specs.Arithmetic.{minus_products}

-- the values from place x on
abbrev pub row_at : List Float → ℕ → ℕ → Float
row_at m x = λ k. get_or m (x + k) nan

-- lane s of a panel: value k of it is the panel's value lanes · k + s
abbrev pub lane_at : ℕ → List Float → ℕ → ℕ → Float
lane_at lanes panel s = λ k. get_or panel (lanes * k + s) nan

-- lane s of row r of a tile
abbrev pub tile_at : List (List Float) → ℕ → ℕ → Float
tile_at tile r s = get_or (get_or tile r []) s nan

-- the first `len` lanes of a tile's rows are f r s
abbrev pub TileIs : ℕ → ℕ → (ℕ → ℕ → Float) → List (List Float) → Type 0
TileIs rows len f tile = (r s : ℕ) → r < rows → s < len → tile_at tile r s ≡ f r s

-- t less the first products x(at + k)·y(k), k = 0, 1, .., of which `count` are taken
abbrev pub rising_from : List Float → ℕ → List Float → ℕ → Float → Float
rising_from x at y count t = minus_products (λ k. get_or x (at + k) nan) (λ k. get_or y k nan) count t

-- the same for k = length y − 1, length y − 2, ..
abbrev pub falling_from : List Float → ℕ → List Float → ℕ → Float → Float
falling_from x at y count t = minus_products (λ k. get_or x (at + (length y - 1 - k)) nan) (λ k. get_or y (length y - 1 - k) nan) count t

-- each value of v less that of x times y
pub record MultipleSubtracted (v x : List Float) (y : Float) (v' : List Float) : Type 0 where
  pub size : length v' ≡ length v
  pub value : (r : ℕ) → r < length v → get_or v' r nan ≡ sub binary64 (get_or v r nan) (mul binary64 (get_or x r nan) y)

-- zs is xs with the count elements from `from` on being f 0, f 1, ..
pub record Filled {A : Type 0} (d : A) (from count : ℕ) (f : ℕ → A) (xs zs : List A) : Type 0 where
  pub size : length zs ≡ length xs
  pub before : (i : ℕ) → i < from → get_or zs i d ≡ get_or xs i d
  pub inside : (r : ℕ) → r < count → get_or zs (from + r) d ≡ f r
  pub after : (i : ℕ) → from + count ≤ i → get_or zs i d ≡ get_or xs i d

-- those of ys
abbrev pub Replaced : {A : Type 0} → A → ℕ → ℕ → List A → List A → List A → Type 0
Replaced d from count xs ys zs = Filled d from count (λ r. get_or ys r d) xs zs

-- v' is v with the values f 0, f 1, .. at the first count places
pub record Scattered (count : ℕ) (place : ℕ → ℕ) (f : ℕ → Float) (v v' : List Float) : Type 0 where
  pub size : length v' ≡ length v
  pub inside : (s : ℕ) → s < count → get_or v' (place s) nan ≡ f s
  pub outside : (p : ℕ) → ((s : ℕ) → s < count → p ≢ place s) → get_or v' p nan ≡ get_or v p nan

-- m' is m with the values f r s in a grid: `rows` rows of `len` places each, row r from y + r · stride on
pub record GridFilled (y stride rows len : ℕ) (f : ℕ → ℕ → Float) (m m' : List Float) : Type 0 where
  pub size : length m' ≡ length m
  pub inside : (r s : ℕ) → r < rows → s < len → get_or m' (y + r * stride + s) nan ≡ f r s
  pub outside : (p : ℕ) → ((r s : ℕ) → r < rows → s < len → p ≢ y + r * stride + s) → get_or m' p nan ≡ get_or m p nan

-- row i of a matrix of order h in blocked order, with block columns of b columns, that begins at place `start`
abbrev pub run_at : List Float → ℕ → ℕ → ℕ → ℕ → ℕ → Float
run_at m start h b i = λ k. get_or m (start + blocked_place h b i k) nan

-- Rows i to i + rows − 1 of it are below its first `count` columns, which are whole block columns.
pub record RowsBelow (start h b corner count i rows len : ℕ) : Type 0 where
  pub order : h ≤ max_order
  pub block : 0 < b
  pub block_high : b ≤ max_block
  pub diagonal : corner ≡ triangle b
  pub some : 0 < count
  pub whole : block_of b count ≡ count
  pub above : count ≤ i
  pub inside : i + rows ≤ h
  pub size : start + triangle h ≤ len
