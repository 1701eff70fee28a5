-- Values of a column move to the front of the same memory. Their rows stand in a list, and row 0 of the column would be at place `base`.
use Rattle.std.specs.Prelude.{ℕ, ◌+◌, ◌≤◌, ◌<◌, List, length, get_or, Float}
use Rattle.std.specs.Float.{nan}
use Rattle.calls.specs.Sequences.{Rising}

-- the values of the rows
abbrev pub rows_at : List Float → List ℕ → ℕ → ℕ → Float
rows_at m rows base = λ k. get_or m (base + get_or rows k 0) nan

-- They go to places to, to + 1, .. of a memory of the given size, and each stands there already or behind that place.
pub record Ahead (rows : List ℕ) (base to size : ℕ) : Type 0 where
  pub room : to + length rows ≤ size
  pub inside : (k : ℕ) → k < length rows → base + get_or rows k 0 < size
  pub ahead : (k : ℕ) → k < length rows → to + k ≤ base + get_or rows k 0

-- rising unknowns below n
pub record Unknowns (n : ℕ) (unknowns : List ℕ) : Type 0 where
  pub rising : Rising unknowns
  pub below : (i : ℕ) → i < length unknowns → get_or unknowns i 0 < n
