-- What a transfer of entries from a source to a target memory promises, whatever the two layouts are. `Held` says which entries the memories hold.
use Rattle.std.specs.Prelude.{ℕ, ◌≤◌, ◌<◌, ◌≡◌, List, get_or, Float}
use Rattle.std.specs.Float.{nan}

-- entry (i, j) of the target is that of the source
abbrev pub Same : (ℕ → ℕ → ℕ) → (ℕ → ℕ → ℕ) → List Float → List Float → ℕ → ℕ → Type 0
Same from to source target i j = get_or target (to i j) nan ≡ get_or source (from i j) nan

-- The entries of rows first .. end − 1 and columns left .. right − 1 were moved, and no entry that had been moved before was lost.
pub record Transferred (from to : ℕ → ℕ → ℕ) (Held : ℕ → ℕ → Type 0) (first end left right : ℕ) (source target target' : List Float) : Type 0 where
  pub moved : (i j : ℕ) → Held i j → first ≤ i → i < end → left ≤ j → j < right → Same from to source target' i j
  pub kept : (i j : ℕ) → Held i j → Same from to source target i j → Same from to source target' i j
