-- A matrix free of any layout, and how it is read from a memory and written over one. A layout gives the place of entry (i, j).
use Rattle.std.specs.Prelude.{ℕ, ◌+◌, ◌-◌, List, [], length, get_or, set, Float}
use Rattle.std.specs.Float.{nan}
use Rattle.shape.specs.Places.{packed_place, blocked_place}
use Rattle.calls.specs.declared.Layout.{Layout}
use Rattle.calls.specs.declared.Layout.TheVariants.{Packed, Blocked}
use Rattle.calls.specs.Sequences.{iterate, tabulate}

-- the columns, each from the diagonal down
abbrev pub Triangle : Type 0
Triangle = List (List Float)

unfoldable pub entry : Triangle → ℕ → ℕ → Float
entry t i j = get_or (get_or t j []) (i - j) nan

-- the length of column j of a lower triangle of order n
unfoldable pub height : ℕ → ℕ → ℕ
height n j = n - j

unfoldable pub place_of : Layout → ℕ → ℕ → ℕ → ℕ → ℕ
place_of Packed n b = packed_place n
place_of Blocked n b = blocked_place n b

-- the places of the trailing triangle, whose rows and columns are k or later and count from there
abbrev pub place_from : ℕ → (ℕ → ℕ → ℕ) → ℕ → ℕ → ℕ
place_from k place i j = place (k + i) (k + j)

-- n columns of the given heights, read from memory
unfoldable pub load : (ℕ → ℕ → ℕ) → (ℕ → ℕ) → ℕ → List Float → Triangle
load place height_of n memory = tabulate n (λ j. tabulate (height_of j) (λ r. get_or memory (place (j + r) j) nan))

-- the trailing triangle of a lower triangle of order n, itself one of order n − k
abbrev pub load_from : ℕ → (ℕ → ℕ → ℕ) → ℕ → List Float → Triangle
load_from k place n memory = load (place_from k place) (height (n - k)) (n - k) memory

-- a column, and a triangle column by column, written over memory, which stays as it was elsewhere
unfoldable pub store_column : (ℕ → ℕ → ℕ) → ℕ → List Float → List Float → List Float
store_column place j column memory = iterate (λ r m. set m (place (j + r) j) (get_or column r nan)) (length column) memory

unfoldable pub store : (ℕ → ℕ → ℕ) → Triangle → List Float → List Float
store place t memory = iterate (λ j m. store_column place j (get_or t j []) m) (length t) memory

-- the lower triangle of order n that a source holds by one layout, written over a target by another
abbrev pub transfer : (ℕ → ℕ → ℕ) → (ℕ → ℕ → ℕ) → ℕ → List Float → List Float → List Float
transfer from to n source target = store to (load from (height n) n source) target
