-- A layout is a function from entries to places, and keeps the entries of a triangle of order n apart in exactly triangle n places.
use Rattle.std.specs.Prelude.{ℕ, ◌+◌, ◌-◌, ◌*◌, ◌≤◌, ◌<◌, ◌≡◌}
use Rattle.shape.specs.Places.{triangle, rfp_place}

-- an entry of the lower triangle
pub record Entry (n i j : ℕ) : Type 0 where
  pub lower : j ≤ i
  pub inside : i < n

pub record Bijection (place : ℕ → ℕ → ℕ) (n : ℕ) : Type 0 where
  pub below : (i j : ℕ) → Entry n i j → place i j < triangle n
  pub apart : (i j i' j' : ℕ) → Entry n i j → Entry n i' j' → place i j ≡ place i' j' → (i ≡ i') × (j ≡ j')
  pub onto : (p : ℕ) → p < triangle n → (i : ℕ) × (j : ℕ) × Entry n i j × (place i j ≡ p)

-- In an array of `rows` rows and `columns` columns position (r, c) of form 0, and so (c, r) of its transpose, holds entry (i, j).
pub record Holds (n rows columns r c i j : ℕ) : Type 0 where
  pub entry : Entry n i j
  pub form0 : rfp_place 0 n i j ≡ r + c * rows
  pub form1 : rfp_place 1 n i j ≡ c + r * columns

-- Document 02, (h): for n = 2k position (r, c) of the n + 1 rows and k columns holds entry (r − 1, c) if r > c, else (k + c, k + r); for n = 2k + 1
-- that of the n rows and k + 1 columns holds entry (r, c) if r ≥ c, else (k + c, k + 1 + r).
pub record RectangularFullPacked (k : ℕ) : Type 0 where
  pub even_lower : (r c : ℕ) → r < 2 * k + 1 → c < k → c < r → Holds (2 * k) (2 * k + 1) k r c (r - 1) c
  pub even_upper : (r c : ℕ) → r < 2 * k + 1 → c < k → r ≤ c → Holds (2 * k) (2 * k + 1) k r c (k + c) (k + r)
  pub odd_lower : (r c : ℕ) → r < 2 * k + 1 → c < k + 1 → c ≤ r → Holds (2 * k + 1) (2 * k + 1) (k + 1) r c r c
  pub odd_upper : (r c : ℕ) → r < 2 * k + 1 → c < k + 1 → r < c → Holds (2 * k + 1) (2 * k + 1) (k + 1) r c (k + c) (k + 1 + r)
