-- Document 02, (m): the matrices whose packed entries are whole numbers from −2 to 2, by number: the first packed entry slowest and −2 first.
use Rattle.std.specs.Prelude.{ℕ, zero, suc, ◌/◌, ◌%◌, ◌^◌, ◌≤◌, ◌<◌, ◌≡◌, List, [], ◌∷◌, ◌++◌, map, ℤ, pos, nat_abs, ◌+ℤ◌, ◌-ℤ◌, length, get_or, Float}
use Rattle.std.specs.Float.{binary64}
use Rattle.std.specs.Float.Ieee.{of_int}
use Rattle.shape.specs.Places.{triangle}

-- a digit of base 5 as a whole number: 0 is −2, 4 is 2
abbrev pub whole_of : ℕ → ℤ
whole_of digit = pos digit -ℤ pos 2

-- the last digits of t, as many as are asked for, as whole numbers, the last digit last
unfoldable pub wholes : ℕ → ℕ → List ℤ
wholes zero t = []
wholes (suc k) t = wholes k (t / 5) ++ (whole_of (t % 5) ∷ [])

-- the packed entries of matrix number t of order n, as whole numbers
abbrev pub entries : ℕ → ℕ → List ℤ
entries n t = wholes (triangle n) t

-- and in binary64, zeros as +0
abbrev pub values : List ℤ → List Float
values xs = map (of_int binary64) xs

-- how many matrices of order n there are: their numbers are those below
unfoldable pub total : ℕ → ℕ
total n = 5 ^ triangle n

-- ---- each appears exactly once and none is left out

-- count whole numbers from −2 to 2
pub record Small (count : ℕ) (xs : List ℤ) : Type 0 where
  pub size : length xs ≡ count
  pub within : (p : ℕ) → p < count → nat_abs (get_or xs p (pos 0)) ≤ 2

-- the entries xs are those of one number below the total, and of no other
pub record Once (n : ℕ) (xs : List ℤ) : Type 0 where
  pub number : ℕ
  pub below : number < total n
  pub there : entries n number ≡ xs
  pub alone : (t : ℕ) → t < total n → entries n t ≡ xs → t ≡ number

abbrev pub EachOnce : Type 0
EachOnce = (n : ℕ) (xs : List ℤ) → Small (triangle n) xs → Once n xs

abbrev pub OnlySmall : Type 0
OnlySmall = (n t : ℕ) → Small (triangle n) (entries n t)

-- ---- in which order

-- y is x plus a number above zero
abbrev pub Less : ℤ → ℤ → Type 0
Less x y = (d : ℕ) × (y ≡ x +ℤ pos (suc d))

-- at the first position where they differ, xs has the lesser entry
pub record Precedes (xs ys : List ℤ) : Type 0 where
  pub position : ℕ
  pub inside : position < length xs
  pub same : (p : ℕ) → p < position → get_or xs p (pos 0) ≡ get_or ys p (pos 0)
  pub less : Less (get_or xs position (pos 0)) (get_or ys position (pos 0))

abbrev pub InOrder : Type 0
InOrder = (n t u : ℕ) → t < u → u < total n → Precedes (entries n t) (entries n u)
