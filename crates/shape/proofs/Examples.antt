-- The places that document 01 and the drawings of specs/Places.antt state, as one table. Assumes nothing.
use mathlib.Core.Bool.{Bool, true, ◌&&◌}
use mathlib.Core.List.{List, [], ◌∷◌}
use Prim.Native.Nat.{ℕ, ◌+◌, ◌/◌, ◌%◌}
use lib.Dec.{T, eqb}
use Rattle.shape.specs.Places.{triangle, packed_place, blocked_place, rfp_rows, rfp_columns, rfp_row, rfp_column, rfp_place}

pub data Layout : Type 0 where
  packed : Layout
  blocked : ℕ → Layout
  rfp : ℕ → Layout

abbrev pub place_in : Layout → ℕ → ℕ → ℕ → ℕ
place_in packed n i j = packed_place n i j
place_in (blocked b) n i j = blocked_place n b i j
place_in (rfp form) n i j = rfp_place form n i j

-- `at l n i j p`: entry (i, j) of a triangle of order n is at place p. `filled l n entries`: the memory of that triangle, from place 0 to its end, has
-- these entries, ij standing for entry (i, j).
pub data Example : Type 0 where
  at : Layout → ℕ → ℕ → ℕ → ℕ → Example
  filled : Layout → ℕ → List ℕ → Example

abbrev pub filled_from : Layout → ℕ → ℕ → List ℕ → Bool
filled_from l n p [] = eqb p (triangle n)
filled_from l n p (ij ∷ rest) = eqb (place_in l n (ij / 10) (ij % 10)) p && filled_from l n (p + 1) rest

abbrev pub hold : List Example → Bool
hold [] = true
hold (at l n i j p ∷ rest) = eqb (place_in l n i j) p && hold rest
hold (filled l n entries ∷ rest) = filled_from l n 0 entries && hold rest

pub examples : List Example
examples =
    -- document 01: n 10, b 3
    at (blocked 3) 10 9 2 26
    ∷ at (blocked 3) 10 3 3 27
    ∷ at (blocked 3) 10 9 5 44
    ∷ at (blocked 3) 10 9 9 54
    -- the drawing: packed, n 5
    ∷ at packed 5 0 0 0
    ∷ at packed 5 1 0 1 ∷ at packed 5 1 1 5
    ∷ at packed 5 2 0 2 ∷ at packed 5 2 1 6 ∷ at packed 5 2 2 9
    ∷ at packed 5 3 0 3 ∷ at packed 5 3 1 7 ∷ at packed 5 3 2 10 ∷ at packed 5 3 3 12
    ∷ at packed 5 4 0 4 ∷ at packed 5 4 1 8 ∷ at packed 5 4 2 11 ∷ at packed 5 4 3 13 ∷ at packed 5 4 4 14
    -- the drawing: blocked, n 5, b 2
    ∷ at (blocked 2) 5 0 0 0
    ∷ at (blocked 2) 5 1 0 1 ∷ at (blocked 2) 5 1 1 2
    ∷ at (blocked 2) 5 2 0 3 ∷ at (blocked 2) 5 2 1 4 ∷ at (blocked 2) 5 2 2 9
    ∷ at (blocked 2) 5 3 0 5 ∷ at (blocked 2) 5 3 1 6 ∷ at (blocked 2) 5 3 2 10 ∷ at (blocked 2) 5 3 3 11
    ∷ at (blocked 2) 5 4 0 7 ∷ at (blocked 2) 5 4 1 8 ∷ at (blocked 2) 5 4 2 12 ∷ at (blocked 2) 5 4 3 13 ∷ at (blocked 2) 5 4 4 14
    -- source document 001's figures, lower and not transposed, column by column: n 6, n 7
    ∷ filled (rfp 0) 6
    (33 ∷ 00 ∷ 10 ∷ 20 ∷ 30 ∷ 40 ∷ 50 ∷ 43 ∷ 44 ∷ 11 ∷ 21 ∷ 31 ∷ 41 ∷ 51 ∷ 53 ∷ 54 ∷ 55 ∷ 22 ∷ 32 ∷ 42 ∷ 52 ∷ [])
    ∷ filled (rfp 0) 7
    (00 ∷ 10 ∷ 20 ∷ 30 ∷ 40 ∷ 50 ∷ 60 ∷ 44 ∷ 11 ∷ 21 ∷ 31 ∷ 41 ∷ 51 ∷ 61 ∷ 54 ∷ 55 ∷ 22 ∷ 32 ∷ 42 ∷ 52 ∷ 62 ∷ 64 ∷ 65 ∷ 66 ∷ 33 ∷ 43 ∷ 53 ∷ 63 ∷ [])
    -- and transposed
    ∷ filled (rfp 1) 6
    (33 ∷ 43 ∷ 53 ∷ 00 ∷ 44 ∷ 54 ∷ 10 ∷ 11 ∷ 55 ∷ 20 ∷ 21 ∷ 22 ∷ 30 ∷ 31 ∷ 32 ∷ 40 ∷ 41 ∷ 42 ∷ 50 ∷ 51 ∷ 52 ∷ [])
    ∷ filled (rfp 1) 7
    (00 ∷ 44 ∷ 54 ∷ 64 ∷ 10 ∷ 11 ∷ 55 ∷ 65 ∷ 20 ∷ 21 ∷ 22 ∷ 66 ∷ 30 ∷ 31 ∷ 32 ∷ 33 ∷ 40 ∷ 41 ∷ 42 ∷ 43 ∷ 50 ∷ 51 ∷ 52 ∷ 53 ∷ 60 ∷ 61 ∷ 62 ∷ 63 ∷ [])
    -- n 0, 1, 2 and 3
    ∷ filled (rfp 0) 0 [] ∷ filled (rfp 1) 0 []
    ∷ filled (rfp 0) 1 (00 ∷ []) ∷ filled (rfp 1) 1 (00 ∷ [])
    ∷ filled (rfp 0) 2 (11 ∷ 00 ∷ 10 ∷ []) ∷ filled (rfp 1) 2 (11 ∷ 00 ∷ 10 ∷ [])
    ∷ filled (rfp 0) 3 (00 ∷ 10 ∷ 20 ∷ 22 ∷ 11 ∷ 21 ∷ []) ∷ filled (rfp 1) 3 (00 ∷ 22 ∷ 10 ∷ 11 ∷ 20 ∷ 21 ∷ [])
    ∷ []

pub examples_hold : T (hold examples)
unfolding triangle packed_place blocked_place rfp_rows rfp_columns rfp_row rfp_column rfp_place examples
examples_hold = tt
