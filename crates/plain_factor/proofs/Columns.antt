-- A column of packed memory, written row by row from work memory that has row i at i. Assumes nothing.
use Prim.Native.Nat.{ℕ, suc, ◌+◌, ◌-◌, ◌≤◌}
use native.Mathlib.Nat.{sub_self}
use native.Mathlib.Omega.{arith}
use mathlib.Core.Path.{◌≡◌}
use mathlib.Core.List.{List}
use lib.ListN.{length, get_or, set, drop, length-drop}
use lib.Seq.{get_or-drop}
use lib.Ieee.{Float, nan}
use Rattle.shape.specs.Places.{packed_place}
use Rattle.calls.specs.Sequences.{iterate}
use Rattle.calls.specs.Triangles.{store_column}
use Rattle.calls.proofs.Writes.{writes}
use Rattle.plain_factor.proofs.Rows.{row_place_lem}

-- a write more, of a run of writes
write_more :
    (place : ℕ → ℕ) (value : ℕ → Float) (m s : List Float) (r next p : ℕ) (x : Float) →
    s ≡ writes place value r m → next ≡ r + 1 → p ≡ place r → x ≡ value r → set s p x ≡ writes place value next m
unfolding iterate
write_more place value m s r next p x e step at v =
    let count : next ≡ suc r = omega arith in
    rw (e, count, at, v)

module _ (n j : ℕ) (w m : List Float) where
  -- the rows from j to i − 1 are written
  abbrev pub rows_stored : ℕ → List Float
  rows_stored i = writes (λ r. packed_place n (j + r) j) (λ r. get_or (drop j w) r nan) (i - j) m

  pub rows_stored_none : m ≡ rows_stored j
  unfolding iterate
  rows_stored_none = rw sub_self

  pub rows_stored_next :
      (i base : ℕ) (s : List Float) → j ≤ i → base ≡ packed_place n 0 j → s ≡ rows_stored i → set s (base + i) (get_or w i nan) ≡ rows_stored (i + 1)
  rows_stored_next i base s low e before =
      let row : j + (i - j) ≡ i = omega arith in
      write_more (λ r. packed_place n (j + r) j) (λ r. get_or (drop j w) r nan) m s (i - j) (i + 1 - j) (base + i) (get_or w i nan) before (omega arith)
      (rw (row, row_place_lem n i j, e)) (rw (get_or-drop, row))

  pub rows_stored_all : (s : List Float) → length w ≡ n → s ≡ rows_stored n → s ≡ store_column (packed_place n) j (drop j w) m
  unfolding store_column
  rows_stored_all s size before = rw (length-drop j w, size) before
