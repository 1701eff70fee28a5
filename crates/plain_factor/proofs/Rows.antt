-- The rows of a column of packed memory: where they stand, and how they are reduced by more columns. Row i of column k is i places past
-- packed_place n 0 k. Assumes nothing.
use Prim.Native.Nat.{ℕ, ◌+◌, ◌-◌, ◌≤◌, ◌<◌}
use native.Mathlib.Omega.{arith}
use native.Mathlib.Decide.{dec_lt}
use mathlib.Core.Path.{◌≡◌, refl, sym, ap, ◌∙◌}
use mathlib.Core.List.{List}
use lib.ListN.{length, get_or, set}
use lib.Ieee.{Float, nan, binary64, mul, sub}
use Rattle.shape.specs.Places.{triangle, packed_place}
use Rattle.shape.specs.Layouts.{Entry}
use Rattle.shape.proofs.Columns.{packed_place_next_diagonal}
use Rattle.shape.proofs.Bijections.{packed_bijection}
use Rattle.calls.specs.Arithmetic.{minus_products}
use Rattle.kernels.specs.Kernels.{Replaced}
use Rattle.kernels.proofs.Parts.{filled_none, filled_next, filled_same, filled_here}
use Rattle.calls.proofs.Columns.{minus_add}
use Rattle.kernels.proofs.Products.{minus_none, minus_next}
use Rattle.plain_factor.specs.Steps.{Packed, less_products, reduced, Waiting, TileReduced, RowsReduced, GroupReduced, PairReduced}

-- ---- places

pub row_place_lem : (n i k : ℕ) → packed_place n i k ≡ packed_place n 0 k + i
unfolding packed_place
row_place_lem n i k = omega arith

row_place_next : (n k : ℕ) → k + 1 ≤ n → packed_place n 0 (k + 1) ≡ packed_place n 0 k + (n - k - 1)
row_place_next n k h =
    omega (arith, packed_place_next_diagonal n k (omega arith), row_place_lem n k k, row_place_lem n (k + 1) (k + 1))

-- in the memory, whether or not the row is one of the column
pub row_place_lt : (n i k : ℕ) → k < n → i < n → packed_place n 0 k + i < triangle n
row_place_lt n i k h inside =
    let last : Entry n (n - 1) k = record { lower = omega arith; inside = omega arith } in
    omega (arith, (packed_bijection n).below (n - 1) k last, row_place_lem n (n - 1) k)

-- all rows of column k stand in the memory
pub column_fits : {n : ℕ} {m : List Float} (k start : ℕ) → Packed n m → start ≡ packed_place n 0 k → k < n → start + n ≤ length m
column_fits {n} k start s e h = omega (arith, row_place_lt n (n - 1) k h (omega arith), s.size)

-- column k + c + 1 starts as far past column k + c as that has rows below its diagonal
pub start_next : (n k c start : ℕ) → k + c < n → start ≡ packed_place n 0 (k + c) → start + (n - k - c - 1) ≡ packed_place n 0 (k + (c + 1))
start_next n k c start h e =
    let up : k + (c + 1) ≡ k + c + 1 = omega arith in
    rw up (omega (arith, row_place_next n (k + c) (omega arith)))

-- ---- reduction by more columns

module _ (n : ℕ) (m : List Float) (j : ℕ) where
  pub reduced_none : (i : ℕ) → get_or m (packed_place n 0 j + i) nan ≡ reduced n m j 0 i
  unfolding reduced
  reduced_none i = ap (λ p. get_or m p nan) (sym (row_place_lem n i j)) ∙ sym (minus_none _ _ _)

  -- a row from `from` on, read
  pub row_loaded : (start from r : ℕ) → start ≡ packed_place n 0 j → get_or m (start + from + r) nan ≡ reduced n m j 0 (from + r)
  row_loaded start from r e =
      let place : start + from + r ≡ packed_place n 0 j + (from + r) = omega arith in
      rw place (reduced_none (from + r))

  reduced_next :
      (k i start : ℕ) (t : Float) → start ≡ packed_place n 0 k → t ≡ reduced n m j k i →
      sub binary64 t (mul binary64 (get_or m (start + i) nan) (get_or m (start + j) nan)) ≡ reduced n m j (k + 1) i
  unfolding reduced
  reduced_next k i start t e h = rw (minus_next, e, h, row_place_lem n i k, row_place_lem n j k)

  -- the rows that wait, reduced by column j − 1 too
  pub waiting_next :
      (top last : ℕ) (w : List Float) → 0 < j → last ≡ packed_place n 0 (j - 1) → Waiting n m j (j - 1) top w → (i : ℕ) → top ≤ i → i < n →
      sub binary64 (get_or w (i - top) nan) (mul binary64 (get_or m (last + i) nan) (get_or m (last + j) nan)) ≡ reduced n m j j i
  waiting_next top last w pos e waiting i low h =
      let row : top + (i - top) ≡ i = omega arith in
      let all : j - 1 + 1 ≡ j = omega arith in
      rw all at (reduced_next (j - 1) i last (get_or w (i - top) nan) e (rw row at (waiting (i - top) (omega arith))))

  pub reduced_more : (k count i : ℕ) (x : Float) → x ≡ reduced n m j k i → less_products n m j k count i x ≡ reduced n m j (k + count) i
  unfolding reduced less_products
  reduced_more k count i x e =
      ap (minus_products (λ c. row (k + c)) (λ c. pivot (k + c)) count) e ∙ sym (minus_add row pivot k count (get_or m (packed_place n i j) nan))
    where
      row : ℕ → Float
      row c = get_or m (packed_place n i c) nan

      pivot : ℕ → Float
      pivot c = get_or m (packed_place n j c) nan

  module _ (k : ℕ) where
    pub less_none : (i : ℕ) (x : Float) → x ≡ less_products n m j k 0 i x
    unfolding less_products
    less_none i x = sym (minus_none _ _ x)

    pub less_next :
        (c i start : ℕ) (x t : Float) → start ≡ packed_place n 0 (k + c) → t ≡ less_products n m j k c i x →
        sub binary64 t (mul binary64 (get_or m (start + i) nan) (get_or m (start + j) nan)) ≡ less_products n m j k (c + 1) i x
    unfolding less_products
    less_next c i start x t e h = rw (minus_next, e, h, row_place_lem n i (k + c), row_place_lem n j (k + c))

    pub tile_next :
        (width c i start : ℕ) (tile t t' : List Float) → start ≡ packed_place n 0 (k + c) → TileReduced width n m j k c i tile t →
        ((r : ℕ) → r < width → get_or t' r nan ≡ sub binary64 (get_or t r nan) (mul binary64 (get_or m (start + i + r) nan) (get_or m (start + j) nan))) →
        TileReduced width n m j k (c + 1) i tile t'
    tile_next width c i start tile t t' e before step r h =
        let here : start + i + r ≡ start + (i + r) = omega arith in
        step r h
        ∙ ap (λ p. sub binary64 (get_or t r nan) (mul binary64 (get_or m p nan) (get_or m (start + j) nan))) here
        ∙ less_next c (i + r) start (get_or tile r nan) (get_or t r nan) e (before r h)

    pub part_stored :
        (width count i s : ℕ) (w w' tile tile' : List Float) → ((r : ℕ) → r < width → get_or tile r nan ≡ get_or w (s + r) nan) →
        TileReduced width n m j k count i tile tile' →
        Replaced nan s width w tile' w' → RowsReduced n m j k count i s width w w'
    part_stored width count i s w w' tile tile' loaded done =
        filled_same nan s width (λ r. get_or tile' r nan) (λ r. less_products n m j k count (i + r) (get_or w (s + r) nan)) w w'
        (λ r h. done r h ∙ ap (less_products n m j k count (i + r)) (loaded r h))

-- ---- more rows

module _ (n : ℕ) (m : List Float) (j k count : ℕ) where
  -- what row i at place i becomes
  abbrev row : List Float → ℕ → Float
  row w i = less_products n m j k count i (get_or w i nan)

  -- a row alone, at its place
  pub row_stored :
      (i : ℕ) (w : List Float) (x : Float) → i < length w → x ≡ less_products n m j k count (i + 0) (get_or w i nan) →
      RowsReduced n m j k count i i 1 w (set w i x)
  row_stored i w x fit e =
      let here : i + 0 ≡ i = omega arith in
      let value : ℕ → Float = λ r. less_products n m j k count (i + r) (get_or w (i + r) nan) in
      rw here at
      (filled_next nan i value w 0 w x (omega arith) (filled_none nan i value w)
      (e ∙ ap (λ p. less_products n m j k count (i + 0) (get_or w p nan)) (sym here)))

  pub group_none : (w : List Float) → GroupReduced n m j k count j w w
  group_none w = record { rows = λ i low h. absurd (omega arith); before = λ p low h. refl; after = λ p low h. refl }

  pub group_next :
      (i c : ℕ) (w₀ w w' : List Float) → j ≤ i + 15 → i + c ≤ n → GroupReduced n m j k count i w₀ w → RowsReduced n m j k count i i c w w' →
      GroupReduced n m j k count (i + c) w₀ w'
  group_next i c w₀ w w' near le so more =
      record {
        rows = λ q low h.
            elim (dec_lt q i) [
              | yes p ↦ more.before q p ∙ so.rows q low p
              | no p ↦
                  filled_here nan (row w) more q (omega arith) (omega arith)
                  ∙ ap (less_products n m j k count q) (so.after q (omega arith) (omega arith))
            ];
        before = λ p low h. more.before p (omega arith) ∙ so.before p low h;
        after = λ p low h. more.after p (omega arith) ∙ so.after p (omega arith) h;
      }

  pub pair_none : (top : ℕ) (w : List Float) → PairReduced n m j k count top 0 w w
  pair_none top w =
      record {
        column = λ i low h. absurd (omega arith);
        front = λ r h. absurd (omega arith);
        between = λ p low h. refl;
        after = λ p low h. refl;
      }

  pub pair_next :
      (top i : ℕ) (w₀ w w₁ w₂ : List Float) → top ≤ i → i + 16 ≤ n → i - top + 16 ≤ top → PairReduced n m j k count top (i - top) w₀ w →
      RowsReduced n m j k count i i 16 w w₁ → RowsReduced n m (j + 1) k count i (i - top) 16 w₁ w₂ →
      PairReduced n m j k count top (i + 16 - top) w₀ w₂
  pair_next top i w₀ w w₁ w₂ low fit room so first second =
      record {
        column = λ q h h'.
            second.after q (omega arith)
            ∙ elim (dec_lt q i) [
              | yes p ↦ first.before q p ∙ so.column q h (omega arith)
              | no p ↦
                  filled_here nan (row w) first q (omega arith) (omega arith)
                  ∙ ap (less_products n m j k count q) (so.after q (omega arith) (omega arith))
            ];
        front = λ r h.
            elim (dec_lt r (i - top)) [
              | yes p ↦ second.before r p ∙ first.before r (omega arith) ∙ so.front r p
              | no p ↦
                  let place : i - top + (r - (i - top)) ≡ r = omega arith in
                  let here : i + (r - (i - top)) ≡ top + r = omega arith in
                  rw (place, here) at (second.inside (r - (i - top)) (omega arith))
                  ∙ ap (less_products n m (j + 1) k count (top + r)) (first.before r (omega arith) ∙ so.between r (omega arith) (omega arith))
            ];
        between = λ p h h'. second.after p (omega arith) ∙ first.before p (omega arith) ∙ so.between p (omega arith) h';
        after = λ p h h'. second.after p (omega arith) ∙ first.after p (omega arith) ∙ so.after p (omega arith) h';
      }
