-- The trailing triangle, whose rows and columns are k or later: its entries, and the substitutions with it beside those with the whole triangle. Assumes
-- nothing.
use Prim.Native.Nat.{ℕ, ◌+◌, ◌-◌, ◌≤◌, ◌<◌}
use native.Mathlib.Nat.{zero-add, sub-zero}
use native.Mathlib.Omega.{arith}
use mathlib.Core.Path.{◌≡◌, sym, ap, ap₂, ◌∙◌}
use mathlib.Core.List.{List}
use lib.ListN.{get_or}
use lib.Ieee.{Float, nan, binary64, div}
use Rattle.shape.specs.Layouts.{Entry}
use Rattle.calls.specs.Triangles.{Triangle, entry, height, load, load_from, place_from}
use Rattle.calls.specs.Arithmetic.{minus_products, forward, backward}
use Rattle.calls.proofs.Sequences.{rising}
use Rattle.calls.proofs.Triangles.{load_same, entry_load}
use Rattle.calls.proofs.Columns.{products_same, minus_add}
use Rattle.calls.proofs.Entries.{forward_entry_lem, backward_entry_lem}

pub entry_from : (n k i j : ℕ) → Entry (n - k) i j → Entry n (k + i) (k + j)
entry_from n k i j e = record { lower = omega (arith, e.lower); inside = omega (arith, e.inside) }

pub trailing_entry :
    (place : ℕ → ℕ → ℕ) (n k : ℕ) (m : List Float) (i j : ℕ) → Entry (n - k) i j →
    entry (load_from k place n m) i j ≡ entry (load place (height n) n m) (k + i) (k + j)
trailing_entry place n k m i j e =
    entry_load (place_from k place) (n - k) m i j e ∙ sym (entry_load place n m (k + i) (k + j) (entry_from n k i j e))

-- the trailing triangle from 0 on is the whole
pub whole_from : (place : ℕ → ℕ → ℕ) (n : ℕ) (m : List Float) → load_from 0 place n m ≡ load place (height n) n m
whole_from place n m =
    rw (sub-zero n) (load_same (place_from 0 place) place n m (λ i j e. ap₂ place (zero-add i) (zero-add j)))

-- ---- rows counted from the last up

pub count_up : (n c q r : ℕ) → c + r + q + 1 ≡ n → n - c - 1 - r ≡ q
count_up n c q r e = omega arith

pub row_of_up : (n c k : ℕ) → c + k < n → c + (n - c - 1 - k) ≡ n - 1 - k
row_of_up n c k h = omega arith

pub row_and_up : (n c k : ℕ) → c + k < n → c + (n - c - 1 - k) + k + 1 ≡ n
row_and_up n c k h = omega arith

pub up_above : (n c q r k : ℕ) → c + r + q + 1 ≡ n → k < q → r ≤ n - c - 1 - k
up_above n c q r k e h = omega arith

pub up_inside : (n c k : ℕ) → c + k < n → n - c - 1 - k < n - c
up_inside n c k h = omega arith

module _ (n k : ℕ) (l l' : Triangle) (fits : k ≤ n) (same : (i j : ℕ) → Entry (n - k) i j → entry l' i j ≡ entry l (k + i) (k + j)) where
  diagonal : (i : ℕ) → i < n - k → entry l' i i ≡ entry l (k + i) (k + i)
  diagonal i h = same i i (record { lower = omega arith; inside = h })

  -- ---- forward: the rows from k on, the products of the columns before k being subtracted

  module _
      (rhs rhs' : List Float)
      (less : (i : ℕ) → i < n - k → get_or rhs' i nan ≡ minus_products (λ c. entry l (k + i) c) (λ c. get_or (forward n l rhs) c nan) k (get_or rhs (k + i) nan)) where
    abbrev y : ℕ → Float
    y c = get_or (forward n l rhs) c nan

    abbrev y' : ℕ → Float
    y' c = get_or (forward (n - k) l' rhs') c nan

    forward_row : (i : ℕ) → i < n - k → ((c : ℕ) → c < i → y' c ≡ y (k + c)) → y' i ≡ y (k + i)
    forward_row i h before =
        forward_entry_lem (n - k) l' rhs' i h
        ∙ ap₂ (div binary64)
        (ap (minus_products (λ c. entry l' i c) y' i) (less i h)
        ∙ products_same (λ c. entry l' i c) (λ c. entry l (k + i) (k + c)) y' (λ c. y (k + c)) i
        (minus_products (λ c. entry l (k + i) c) y k (get_or rhs (k + i) nan))
        (λ c p. same i c (record { lower = omega arith; inside = h })) before
        ∙ sym (minus_add (λ c. entry l (k + i) c) y k i (get_or rhs (k + i) nan)))
        (diagonal i h)
        ∙ sym (forward_entry_lem n l rhs (k + i) (omega arith))

    pub forward_trailing : (i : ℕ) → i < n - k → y' i ≡ y (k + i)
    forward_trailing = rising (λ i. y' i ≡ y (k + i)) (n - k) forward_row

  -- ---- backward: the rows from k on

  module _ (y y' : List Float) (right : (i : ℕ) → i < n - k → get_or y' i nan ≡ get_or y (k + i) nan) where
    abbrev x : ℕ → Float
    x c = get_or (backward n l y) c nan

    abbrev x' : ℕ → Float
    x' c = get_or (backward (n - k) l' y') c nan

    -- row i, of which q rows are below
    backward_row : (q i : ℕ) → k + i + q + 1 ≡ n → ((c : ℕ) → c < q → x' (n - k - 1 - c) ≡ x (n - 1 - c)) → x' i ≡ x (k + i)
    backward_row q i e below =
        let count : n - k - 1 - i ≡ q = count_up n k q i e in
        let count' : n - 1 - (k + i) ≡ q = omega arith in
        let inside : i < n - k = omega arith in
        backward_entry_lem (n - k) l' y' i inside
        ∙ ap₂ (div binary64)
        (ap₂ (minus_products (λ c. entry l' (n - k - 1 - c) i) (λ c. x' (n - k - 1 - c))) count (right i inside)
        ∙ products_same (λ c. entry l' (n - k - 1 - c) i) (λ c. entry l (n - 1 - c) (k + i)) (λ c. x' (n - k - 1 - c)) (λ c. x (n - 1 - c)) q
        (get_or y (k + i) nan)
        (λ c p.
        rw (row_of_up n k c (omega arith)) at
        (same (n - k - 1 - c) i (record { lower = up_above n k q i c e p; inside = up_inside n k c (omega arith) })))
        below
        ∙ ap (λ m. minus_products (λ c. entry l (n - 1 - c) (k + i)) (λ c. x (n - 1 - c)) m (get_or y (k + i) nan)) (sym count'))
        (diagonal i inside)
        ∙ sym (backward_entry_lem n l y (k + i) (omega arith))

    -- the row that has q rows below it
    row_up : (q : ℕ) → q < n - k → ((c : ℕ) → c < q → x' (n - k - 1 - c) ≡ x (n - 1 - c)) → x' (n - k - 1 - q) ≡ x (n - 1 - q)
    row_up q h below =
        let inside : k + q < n = omega arith in
        backward_row q (n - k - 1 - q) (row_and_up n k q inside) below ∙ ap x (row_of_up n k q inside)

    pub backward_trailing : (i : ℕ) → i < n - k → x' i ≡ x (k + i)
    backward_trailing i h =
        backward_row (n - 1 - (k + i)) i (omega arith)
        (λ c p. rising (λ q. x' (n - k - 1 - q) ≡ x (n - 1 - q)) (n - k) row_up c (omega arith))
