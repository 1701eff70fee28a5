-- How far a substitution has come, and that a finished block column takes it further. Assumes nothing.
use Prim.Native.Nat.{ℕ, zero, suc, ◌+◌, ◌-◌, ◌≤◌, ◌<◌}
use native.Mathlib.Nat.{zero-add, sub-zero}
use native.Mathlib.Omega.{arith}
use native.Mathlib.Decide.{dec_lt}
use mathlib.Core.Path.{◌≡◌, refl, sym, ap, ap₂, ◌∙◌}
use mathlib.Core.List.{List, ◌++◌}
use lib.ListN.{length, get_or, take, drop, get_or-eq_default}
use lib.Seq.{ext_get_or}
use lib.Ieee.{Float, nan, binary64, div}
use Rattle.shape.specs.Layouts.{Entry}
use Rattle.calls.specs.Triangles.{Triangle, entry}
use Rattle.calls.specs.Arithmetic.{minus_products, forward, backward}
use Rattle.calls.proofs.Columns.{products_same, minus_add}
use Rattle.calls.proofs.Entries.{length_forward, forward_entry_lem, length_backward, backward_entry_lem}
use Rattle.calls.proofs.Trailing.{count_up, row_of_up, row_and_up, up_above, forward_trailing, backward_trailing}
use Rattle.kernels.specs.Kernels.{Replaced}
use Rattle.kernels.proofs.Parts.{get_d_part, length_part, part_replaced}
use Rattle.kernels.proofs.Products.{minus_none}
use Rattle.solve.specs.Substitution.{TriangleForward, RowsSubtracted, ForwardDone, ProductsSubtracted, BackwardDone}

-- the block column that begins with column c has the factor's entries
abbrev pub Agrees : ℕ → ℕ → ℕ → Triangle → (ℕ → ℕ → Float) → Type 0
Agrees n c w l coefficient = (r s : ℕ) → s < w → s ≤ r → c + r < n → coefficient r s ≡ entry l (c + r) (c + s)

-- ---- forward

-- the rows before c are finished, and from the others the products of the columns before c are subtracted
pub record ForwardTo (n : ℕ) (l : Triangle) (rhs : List Float) (c : ℕ) (work : List Float) : Type 0 where
  pub size : length work ≡ n
  pub done : (i : ℕ) → i < c → get_or work i nan ≡ get_or (forward n l rhs) i nan
  pub rest :
      (i : ℕ) → c ≤ i → i < n →
      get_or work i nan ≡ minus_products (λ k. entry l i k) (λ k. get_or (forward n l rhs) k nan) c (get_or rhs i nan)

pub forward_start : (n : ℕ) (l : Triangle) (rhs : List Float) → length rhs ≡ n → ForwardTo n l rhs 0 rhs
forward_start n l rhs e =
    record { size = e; done = λ i h. absurd (omega arith); rest = λ i p h. sym (minus_none _ _ _) }

pub forward_end : (n : ℕ) (l : Triangle) (rhs work : List Float) → ForwardTo n l rhs n work → work ≡ forward n l rhs
forward_end n l rhs work s =
    ext_get_or nan work (forward n l rhs) (s.size ∙ sym (length_forward n l rhs)) (λ i h. s.done i (omega (arith, s.size)))

module _
    (n c w : ℕ) (l : Triangle) (rhs work v v' work' : List Float) (coefficient : ℕ → ℕ → Float)
    (fits : c + w ≤ n) (agrees : Agrees n c w l coefficient)
    (part : (r : ℕ) → c + r < n → get_or v r nan ≡ get_or work (c + r) nan)
    (state : ForwardTo n l rhs c work) (done : ForwardDone coefficient (n - c) w v v') where
  abbrev y : ℕ → Float
  y k = get_or (forward n l rhs) k nan

  -- c and then m products of row c + r
  row_products :
      (m r : ℕ) → m ≤ w → m ≤ r → c + r < n → ((k : ℕ) → k < m → get_or v' k nan ≡ y (c + k)) →
      minus_products (λ k. coefficient r k) (λ k. get_or v' k nan) m (get_or v r nan)
      ≡ minus_products (λ k. entry l (c + r) k) y (c + m) (get_or rhs (c + r) nan)
  row_products m r wide low row before =
      ap (minus_products (λ k. coefficient r k) (λ k. get_or v' k nan) m) (part r row ∙ state.rest (c + r) (omega arith) row)
      ∙ products_same (λ k. coefficient r k) (λ k. entry l (c + r) (c + k)) (λ k. get_or v' k nan) (λ k. y (c + k)) m
      (minus_products (λ k. entry l (c + r) k) y c (get_or rhs (c + r) nan))
      (λ k h. agrees r k (omega arith) (omega arith) row) before
      ∙ sym (minus_add (λ k. entry l (c + r) k) y c m (get_or rhs (c + r) nan))

  triangle_rows : (m : ℕ) → m ≤ w → (r : ℕ) → r < m → get_or v' r nan ≡ y (c + r)
  triangle_rows zero wide r h = absurd (omega arith)
  triangle_rows (suc m) wide r h =
      elim (dec_lt r m) [
        | yes before ↦ triangle_rows m (omega arith) r before
        | no after ↦
            let here : m ≡ r = omega arith in
            let earlier : (k : ℕ) → k < r → get_or v' k nan ≡ y (c + k) = rw here at (triangle_rows m (omega arith)) in
            done.inside r (omega arith)
            ∙ ap₂ (div binary64) (row_products r r (omega arith) (omega arith) (omega arith) earlier)
            (agrees r r (omega arith) (omega arith) (omega arith))
            ∙ sym (forward_entry_lem n l rhs (c + r) (omega arith))
      ]

  forward_further : Replaced nan c (n - c) work v' work' → ForwardTo n l rhs (c + w) work'
  forward_further whole =
      record {
        size = whole.size ∙ state.size;
        done = λ i h.
            elim (dec_lt i c) [
              | yes before ↦ whole.before i before ∙ state.done i before
              | no after ↦
                  let at : c + (i - c) ≡ i = omega arith in
                  rw at at (whole.inside (i - c) (omega arith) ∙ triangle_rows w (omega arith) (i - c) (omega arith))
            ];
        rest = λ i low h.
            let at : c + (i - c) ≡ i = omega arith in
            rw at at
            (whole.inside (i - c) (omega arith) ∙ done.under (i - c) (omega arith) (omega arith)
            ∙ row_products w (i - c) (omega arith) (omega arith) (omega arith) (triangle_rows w (omega arith)));
      }

-- the triangle, and then the rows below it
pub forward_done :
    (coefficient : ℕ → ℕ → Float) (h w : ℕ) (v u v' : List Float) →
    TriangleForward coefficient w v u → RowsSubtracted coefficient w w h u v' → ForwardDone coefficient h w v v'
forward_done coefficient h w v u v' one two =
    record {
      size = two.size ∙ one.size;
      inside = λ r p.
          two.before r p ∙ one.inside r p
          ∙ ap (λ t. div binary64 t (coefficient r r)) (kept r r (get_or v r nan) (omega arith));
      under = λ r p q.
          two.inside r p q ∙ ap (minus_products (λ k. coefficient r k) (λ k. get_or u k nan) w) (one.under r p)
          ∙ kept r w (get_or v r nan) (omega arith);
    }
  where
    kept :
        (r m : ℕ) (t : Float) → m ≤ w →
        minus_products (λ k. coefficient r k) (λ k. get_or u k nan) m t ≡ minus_products (λ k. coefficient r k) (λ k. get_or v' k nan) m t
    kept r m t le =
        products_same (λ k. coefficient r k) (λ k. coefficient r k) (λ k. get_or u k nan) (λ k. get_or v' k nan) m t
        (λ k q. refl) (λ k q. sym (two.before k (omega arith)))

-- ---- backward

-- the rows from c on are finished, and the others are as they were
pub record BackwardTo (n : ℕ) (l : Triangle) (y : List Float) (c : ℕ) (work : List Float) : Type 0 where
  pub size : length work ≡ n
  pub done : (i : ℕ) → c ≤ i → i < n → get_or work i nan ≡ get_or (backward n l y) i nan
  pub rest : (i : ℕ) → i < c → get_or work i nan ≡ get_or y i nan

pub backward_start : (n : ℕ) (l : Triangle) (y : List Float) → length y ≡ n → BackwardTo n l y n y
backward_start n l y e = record { size = e; done = λ i p h. absurd (omega arith); rest = λ i h. refl }

pub backward_end : (n : ℕ) (l : Triangle) (y work : List Float) → BackwardTo n l y 0 work → work ≡ backward n l y
backward_end n l y work s =
    ext_get_or nan work (backward n l y) (s.size ∙ sym (length_backward n l y))
    (λ i h. s.done i (omega arith) (omega (arith, s.size)))

-- rows counted from the last up
up_inside : (n c k : ℕ) → c + k < n → c + (n - c - 1 - k) < n
up_inside n c k h = omega arith

up_under : (h w k : ℕ) → k < h - w → w ≤ h - 1 - k
up_under h w k p = omega arith

up_split : (h w k : ℕ) → k < w → w ≤ h → w - 1 - k ≡ h - 1 - (h - w + k)
up_split h w k p le = omega arith

module _
    (n c w : ℕ) (l : Triangle) (y work v v' work' : List Float) (coefficient : ℕ → ℕ → Float)
    (fits : c + w ≤ n) (agrees : Agrees n c w l coefficient)
    (part : (r : ℕ) → c + r < n → get_or v r nan ≡ get_or work (c + r) nan)
    (state : BackwardTo n l y (c + w) work) (done : BackwardDone coefficient (n - c) w v v') where
  abbrev x : ℕ → Float
  x k = get_or (backward n l y) k nan

  -- row r, of which q rows are below
  row_up : (q r : ℕ) → c + r + q + 1 ≡ n → ((k : ℕ) → k < q → get_or v' (n - c - 1 - k) nan ≡ x (n - 1 - k)) → get_or v' r nan ≡ x (c + r)
  row_up q r e later =
      let count : n - c - 1 - r ≡ q = count_up n c q r e in
      let count' : n - 1 - (c + r) ≡ q = omega arith in
      elim (dec_lt r w) [
        | yes inside ↦
            done.inside r inside
            ∙ ap₂ (div binary64)
            (ap₂ (minus_products (λ k. coefficient (n - c - 1 - k) r) (λ k. get_or v' (n - c - 1 - k) nan)) count
            (part r (omega arith) ∙ state.rest (c + r) (omega arith))
            ∙ products_same (λ k. coefficient (n - c - 1 - k) r) (λ k. entry l (n - 1 - k) (c + r)) (λ k. get_or v' (n - c - 1 - k) nan)
            (λ k. x (n - 1 - k)) q (get_or y (c + r) nan)
            (λ k p. rw (row_of_up n c k (omega arith)) at (agrees (n - c - 1 - k) r inside (up_above n c q r k e p) (up_inside n c k (omega arith))))
            later
            ∙ ap (λ m. minus_products (λ k. entry l (n - 1 - k) (c + r)) (λ k. x (n - 1 - k)) m (get_or y (c + r) nan)) (sym count'))
            (agrees r r inside (omega arith) (omega arith))
            ∙ sym (backward_entry_lem n l y (c + r) (omega arith))
        | no under ↦ done.under r (omega arith) ∙ part r (omega arith) ∙ state.done (c + r) (omega arith) (omega arith)
      ]

  rows_up : (m : ℕ) → c + m ≤ n → (q : ℕ) → q < m → get_or v' (n - c - 1 - q) nan ≡ x (n - 1 - q)
  rows_up zero le q h = absurd (omega arith)
  rows_up (suc m) le q h =
      elim (dec_lt q m) [
        | yes before ↦ rows_up m (omega arith) q before
        | no after ↦
            let here : m ≡ q = omega arith in
            row_up q (n - c - 1 - q) (row_and_up n c q (omega arith)) (rw here at (rows_up m (omega arith))) ∙ ap x (row_of_up n c q (omega arith))
      ]

  backward_further : Replaced nan c (n - c) work v' work' → BackwardTo n l y c work'
  backward_further whole =
      record {
        size = whole.size ∙ state.size;
        done = λ i low h.
            let at : c + (i - c) ≡ i = omega arith in
            let row : c + (i - c) + (n - 1 - i) + 1 ≡ n = omega arith in
            rw at at
            (whole.inside (i - c) (omega arith)
            ∙ row_up (n - 1 - i) (i - c) row (λ k p. rows_up (n - 1 - i) (omega arith) k p));
        rest = λ i h. whole.before i h ∙ state.rest i (omega arith);
      }

-- the products of the rows below the triangle, and then the triangle
pub backward_done :
    (coefficient : ℕ → ℕ → Float) (h w : ℕ) (v u v' : List Float) → w ≤ h →
    ProductsSubtracted coefficient h w v u → BackwardDone coefficient w w u v' → BackwardDone coefficient h w v v'
backward_done coefficient h w v u v' le one two =
    record {
      size = two.size ∙ one.size;
      inside = λ r p.
          two.inside r p
          ∙ ap (λ t. div binary64 t (coefficient r r))
          (ap (λ t. minus_products (λ k. coefficient (w - 1 - k) r) (λ k. get_or v' (w - 1 - k) nan) (w - 1 - r) t)
          (one.inside r (omega arith) p
          ∙ products_same (λ k. coefficient (h - 1 - k) r) (λ k. coefficient (h - 1 - k) r) (λ k. get_or v (h - 1 - k) nan)
          (λ k. get_or v' (h - 1 - k) nan) (h - w) (get_or v r nan) (λ k q. refl)
          (λ k q. sym (two.under (h - 1 - k) (up_under h w k q) ∙ one.after (h - 1 - k) (up_under h w k q))))
          ∙ later r p);
      under = λ r p. two.under r p ∙ one.after r p;
    }
  where
    later :
        (r : ℕ) → r < w →
        minus_products (λ k. coefficient (w - 1 - k) r) (λ k. get_or v' (w - 1 - k) nan) (w - 1 - r)
        (minus_products (λ k. coefficient (h - 1 - k) r) (λ k. get_or v' (h - 1 - k) nan) (h - w) (get_or v r nan))
        ≡ minus_products (λ k. coefficient (h - 1 - k) r) (λ k. get_or v' (h - 1 - k) nan) (h - 1 - r) (get_or v r nan)
    later r p =
        let t : Float = minus_products (λ k. coefficient (h - 1 - k) r) (λ k. get_or v' (h - 1 - k) nan) (h - w) (get_or v r nan) in
        let count : h - w + (w - 1 - r) ≡ h - 1 - r = omega arith in
        products_same (λ k. coefficient (w - 1 - k) r) (λ k. coefficient (h - 1 - (h - w + k)) r) (λ k. get_or v' (w - 1 - k) nan)
        (λ k. get_or v' (h - 1 - (h - w + k)) nan) (w - 1 - r) t
        (λ k q. ap (λ i. coefficient i r) (up_split h w k (omega arith) le)) (λ k q. ap (λ i. get_or v' i nan) (up_split h w k (omega arith) le))
        ∙ sym (minus_add (λ k. coefficient (h - 1 - k) r) (λ k. get_or v' (h - 1 - k) nan) (h - w) (w - 1 - r) (get_or v r nan))
        ∙ ap (λ m. minus_products (λ k. coefficient (h - 1 - k) r) (λ k. get_or v' (h - 1 - k) nan) m (get_or v r nan)) count

-- ---- the block column's rows lent from c on

abbrev pub lent : ℕ → List Float → List Float
lent c work = take (length work - c) (drop c work)

abbrev pub returned : ℕ → List Float → List Float → List Float
returned c work v' = take c work ++ (v' ++ drop (length work - c) (drop c work))

pub length_lent : (n c : ℕ) (work : List Float) → length work ≡ n → c ≤ n → length (lent c work) ≡ n - c
length_lent n c work e le =
    let rows : length work - c ≡ n - c = omega arith in
    length_part nan c (length work - c) work (omega arith) ∙ rows

pub returned_whole :
    (n c : ℕ) (work v' : List Float) → length work ≡ n → c ≤ n → length v' ≡ length (lent c work) →
    Replaced nan c (n - c) work v' (returned c work v')
returned_whole n c work v' e le size =
    rw (sym e) (part_replaced nan c (length work - c) work v' (omega arith) (size ∙ length_part nan c (length work - c) work (omega arith)))

pub length_returned :
    (n c : ℕ) (work v' : List Float) → length work ≡ n → c ≤ n → length v' ≡ length (lent c work) → length (returned c work v') ≡ n
length_returned n c work v' e le size = (returned_whole n c work v' e le size).size ∙ e

lent_entry : (n c : ℕ) (work : List Float) → length work ≡ n → (r : ℕ) → c + r < n → get_or (lent c work) r nan ≡ get_or work (c + r) nan
lent_entry n c work e r h = get_d_part nan c (length work - c) work r (omega arith)

module _
    (n c w : ℕ) (l : Triangle) (y work v' : List Float) (coefficient : ℕ → ℕ → Float)
    (fits : c + w ≤ n) (agrees : Agrees n c w l coefficient) where
  pub forward_lent : ForwardTo n l y c work → ForwardDone coefficient (n - c) w (lent c work) v' → ForwardTo n l y (c + w) (returned c work v')
  forward_lent state done =
      forward_further n c w l y work (lent c work) v' (returned c work v') coefficient fits agrees (lent_entry n c work state.size) state done
      (returned_whole n c work v' state.size (omega arith) done.size)

  pub backward_lent : BackwardTo n l y (c + w) work → BackwardDone coefficient (n - c) w (lent c work) v' → BackwardTo n l y c (returned c work v')
  backward_lent state done =
      backward_further n c w l y work (lent c work) v' (returned c work v') coefficient fits agrees (lent_entry n c work state.size) state done
      (returned_whole n c work v' state.size (omega arith) done.size)

-- ---- the first block column, with all rows

all_replaced : (n : ℕ) (work v' : List Float) → length work ≡ n → length v' ≡ length work → Replaced nan 0 n work v' v'
all_replaced n work v' e size =
    record {
      size = size;
      before = λ i h. absurd (omega arith);
      inside = λ r h. ap (λ q. get_or v' q nan) (zero-add r);
      after = λ i h. get_or-eq_default v' nan (omega arith) ∙ sym (get_or-eq_default work nan (omega arith));
    }

module _
    (n w : ℕ) (l : Triangle) (y work v' : List Float) (coefficient : ℕ → ℕ → Float)
    (fits : w ≤ n) (agrees : (r s : ℕ) → s < w → s ≤ r → r < n → coefficient r s ≡ entry l r s) where
  agrees_first : Agrees n 0 w l coefficient
  agrees_first r s inside low h = rw (zero-add r, zero-add s) (agrees r s inside low (omega arith))

  row_first : (r : ℕ) → 0 + r < n → get_or work r nan ≡ get_or work (0 + r) nan
  row_first r h = ap (λ q. get_or work q nan) (sym (zero-add r))

  pub forward_first : ForwardTo n l y 0 work → ForwardDone coefficient n w work v' → ForwardTo n l y w v'
  forward_first state done =
      rw (zero-add w) at (forward_further n 0 w l y work work v' v' coefficient (omega arith) agrees_first row_first state (rw (sub-zero n) done)
      (rw (sub-zero n) (all_replaced n work v' state.size done.size)))

  pub backward_first : BackwardTo n l y w work → BackwardDone coefficient n w work v' → BackwardTo n l y 0 v'
  backward_first state done =
      backward_further n 0 w l y work work v' v' coefficient (omega arith) agrees_first row_first (rw (zero-add w) state) (rw (sub-zero n) done)
      (rw (sub-zero n) (all_replaced n work v' state.size done.size))

-- ---- the rows from c on, by the trailing triangle

module _
    (n c : ℕ) (l l' : Triangle) (y work v' : List Float) (fits : c ≤ n)
    (same : (i j : ℕ) → Entry (n - c) i j → entry l' i j ≡ entry l (c + i) (c + j)) where
  pub forward_rest : ForwardTo n l y c work → v' ≡ forward (n - c) l' (lent c work) → ForwardTo n l y n (returned c work v')
  forward_rest state e =
      let size = length_lent n c work state.size fits in
      let whole = returned_whole n c work v' state.size fits (ap length e ∙ length_forward (n - c) l' (lent c work) ∙ sym size) in
      record {
        size = whole.size ∙ state.size;
        done = λ i h.
            elim (dec_lt i c) [
              | yes before ↦ whole.before i before ∙ state.done i before
              | no after ↦
                  let at : c + (i - c) ≡ i = omega arith in
                  rw at at
                  (whole.inside (i - c) (omega arith) ∙ ap (λ v. get_or v (i - c) nan) e
                  ∙ forward_trailing n c l l' fits same y (lent c work)
                  (λ r p. lent_entry n c work state.size r (omega arith) ∙ state.rest (c + r) (omega arith) (omega arith)) (i - c) (omega arith))
            ];
        rest = λ i low h. absurd (omega arith);
      }

  pub backward_rest : BackwardTo n l y n work → v' ≡ backward (n - c) l' (lent c work) → BackwardTo n l y c (returned c work v')
  backward_rest state e =
      let size = length_lent n c work state.size fits in
      let whole = returned_whole n c work v' state.size fits (ap length e ∙ length_backward (n - c) l' (lent c work) ∙ sym size) in
      record {
        size = whole.size ∙ state.size;
        done = λ i low h.
            let at : c + (i - c) ≡ i = omega arith in
            rw at at
            (whole.inside (i - c) (omega arith) ∙ ap (λ v. get_or v (i - c) nan) e
            ∙ backward_trailing n c l l' fits same y (lent c work)
            (λ r p. lent_entry n c work state.size r (omega arith) ∙ state.rest (c + r) (omega arith)) (i - c) (omega arith));
        rest = λ i h. whole.before i h ∙ state.rest i (omega arith);
      }
