-- Document 01's formulas entry by entry: of the factor of any matrix, and of both substitutions on any factor, whether or not a factor call made it.
-- Assumes nothing.
use Prim.Native.Nat.{ℕ, suc, ◌-◌, ◌≤◌, ◌<◌}
use native.Mathlib.Omega.{arith}
use native.Mathlib.Decide.{dec_lt}
use mathlib.Core.Path.{◌≡◌, refl, sym, ap, ◌∙◌}
use mathlib.Core.List.{List, [], ◌∷◌, reverse, reverse-cons}
use lib.ListN.{length, get_or, length-reverse, get_or-append}
use lib.Seq.{get_or_at}
use lib.Ieee.{Float, nan, binary64, div}
use Rattle.binary64.specs.Root.{root}
use Rattle.calls.specs.Sequences.{grow}
use Rattle.calls.specs.Triangles.{Triangle, entry, height}
use Rattle.calls.specs.Arithmetic.{minus_products, pivot, quotient, cholesky, forward, backward_rows, backward}
use Rattle.calls.proofs.Sequences.{length_grow, get_or_grow}
use Rattle.calls.proofs.Columns.{columns, entry_diagonal, entry_quotient, entry_kept, products_same}

-- ---- the factor

-- l(j,j) is the root of a(j,j) − l(j,k)·l(j,k), and l(i,j) = (a(i,j) − l(i,k)·l(j,k)) / l(j,j), for rising k below j, every l being an entry of the one factor l
pub record FactorEntries (n : ℕ) (a l : Triangle) : Type 0 where
  pub diagonal : (j : ℕ) → j < n → entry l j j ≡ root (minus_products (λ k. entry l j k) (λ k. entry l j k) j (entry a j j))
  pub below :
      (i j : ℕ) → j < i → i < n → entry l i j ≡ div binary64 (minus_products (λ k. entry l i k) (λ k. entry l j k) j (entry a i j)) (entry l j j)

module _ (n : ℕ) (a : Triangle) where
  -- the products of a row's first j entries want the first j columns only
  pub row_products :
      (i i' j k : ℕ) (t : Float) → j ≤ k →
      minus_products (λ c. entry (columns n a j) i c) (λ c. entry (columns n a j) i' c) j t
      ≡ minus_products (λ c. entry (columns n a k) i c) (λ c. entry (columns n a k) i' c) j t
  row_products i i' j k t h =
      products_same (λ c. entry (columns n a j) i c) (λ c. entry (columns n a k) i c) (λ c. entry (columns n a j) i' c)
      (λ c. entry (columns n a k) i' c) j t
      (λ c p. entry_kept n a j k i c p (omega arith)) (λ c p. entry_kept n a j k i' c p (omega arith))

  pub pivot_kept : (j k : ℕ) → j ≤ k → pivot a (columns n a j) j ≡ pivot a (columns n a k) j
  unfolding pivot
  pivot_kept j k h = row_products j j j k (entry a j j) h

  quotient_kept : (d : Float) (i j k : ℕ) → j ≤ k → quotient a (columns n a j) d j i ≡ quotient a (columns n a k) d j i
  unfolding quotient
  quotient_kept d i j k h = ap (λ t. div binary64 t d) (row_products i j j k (entry a i j) h)

  pub factor_entries : FactorEntries n a (cholesky (height n) a n)
  unfolding pivot quotient
  factor_entries =
      record {
        diagonal = λ j h. entry_diagonal n a n j h ∙ ap root (pivot_kept j n (omega arith));
        below = λ i j lt h.
            entry_quotient n a n i j (omega arith) lt h
            ∙ ap (λ d. quotient a (columns n a j) d j i) (sym (entry_diagonal n a n j (omega arith)))
            ∙ quotient_kept (entry (columns n a n) j j) i j n (omega arith);
      }

-- ---- the substitutions

-- element i of a reversed list is element n − 1 − i of the list
pub get_d_reverse : {A : Type 0} (l : List A) (i : ℕ) (d : A) → i < length l → get_or (reverse l) i d ≡ get_or l (length l - 1 - i) d
get_d_reverse [] i d h = absurd (omega arith)
get_d_reverse (x ∷ xs) i d h =
    elim (dec_lt i (length xs)) [
      | yes p ↦
          let e : suc (length xs) - 1 - i ≡ suc (length xs - 1 - i) = omega arith in
          ap (λ l. get_or l i d) (reverse-cons x xs)
          ∙ get_or-append (reverse xs) (x ∷ []) d i (omega (arith, length-reverse xs))
          ∙ get_d_reverse xs i d p
          ∙ ap (λ k. get_or (x ∷ xs) k d) (sym e)
      | no p ↦
          let e : suc (length xs) - 1 - i ≡ 0 = omega arith in
          let last : length (reverse xs) ≡ i = omega (arith, length-reverse xs) in
          ap (λ l. get_or l i d) (reverse-cons x xs) ∙ get_or_at (reverse xs) x [] d i last ∙ ap (λ k. get_or (x ∷ xs) k d) (sym e)
    ]

-- y(i) = (value i − l(i,k)·y(k) for k = 0 .. i−1) / l(i,i), and x(i) = (y(i) − l(k,i)·x(k) for k = n−1 down to i+1) / l(i,i):
-- the product subtracted c-th is that of k = n−1−c
pub record SolutionEntries (n : ℕ) (l : Triangle) (rhs y x : List Float) : Type 0 where
  pub y_length : length y ≡ n
  pub x_length : length x ≡ n
  pub forward_entry :
      (i : ℕ) → i < n →
      get_or y i nan ≡ div binary64 (minus_products (λ k. entry l i k) (λ k. get_or y k nan) i (get_or rhs i nan)) (entry l i i)
  pub backward_entry :
      (i : ℕ) → i < n →
      get_or x i nan
      ≡ div binary64 (minus_products (λ c. entry l (n - 1 - c) i) (λ c. get_or x (n - 1 - c) nan) (n - 1 - i) (get_or y i nan)) (entry l i i)

module _ (n : ℕ) (l : Triangle) (rhs : List Float) where
  -- what `forward` and `backward_rows` grow by
  abbrev next_forward : ℕ → List Float → Float
  next_forward i y = div binary64 (minus_products (λ k. entry l i k) (λ k. get_or y k nan) i (get_or rhs i nan)) (entry l i i)

  pub length_forward : length (forward n l rhs) ≡ n
  unfolding forward
  length_forward = length_grow next_forward n

  pub forward_entry_lem :
      (i : ℕ) → i < n →
      get_or (forward n l rhs) i nan
      ≡ div binary64 (minus_products (λ k. entry l i k) (λ k. get_or (forward n l rhs) k nan) i (get_or rhs i nan)) (entry l i i)
  unfolding forward
  forward_entry_lem i h =
      get_or_grow next_forward n i nan h
      ∙ ap (λ t. div binary64 t (entry l i i))
      (products_same (λ k. entry l i k) (λ k. entry l i k) (λ k. get_or (grow next_forward i) k nan) (λ k. get_or (grow next_forward n) k nan) i
      (get_or rhs i nan) (λ k p. refl)
      (λ k p. get_or_grow next_forward i k nan p ∙ sym (get_or_grow next_forward n k nan (omega arith))))

module _ (n : ℕ) (l : Triangle) (y : List Float) where
  abbrev next_backward : ℕ → List Float → Float
  next_backward d z =
      let i = n - 1 - d in
      div binary64 (minus_products (λ k. entry l (n - 1 - k) i) (λ k. get_or z k nan) d (get_or y i nan)) (entry l i i)

  length_rows : length (backward_rows n l y) ≡ n
  unfolding backward_rows
  length_rows = length_grow next_backward n

  pub length_backward : length (backward n l y) ≡ n
  unfolding backward
  length_backward = length-reverse (backward_rows n l y) ∙ length_rows

  -- x(i) stands at n − 1 − i among the rows found from the last up
  pub get_or_backward : (i : ℕ) → i < n → get_or (backward n l y) i nan ≡ get_or (backward_rows n l y) (n - 1 - i) nan
  unfolding backward
  get_or_backward i h =
      get_d_reverse (backward_rows n l y) i nan (omega (arith, length_rows))
      ∙ ap (λ k. get_or (backward_rows n l y) (k - 1 - i) nan) length_rows

  row_entry : (d : ℕ) → d < n → get_or (backward_rows n l y) d nan ≡ next_backward d (grow next_backward d)
  unfolding backward_rows
  row_entry d h = get_or_grow next_backward n d nan h

  row_kept : (d k : ℕ) → k < d → d < n → get_or (grow next_backward d) k nan ≡ get_or (backward n l y) (n - 1 - k) nan
  unfolding backward_rows
  row_kept d k p h =
      let back : n - 1 - (n - 1 - k) ≡ k = omega arith in
      get_or_grow next_backward d k nan p ∙ sym (get_or_grow next_backward n k nan (omega arith))
      ∙ ap (λ c. get_or (grow next_backward n) c nan) (sym back) ∙ sym (get_or_backward (n - 1 - k) (omega arith))

  pub backward_entry_lem :
      (i : ℕ) → i < n →
      get_or (backward n l y) i nan
      ≡ div binary64 (minus_products (λ c. entry l (n - 1 - c) i) (λ c. get_or (backward n l y) (n - 1 - c) nan) (n - 1 - i) (get_or y i nan))
      (entry l i i)
  backward_entry_lem i h =
      let d : ℕ = n - 1 - i in
      let back : n - 1 - d ≡ i = omega arith in
      get_or_backward i h ∙ row_entry d (omega arith)
      ∙ ap (λ r. div binary64 (minus_products (λ k. entry l (n - 1 - k) r) (λ k. get_or (grow next_backward d) k nan) d (get_or y r nan)) (entry l r r)) back
      ∙ ap (λ t. div binary64 t (entry l i i))
      (products_same (λ c. entry l (n - 1 - c) i) (λ c. entry l (n - 1 - c) i) (λ k. get_or (grow next_backward d) k nan)
      (λ c. get_or (backward n l y) (n - 1 - c) nan) d (get_or y i nan) (λ k p. refl) (λ k p. row_kept d k p (omega arith)))

pub solution_entries : (n : ℕ) (l : Triangle) (rhs : List Float) → SolutionEntries n l rhs (forward n l rhs) (backward n l (forward n l rhs))
solution_entries n l rhs =
    record {
      y_length = length_forward n l rhs;
      x_length = length_backward n l (forward n l rhs);
      forward_entry = forward_entry_lem n l rhs;
      backward_entry = backward_entry_lem n l (forward n l rhs);
    }
