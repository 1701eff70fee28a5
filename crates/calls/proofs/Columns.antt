-- The columns of specs/Arithmetic.antt's `cholesky`: their lengths, their entries by document 01's formulas, and that the entries of accepted
-- columns are finite. Assumes nothing.
use Prim.Native.Nat.{ℕ, zero, suc, ◌+◌, ◌-◌, ◌≤◌, ◌<◌}
use native.Mathlib.Nat.{sub_self, add-zero, add-suc}
use native.Mathlib.Omega.{arith}
use native.Mathlib.Decide.{dec_lt}
use mathlib.Core.Path.{◌≡◌, refl, sym, ap, ap₂, ◌∙◌, subst}
use mathlib.Core.Bool.{Bool}
use mathlib.Core.List.{List, []}
use lib.Dec.{T}
use lib.ListN.{length, get_or}
use lib.Ieee.{Float, nan, binary64, fits, sub, mul}
use lib.Ieee.Fits.{sub-fits}
use Rattle.binary64.specs.Kinds.{finite, positive}
use Rattle.binary64.specs.Root.{root}
use Rattle.binary64.proofs.Differences.{below_infinity, difference_below, finite_below_lem, below_finite}
use Rattle.binary64.proofs.RootLaws.{root_finite}
use Rattle.shape.specs.Places.{triangle}
use Rattle.shape.specs.Layouts.{Entry, Bijection}
use Rattle.calls.specs.Sequences.{all}
use Rattle.calls.specs.Triangles.{Triangle, entry, height, load}
use Rattle.calls.specs.Arithmetic.{minus_products, pivot, quotient, below, factor_column, cholesky}
use Rattle.calls.specs.Refusals.{accepted, column_verdict}
use Rattle.calls.proofs.Sequences.{length_grow, get_or_grow, length_tabulate, get_d_tabulate, all_at}
use Rattle.calls.proofs.Triangles.{Shaped, entry_load}
use Rattle.calls.proofs.ColumnRules.{rules_accepted}

module _ (n : ℕ) (a : Triangle) where
  -- the first k columns
  abbrev pub columns : ℕ → Triangle
  columns k = cholesky (height n) a k

  pub column_of : (k j : ℕ) → j < k → get_or (columns k) j [] ≡ factor_column (height n) a j (columns j)
  unfolding cholesky
  column_of k j h = get_or_grow (factor_column (height n) a) k j [] h

  length_below : (j : ℕ) (l : Triangle) → length (below (height n) a j l) ≡ n - j - 1
  unfolding below height
  length_below j l = length_tabulate (λ r. quotient a l (root (pivot a l j)) j (j + 1 + r)) (n - j - 1)

  length_columns : (k : ℕ) → length (columns k) ≡ k
  unfolding cholesky
  length_columns k = length_grow (factor_column (height n) a) k

  pub length_column : (j : ℕ) (l : Triangle) → j < n → length (factor_column (height n) a j l) ≡ n - j
  unfolding factor_column
  length_column j l h = omega (arith, length_below j l)

  pub shaped_columns : (k : ℕ) → k ≤ n → Shaped n k (columns k)
  shaped_columns k le =
      record { count = length_columns k; heights = λ j h. ap length (column_of k j h) ∙ length_column j (columns j) (omega arith) }

  -- l(j,j) is the root of the pivot, of which the columns before j are enough
  pub entry_diagonal : (k j : ℕ) → j < k → entry (columns k) j j ≡ root (pivot a (columns j) j)
  unfolding entry factor_column
  entry_diagonal k j h = ap (λ c. get_or c (j - j) nan) (column_of k j h) ∙ rw (sub_self j)

  pub entry_below : (k i j : ℕ) → j < k → j < i → entry (columns k) i j ≡ get_or (below (height n) a j (columns j)) (i - j - 1) nan
  unfolding entry factor_column
  entry_below k i j h lt =
      let e : i - j ≡ suc (i - j - 1) = omega arith in
      ap (λ c. get_or c (i - j) nan) (column_of k j h) ∙ ap (λ x. get_or (factor_column (height n) a j (columns j)) x nan) e

  pub entry_quotient : (k i j : ℕ) → j < k → j < i → i < n → entry (columns k) i j ≡ quotient a (columns j) (root (pivot a (columns j) j)) j i
  unfolding below height
  entry_quotient k i j h lt inside =
      let back : j + 1 + (i - j - 1) ≡ i = omega arith in
      entry_below k i j h lt
      ∙ get_d_tabulate (λ r. quotient a (columns j) (root (pivot a (columns j) j)) j (j + 1 + r)) (n - j - 1) (i - j - 1) nan (omega arith)
      ∙ ap (quotient a (columns j) (root (pivot a (columns j) j)) j) back

  -- a later column changes no entry
  pub entry_kept : (k k' i j : ℕ) → j < k → j < k' → entry (columns k) i j ≡ entry (columns k') i j
  unfolding entry
  entry_kept k k' i j h h' = ap (λ c. get_or c (i - j) nan) (column_of k j h ∙ sym (column_of k' j h'))

-- ---- products and pivots

pub products_same :
    (x x' y y' : ℕ → Float) (n : ℕ) (t : Float) →
    ((k : ℕ) → k < n → x k ≡ x' k) → ((k : ℕ) → k < n → y k ≡ y' k) → minus_products x y n t ≡ minus_products x' y' n t
unfolding minus_products
products_same x x' y y' zero t p q = refl
products_same x x' y y' (suc k) t p q =
    ap₂ (sub binary64) (products_same x x' y y' k t (λ i h. p i (omega arith)) (λ i h. q i (omega arith)))
    (ap₂ (mul binary64) (p k (omega arith)) (q k (omega arith)))

-- the products from k on follow the first k
pub minus_add :
    (x y : ℕ → Float) (k c : ℕ) (t : Float) →
    minus_products x y (k + c) t ≡ minus_products (λ q. x (k + q)) (λ q. y (k + q)) c (minus_products x y k t)
unfolding minus_products
minus_add x y k zero t = rw add-zero
minus_add x y k (suc c) t = rw add-suc (ap (λ u. sub binary64 u (mul binary64 (x (k + c)) (y (k + c)))) (minus_add x y k c t))

-- a finite value less squares of finite values stays below +infinity
pub squares_below :
    (x : ℕ → Float) (n : ℕ) (t : Float) → T (fits binary64 t) → T (finite t) → ((k : ℕ) → k < n → T (finite (x k))) →
    T (fits binary64 (minus_products x x n t)) × T (below_infinity (minus_products x x n t))
unfolding minus_products
squares_below x zero t f h xs = (f, finite_below_lem t h)
squares_below x (suc k) t f h xs =
    let before : T (fits binary64 (minus_products x x k t)) × T (below_infinity (minus_products x x k t)) =
    squares_below x k t f h (λ i p. xs i (omega arith))
    in (
      sub-fits binary64 (minus_products x x k t) (mul binary64 (x k) (x k)),
      difference_below (minus_products x x k t) (x k) before.0 before.1 (xs k (omega arith)),
    )

-- ---- accepted columns are finite

pub column_accepted :
    (height_of : ℕ → ℕ) (a l : Triangle) (j : ℕ) → T (accepted (column_verdict height_of a l j)) →
    T (positive (pivot a l j)) × T (all finite (below height_of a j l))
unfolding column_verdict
column_accepted height_of a l j t =
    rules_accepted j (entry a j j) (pivot a l j) (all finite (below height_of a j l)) t

-- the matrix's entries are finite values of binary64
pub record FiniteMatrix (n : ℕ) (a : Triangle) : Type 0 where
  pub values : (i j : ℕ) → Entry n i j → T (fits binary64 (entry a i j))
  pub finites : (i j : ℕ) → Entry n i j → T (finite (entry a i j))

-- as those of a memory are
pub finite_matrix :
    (place : ℕ → ℕ → ℕ) (n : ℕ) → Bijection place n → (memory : List Float) → length memory ≡ triangle n → T (all (fits binary64) memory) →
    T (all finite memory) → FiniteMatrix n (load place (height n) n memory)
finite_matrix place n bij memory whole v f = record { values = λ i j e. at (fits binary64) v i j e; finites = λ i j e. at finite f i j e }
  where
    at : (test : Float → Bool) → T (all test memory) → (i j : ℕ) → Entry n i j → T (test (entry (load place (height n) n memory) i j))
    at test t i j e =
        subst (λ x. T (test x)) (sym (entry_load place n memory i j e)) (all_at test memory t (place i j) nan (omega (arith, bij.below i j e, whole)))

module _ (n : ℕ) (a : Triangle) (given : FiniteMatrix n a) where
  abbrev FiniteColumns : ℕ → Type 0
  FiniteColumns k = (i j : ℕ) → Entry n i j → j < k → T (finite (entry (columns n a k) i j))

  -- with finite columns before it a column's pivot is a value of binary64 below +infinity
  pub pivot_below :
      (j : ℕ) → j < n → FiniteColumns j → T (fits binary64 (pivot a (columns n a j) j)) × T (below_infinity (pivot a (columns n a j) j))
  unfolding pivot
  pivot_below j h before =
      let diagonal : Entry n j j = record { lower = omega arith; inside = h } in
      squares_below (λ k. entry (columns n a j) j k) j (entry a j j) (given.values j j diagonal) (given.finites j j diagonal)
      (λ k p. before j k (record { lower = omega arith; inside = h }) p)

  pub pivot_finite : (j : ℕ) → j < n → FiniteColumns j → T (positive (pivot a (columns n a j) j)) → T (finite (pivot a (columns n a j) j))
  pivot_finite j h before p =
      let under = pivot_below j h before in below_finite (pivot a (columns n a j) j) under.0 under.1 p

  pub columns_finite : (k : ℕ) → k ≤ n → ((j : ℕ) → j < k → T (accepted (column_verdict (height n) a (columns n a j) j))) → FiniteColumns k
  columns_finite zero le pass i j e h = absurd (omega arith)
  columns_finite (suc k) le pass i j e h =
      let before : FiniteColumns k = columns_finite k (omega arith) (λ c p. pass c (omega arith)) in
      elim (dec_lt j k) [
        | yes p ↦ subst (λ x. T (finite x)) (entry_kept n a k (suc k) i j p h) (before i j e p)
        | no p ↦
            let here : j ≡ k = omega arith in
            let passed : T (positive (pivot a (columns n a k) k)) × T (all finite (below (height n) a k (columns n a k))) =
            column_accepted (height n) a (columns n a k) k (pass k (omega arith))
            in
            rw here (last here before passed (dec_lt k i))
      ]
    where
      last :
          j ≡ k → FiniteColumns k → T (positive (pivot a (columns n a k) k)) × T (all finite (below (height n) a k (columns n a k))) → Dec (k < i) →
          T (finite (entry (columns n a (suc k)) i k))
      last here before passed (yes q) =
          subst (λ x. T (finite x)) (sym (entry_below n a (suc k) i k (omega arith) q))
          (all_at finite (below (height n) a k (columns n a k)) passed.1 (i - k - 1) nan
          (omega (arith, length_below n a k (columns n a k), e.inside, e.lower)))
      last here before passed (no q) =
          let diagonal : i ≡ k = omega (arith, e.lower) in
          rw diagonal
          (subst (λ x. T (finite x)) (sym (entry_diagonal n a (suc k) k (omega arith)))
          (root_finite (pivot a (columns n a k) k) (pivot_below k (omega arith) before).0 (pivot_finite k (omega arith) before passed.0) passed.0))
