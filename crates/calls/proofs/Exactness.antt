-- A factor's answer whether every root was exact, read out: yes exactly if it accepts and the square of every l(j,j) is its pivot. Assumes nothing.
use Prim.Native.Nat.{ℕ, ◌*◌, ◌^◌, ◌<◌}
use native.Mathlib.Omega.{arith}
use mathlib.Core.Path.{◌≡◌, refl, sym, ap, ap₂, ◌∙◌, subst}
use mathlib.Core.Bool.{Bool, true, false, ◌&&◌}
use mathlib.Core.List.{List}
use lib.Dec.{T, eqb→eq}
use lib.ListN.{length}
use borrow.Author.Tests.{eq-eqb}
use lib.Ieee.{Float, binary64, fits, to_bits}
use lib.Ieee.Fits.{and_i, and_l, and_r}
use Rattle.binary64.specs.Kinds.{finite, positive}
use Rattle.binary64.specs.Root.{magnitude, scaled, squares_to, exact}
use Rattle.binary64.specs.Judged.{exact_root}
use Rattle.binary64.proofs.RootLaws.{exact_is}
use Rattle.shape.specs.Layouts.{Bijection}
use Rattle.shape.specs.declared.Shape.{Shape}
use Rattle.calls.specs.declared.CallResult.{CallResult}
use Rattle.calls.specs.declared.Layout.{Layout}
use Rattle.calls.specs.declared.Call.TheVariants.{Factor}
use Rattle.calls.specs.Sequences.{all}
use Rattle.calls.specs.Triangles.{Triangle, entry, height, place_of, load}
use Rattle.calls.specs.Arithmetic.{pivot, cholesky}
use Rattle.calls.specs.Refusals.{accepted, by_blocks, column_exact}
use Rattle.calls.specs.Calls.{succeeded, result_of, judged_result, factor_checks, judge_column, exact_column, columns_verdict, columns_exact, columns_judged, factored, factorize}
use Rattle.calls.proofs.Sequences.{every_at, every_of}
use Rattle.calls.proofs.Refusals.{lowest_accepted}
use Rattle.calls.proofs.ColumnRules.{judged_passed}
use Rattle.calls.proofs.Columns.{columns, entry_diagonal, column_accepted, FiniteMatrix, finite_matrix, pivot_finite, columns_finite}
use Rattle.calls.proofs.CheckLaws.{FactorAccepted, factor_accepted, factor_refused_lem}
use Rattle.calls.proofs.Rearranging.{place_bijection}
use Rattle.calls.proofs.Entries.{pivot_kept}

-- the square of r's size is x's size, as whole numbers on one scale; here both are above zero
abbrev pub SquareIs : Float → Float → Type 0
SquareIs r x = (2 * magnitude (to_bits binary64 r)) ^ 2 ≡ scaled (to_bits binary64 x)

-- r accepts, and for every column j of a's factor l the square of l(j,j) is the pivot
pub record AllExact (n : ℕ) (a : Triangle) (r : CallResult) : Type 0 where
  pub accepts : T (succeeded r)
  pub squared : (j : ℕ) → j < n → SquareIs (entry (cholesky (height n) a n) j j) (pivot a (cholesky (height n) a n) j)

-- ---- accepted columns

module _ (n : ℕ) (a : Triangle) (given : FiniteMatrix n a) (passed : T (accepted (columns_verdict n a))) where
  abbrev pivot_of : ℕ → Float
  pivot_of j = pivot a (columns n a j) j

  each : (j : ℕ) → j < n → T (accepted (judge_column n a j))
  unfolding columns_verdict
  each j h = lowest_accepted (judge_column n a) n passed j h

  pivot_positive : (j : ℕ) → j < n → T (positive (pivot_of j))
  pivot_positive j h = (column_accepted (height n) a (columns n a j) j (each j h)).0

  finite_here : (j : ℕ) → j < n → T (finite (pivot_of j))
  finite_here j h =
      pivot_finite n a given j h (columns_finite n a given j (omega arith) (λ c p. each c (omega arith))) (pivot_positive j h)

  -- an accepted column's exactness is that of its root
  column_exact_lem : (j : ℕ) → j < n → column_exact a (columns n a j) j ≡ exact (pivot_of j)
  unfolding column_exact
  column_exact_lem j h = ap exact_root (judged_passed (pivot_of j) (pivot_positive j h))

  -- which is whether the square of l(j,j) is the pivot
  column_squares :
      (j : ℕ) → j < n →
      column_exact a (columns n a j) j ≡ squares_to (to_bits binary64 (entry (columns n a n) j j)) (to_bits binary64 (pivot a (columns n a n) j))
  column_squares j h =
      column_exact_lem j h
      ∙ exact_is (pivot_of j) (finite_here j h) (pivot_positive j h)
      ∙ ap₂ (λ r x. squares_to (to_bits binary64 r) (to_bits binary64 x)) (sym (entry_diagonal n a n j h)) (pivot_kept n a j n (omega arith))

  all_squares : T (columns_exact n a) → (j : ℕ) → j < n → SquareIs (entry (columns n a n) j j) (pivot a (columns n a n) j)
  unfolding columns_exact squares_to
  all_squares t j h = eqb→eq _ _ (subst T (column_squares j h) (every_at (exact_column n a) n t j h))

  squares_all : ((j : ℕ) → j < n → SquareIs (entry (columns n a n) j j) (pivot a (columns n a n) j)) → T (columns_exact n a)
  unfolding columns_exact squares_to
  squares_all s = every_of (exact_column n a) n (λ j h. subst T (sym (column_squares j h ∙ eq-eqb _ _ (s j h))) tt)

-- ---- the call

module _ (layout : Layout) (shape : Shape) (matrix work : List Float) (v : T (all (fits binary64) matrix)) where
  abbrev n : ℕ
  n = shape.order

  abbrev b : ℕ
  b = shape.block

  abbrev a : Triangle
  a = load (place_of layout n b) (height n) n matrix

  abbrev checks : Bool
  checks = accepted (factor_checks layout shape matrix (length work))

  given_matrix : T checks → FiniteMatrix n a
  given_matrix t =
      let known : FactorAccepted layout shape matrix (length work) = factor_accepted layout shape matrix (length work) t in
      let bij : Bijection (place_of layout n b) n =
      place_bijection layout n b (λ e. known.sizes.block_low (subst (λ l. T (by_blocks (Factor l))) (sym e) tt))
      in
      finite_matrix (place_of layout n b) n bij matrix known.sizes.matrix v known.matrix_finite

  result_passed : checks ≡ true → (factorize layout shape matrix work).result ≡ judged_result (Factor layout) shape (columns_judged n a)
  unfolding factorize factored
  result_passed e = rw e refl

  result_refused : checks ≡ false → (factorize layout shape matrix work).result ≡ result_of (Factor layout) shape (factor_checks layout shape matrix (length work))
  result_refused e = sym (factor_refused_lem layout shape matrix work (factor_checks layout shape matrix (length work)) refl e).result

  exact_squared : T (factorize layout shape matrix work).result.exact → AllExact n a (factorize layout shape matrix work).result
  exact_squared t = go checks refl
    where
      go : (c : Bool) → checks ≡ c → AllExact n a (factorize layout shape matrix work).result
      go false e = absurd (subst (λ (r : CallResult). T r.exact) (result_refused e) t)
      go true e =
          let both : T (accepted (columns_verdict n a) && columns_exact n a) = subst (λ (r : CallResult). T r.exact) (result_passed e) t in
          let passed : T (accepted (columns_verdict n a)) = and_l (accepted (columns_verdict n a)) (columns_exact n a) both in
          record {
            accepts = subst (λ (r : CallResult). T (succeeded r)) (sym (result_passed e)) passed;
            squared = all_squares n a (given_matrix (rw e tt)) passed (and_r (accepted (columns_verdict n a)) (columns_exact n a) both);
          }

  squared_exact : AllExact n a (factorize layout shape matrix work).result → T (factorize layout shape matrix work).result.exact
  squared_exact s = go checks refl
    where
      go : (c : Bool) → checks ≡ c → T (factorize layout shape matrix work).result.exact
      go false e = absurd (subst T e (subst (λ (r : CallResult). T (succeeded r)) (result_refused e) s.accepts))
      go true e =
          let passed : T (accepted (columns_verdict n a)) = subst (λ (r : CallResult). T (succeeded r)) (result_passed e) s.accepts in
          subst (λ (r : CallResult). T r.exact) (sym (result_passed e))
          (and_i (accepted (columns_verdict n a)) (columns_exact n a) passed (squares_all n a (given_matrix (rw e tt)) passed s.squared))

  -- yes if and only if the factor accepts and the square of every l(j,j) is the pivot
  pub exact_iff :
      (T (factorize layout shape matrix work).result.exact → AllExact n a (factorize layout shape matrix work).result)
      × (AllExact n a (factorize layout shape matrix work).result → T (factorize layout shape matrix work).result.exact)
  exact_iff = (exact_squared, squared_exact)
