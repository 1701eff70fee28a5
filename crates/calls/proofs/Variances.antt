-- Laws of specs/Variances.antt: the shape that comes back, which entries are read, the full solver, and the other layout. Assumes nothing.
use Prim.Native.Nat.{ℕ, zero, suc, ◌+◌, ◌-◌, ◌*◌, ◌≤◌, ◌<◌}
use native.Mathlib.Nat.{add-zero, zero-mul}
use native.Mathlib.Omega.{arith}
use native.Mathlib.Decide.{dec_lt}
use mathlib.Core.Path.{◌≡◌, refl, sym, ap, ap₂, ◌∙◌, subst}
use mathlib.Core.Logic.{◌≢◌}
use mathlib.Core.Bool.{Bool, true, false, cond, not, ◌&&◌}
use mathlib.Core.List.{List, [], ◌∷◌, ◌++◌}
use borrow.Author.Tests.{eq-eqb, ne_eqb}
use lib.Dec.{T, eqb, ltb}
use lib.ListN.{length, get_or, drop, get_or-append}
use lib.Seq.{take_all}
use lib.Ieee.{Float, nan, binary64, fits, sub, mul, div}
use lib.Ieee.Bits.{is_true}
use lib.Ieee.Fits.{and_l, and_r}
use Rattle.binary64.specs.Kinds.{finite, positive, zero64, one64}
use Rattle.binary64.proofs.Zeros.{less_product, zero_divided}
use Rattle.shape.specs.Places.{triangle, block_work}
use Rattle.shape.specs.Layouts.{Entry, Bijection}
use Rattle.shape.specs.declared.Shape.{Shape}
use Rattle.calls.specs.declared.Verdict.{Verdict}
use Rattle.calls.specs.declared.Judgement.{Judgement}
use Rattle.calls.specs.declared.CallResult.{CallResult}
use Rattle.calls.specs.declared.Layout.{Layout}
use Rattle.calls.specs.declared.Layout.TheVariants.{Packed, Blocked}
use Rattle.calls.specs.declared.Call.TheVariants.{Solver, Variance}
use Rattle.calls.specs.declared.states.State.TheVariants.{Factored}
use Rattle.calls.specs.Sequences.{iterate, all}
use Rattle.calls.specs.Triangles.{Triangle, entry, height, place_of, place_from, load, load_from, store}
use Rattle.calls.specs.Arithmetic.{minus_products, forward}
use Rattle.calls.specs.States.{look_up, next, given_by}
use Rattle.calls.specs.Refusals.{by_blocks, success, accepted, refusal, refuse_if, first_refusal, lowest_refusal, rule2, rule15, rule4, rule14, finite_rule, rule7, rule9, rule12}
use Rattle.calls.specs.Calls.{Done, Solved, state_after, result_of, answer, succeeded, clear, moved, solver_checks, rhs_part, solution, rhs_verdict, solutions, solved, solve}
use Rattle.calls.specs.Pipelines.{Start}
use Rattle.calls.specs.Variances.{unit_rhs, columns_from, variance_checks, variance_verdict, Evaluated, variance, ReadsTrailing, SolverAgrees, SameAnswer, VariancesAgree, FactorVariancesAgree}
use Rattle.calls.proofs.Sequences.{length_tabulate, get_d_tabulate, all_at, all_of, rising}
use Rattle.calls.proofs.Triangles.{load_alike, entry_load, length_store, store_same}
use Rattle.calls.proofs.Refusals.{cond_both, not_not, not_refused, first_passes, first_refused, first_accepted, lowest_same, Lowest, lowest_refused, finite_rule_lem, refuse_holds, none_holds, first_holds}
use Rattle.calls.proofs.StateLaws.{given_same, shape_same, factor_state}
use Rattle.calls.proofs.Judging.{first_part, first_same, first_continued}
use Rattle.calls.proofs.Checks.{rule14_passes, Sizes, size_rules, sizes_pass, length_clear}
use Rattle.calls.proofs.CheckLaws.{rule14_accepted, rule14_refused, finite_at, refused_at, finite_accepted, positive_at, rule9_alone, rule9_passes, SizesAccepted, SolverAccepted, sizes_accepted, solver_accepted, rule9_holds, finite_holds, Keeps, low_keeps, sizes_keep}
use Rattle.calls.proofs.Rearranging.{place_bijection, layout_bijection, length_moved, load_moved}
use Rattle.calls.proofs.Agreement.{in_state, rearrange_free, work_enough, a, verdict, factor_of, cleared_work, cleared_length, plain_factor_lem, there, factor_shaped, factor_finite, plain_accepted, blocked_accepted}
use Rattle.calls.proofs.Entries.{length_forward, forward_entry_lem, length_backward}
use Rattle.calls.proofs.Trailing.{entry_from, trailing_entry, forward_trailing, backward_trailing}
use Rattle.calls.proofs.ColumnsFrom.{from_finite, finite_from, columns_same}

-- ---- the right-hand side

abbrev unit_at : ℕ → ℕ → Float
unit_at k i = cond (eqb i k) one64 zero64

length_unit : (n k : ℕ) → length (unit_rhs n k) ≡ n
unfolding unit_rhs
length_unit n k = length_tabulate (unit_at k) n

unit_value : (n k i : ℕ) → i < n → get_or (unit_rhs n k) i nan ≡ unit_at k i
unfolding unit_rhs
unit_value n k i h = get_d_tabulate (unit_at k) n i nan h

-- 1 or +0, less products with +0
unit_kept :
    (x y : ℕ → Float) (count : ℕ) (one : Bool) → ((c : ℕ) → c < count → T (finite (x c))) → ((c : ℕ) → c < count → y c ≡ zero64) →
    minus_products x y count (cond one one64 zero64) ≡ cond one one64 zero64
unfolding minus_products
unit_kept x y zero one fs zs = refl
unit_kept x y (suc c) one fs zs =
    ap₂ (λ t z. sub binary64 t (mul binary64 (x c) z)) (unit_kept x y c one (λ i h. fs i (omega arith)) (λ i h. zs i (omega arith))) (zs c (omega arith))
    ∙ less_product one (x c) (fs c (omega arith))

-- ---- the full solver for it

module _
    (n k : ℕ) (l l' : Triangle) (inside : k < n)
    (same : (i j : ℕ) → Entry (n - k) i j → entry l' i j ≡ entry l (k + i) (k + j))
    (fs : (i j : ℕ) → Entry n i j → T (finite (entry l i j)))
    (ps : (j : ℕ) → j < n → T (positive (entry l j j))) where
  abbrev y : ℕ → Float
  y c = get_or (forward n l (unit_rhs n k)) c nan

  -- a y before k is +0
  before_row : (i : ℕ) → i < k → ((c : ℕ) → c < i → y c ≡ zero64) → y i ≡ zero64
  before_row i h zs =
      forward_entry_lem n l (unit_rhs n k) i (omega arith)
      ∙ ap (λ t. div binary64 t (entry l i i))
      (ap (minus_products (λ c. entry l i c) y i) (unit_value n k i (omega arith))
      ∙ unit_kept (λ c. entry l i c) y i (eqb i k) (λ c p. fs i c (record { lower = omega arith; inside = omega arith })) zs
      ∙ ap (λ b. cond b one64 zero64) (ne_eqb i k (λ e. omega arith)))
      ∙ zero_divided (entry l i i) (ps i (omega arith))

  before : (i : ℕ) → i < k → y i ≡ zero64
  before = rising (λ i. y i ≡ zero64) k before_row

  -- so the products of the columns before k change nothing
  unit_less : (i : ℕ) → i < n - k → get_or (unit_rhs (n - k) 0) i nan ≡ minus_products (λ c. entry l (k + i) c) y k (get_or (unit_rhs n k) (k + i) nan)
  unit_less i h =
      unit_value (n - k) 0 i h
      ∙ sym
      (ap (minus_products (λ c. entry l (k + i) c) y k) (unit_value n k (k + i) (omega arith))
      ∙ unit_kept (λ c. entry l (k + i) c) y k (eqb (k + i) k) (λ c p. fs (k + i) c (record { lower = omega arith; inside = omega arith }))
      before
      ∙ ap (λ b. cond b one64 zero64) (first i))
    where
      first : (i : ℕ) → eqb (k + i) k ≡ eqb i 0
      first zero = eq-eqb (k + 0) k (omega arith)
      first (suc i) = ne_eqb (k + suc i) k (λ e. omega arith) ∙ sym (ne_eqb (suc i) 0 (λ e. omega arith))

  forward_same : (i : ℕ) → i < n - k → get_or (forward (n - k) l' (unit_rhs (n - k) 0)) i nan ≡ y (k + i)
  forward_same = forward_trailing n k l l' (omega arith) same (unit_rhs n k) (unit_rhs (n - k) 0) unit_less

  solution_same : (i : ℕ) → i < n - k → get_or (solution (n - k) l' (unit_rhs (n - k) 0)) i nan ≡ get_or (solution n l (unit_rhs n k)) (k + i) nan
  unfolding solution
  solution_same = backward_trailing n k l l' (omega arith) same (forward n l (unit_rhs n k)) (forward (n - k) l' (unit_rhs (n - k) 0)) forward_same

  -- where every y and x of the solver is finite, so are those of the trailing triangle
  trailing_verdict :
      T (all finite (forward n l (unit_rhs n k))) → T (all finite (solution n l (unit_rhs n k))) →
      variance_verdict (n - k) l' ≡ record { code = 0; place = 0; value = get_or (solution n l (unit_rhs n k)) k nan }
  unfolding variance_verdict rule12 solution
  trailing_verdict ys xs =
      let ys' : T (all finite (forward (n - k) l' (unit_rhs (n - k) 0))) =
      all_of finite (forward (n - k) l' (unit_rhs (n - k) 0)) nan
      (λ i h.
      let p : i < n - k = omega (arith, length_forward (n - k) l' (unit_rhs (n - k) 0)) in
      subst (λ x. T (finite x)) (sym (forward_same i p)) (all_at finite (forward n l (unit_rhs n k)) ys (k + i) nan (omega (arith, length_forward n l (unit_rhs n k)))))
      in
      let xs' : T (all finite (solution (n - k) l' (unit_rhs (n - k) 0))) =
      all_of finite (solution (n - k) l' (unit_rhs (n - k) 0)) nan
      (λ i h.
      let p : i < n - k = omega (arith, length_backward (n - k) l' (forward (n - k) l' (unit_rhs (n - k) 0))) in
      subst (λ x. T (finite x)) (sym (solution_same i p))
      (all_at finite (solution n l (unit_rhs n k)) xs (k + i) nan (omega (arith, length_backward n l (forward n l (unit_rhs n k))))))
      in
      rw (is_true (all finite (forward (n - k) l' (unit_rhs (n - k) 0))) ys', is_true (all finite (solution (n - k) l' (unit_rhs (n - k) 0))) xs') (ap (λ v. record { code = 0; place = 0; value = v }) (solution_same 0 (omega arith) ∙ ap (λ i. get_or (solution n l (unit_rhs n k)) i nan) (add-zero k)))

-- ---- the checks

-- after the sizes
abbrev pub late_rules : Layout → Shape → ℕ → List Float → List Verdict
late_rules layout shape k matrix =
    let place = place_of layout shape.order shape.block in
    rule14 shape.order k ∷ rule7 (columns_from k place shape.order matrix) ∷ rule9 place k shape.order matrix ∷ []

-- the places of a layout whose block length a call has judged
judged_bijection : (layout : Layout) (n b : ℕ) → (T (by_blocks (Variance layout)) → 1 ≤ b) → Bijection (place_of layout n b) n
judged_bijection layout n b low = place_bijection layout n b (λ e. low (subst (λ l. T (by_blocks (Variance l))) (sym e) tt))

pub solver_blocks : (layout : Layout) → T (by_blocks (Solver layout)) → T (by_blocks (Variance layout))
solver_blocks Packed t = t
solver_blocks Blocked t = t

-- what an accepted check says
pub record VarianceAccepted (layout : Layout) (shape : Shape) (k : ℕ) (matrix : List Float) (work_length : ℕ) : Type 0 where
  pub sizes : SizesAccepted (Variance layout) shape (length matrix) work_length
  pub inside : k < shape.order

pub variance_accepted :
    (layout : Layout) (shape : Shape) (k : ℕ) (matrix : List Float) (wl : ℕ) → T (accepted (variance_checks layout shape k matrix wl)) →
    VarianceAccepted layout shape k matrix wl
unfolding variance_checks
variance_accepted layout shape k matrix wl h =
    let s = sizes_accepted (Variance layout) shape (length matrix) wl (late_rules layout shape k matrix) h in
    record { sizes = s.0; inside = rule14_accepted shape.order k (first_accepted _ _ s.1).0 }

pub variance_checks_keep : (layout : Layout) (shape : Shape) (k : ℕ) (matrix : List Float) (wl : ℕ) → Keeps (variance_checks layout shape k matrix wl)
unfolding variance_checks rule14
variance_checks_keep layout shape k matrix wl =
    let n = shape.order in
    let place = place_of layout n shape.block in
    sizes_keep (Variance layout) shape (length matrix) wl (late_rules layout shape k matrix)
    (first_holds Keeps refl _ _ (refuse_holds Keeps refl (not (ltb k n)) (refusal 14 0 zero64) refl)
    (first_holds Keeps refl _ _ (finite_holds Keeps refl low_keeps 7 (omega arith) (columns_from k place n matrix))
    (first_holds Keeps refl _ _ (rule9_holds Keeps refl low_keeps place k n matrix) (none_holds Keeps refl))))

-- ---- the shape comes back as it was handed in, whatever the call answers

verdict_keeps : (p : ℕ) (l : Triangle) → Keeps (variance_verdict p l)
unfolding variance_verdict rule12
verdict_keeps p l = cond_both Keeps (accepted refused) _ refused refl (refuse_holds Keeps refl (not finites) (refusal 12 0 zero64) refl)
  where
    finites : Bool
    finites = all finite (forward p l (unit_rhs p 0)) && all finite (solution p l (unit_rhs p 0))

    refused : Verdict
    refused = refuse_if (not finites) (refusal 12 0 zero64)

pub variance_shape : (layout : Layout) (shape : Shape) (k : ℕ) (matrix work : List Float) → (variance layout shape k matrix work).result.shape ≡ shape
unfolding variance
variance_shape layout shape k matrix work =
    cond_both (λ (e : Evaluated). e.result.shape ≡ shape) (accepted (variance_checks layout shape k matrix (length work))) _ _
    (same (variance_verdict (shape.order - k) (load_from k (place_of layout shape.order shape.block) shape.order matrix))
    (verdict_keeps (shape.order - k) (load_from k (place_of layout shape.order shape.block) shape.order matrix)))
    (same (variance_checks layout shape k matrix (length work)) (variance_checks_keep layout shape k matrix (length work)))
  where
    same : (v : Verdict) → Keeps v → (result_of (Variance layout) shape v).shape ≡ shape
    same v h = shape_same (Variance layout) shape v (given_same (Factored layout ∷ []) shape.state) h

-- ---- which entries are read

-- rule 9 on two memories, each by its own layout
same_diagonal :
    (place place' : ℕ → ℕ → ℕ) (k n : ℕ) (m m' : List Float) →
    ((j : ℕ) → k ≤ j → j < n → get_or m (place j j) nan ≡ get_or m' (place' j j) nan) → rule9 place k n m ≡ rule9 place' k n m'
unfolding rule9
same_diagonal place place' k n m m' same =
    lowest_same (λ c. positive_at place m (k + c)) (λ c. positive_at place' m' (k + c)) (n - k)
    (λ c p. ap (λ x. refuse_if (not (positive x)) (refusal 9 (k + c) zero64)) (same (k + c) (omega arith) (omega arith)))

module _
    (layout : Layout) (shape : Shape) (k : ℕ) (m m' : List Float) (size : length m ≡ length m')
    (same :
    (i j : ℕ) → k ≤ j → Entry shape.order i j →
    get_or m (place_of layout shape.order shape.block i j) nan ≡ get_or m' (place_of layout shape.order shape.block i j) nan) where
  abbrev n : ℕ
  n = shape.order

  abbrev place : ℕ → ℕ → ℕ
  place = place_of layout n shape.block

  same_late : (wl : ℕ) → SizesAccepted (Variance layout) shape (length m) wl → first_refusal (late_rules layout shape k m) ≡ first_refusal (late_rules layout shape k m')
  same_late wl s =
      let bij : Bijection place n = judged_bijection layout n shape.block s.block_low in
      ap₂ (λ q r. first_refusal (rule14 n k ∷ rule7 q ∷ r ∷ []))
      (columns_same place n k bij m m' s.matrix (sym size ∙ s.matrix) same)
      (same_diagonal place place k n m m' (λ j low h. same j j low (record { lower = omega arith; inside = h })))

  same_checks : (wl : ℕ) → variance_checks layout shape k m wl ≡ variance_checks layout shape k m' wl
  unfolding variance_checks
  same_checks wl =
      first_same (size_rules (Variance layout) shape (length m) wl) (late_rules layout shape k m) (late_rules layout shape k m')
      (λ h. same_late wl (sizes_accepted (Variance layout) shape (length m) wl [] h).0)
      ∙ ap (λ q. first_refusal (size_rules (Variance layout) shape q wl ++ late_rules layout shape k m')) size

  same_trailing : load_from k place n m ≡ load_from k place n m'
  same_trailing = load_alike (place_from k place) (place_from k place) (n - k) m m' (λ i j e. same (k + i) (k + j) (omega arith) (entry_from n k i j e))

  same_variance : (work : List Float) → variance layout shape k m work ≡ variance layout shape k m' work
  unfolding variance
  same_variance work =
      ap₂
      (λ checks l.
      cond (accepted checks)
      (record { result = result_of (Variance layout) shape (variance_verdict (n - k) l); work = clear n work })
      (record { result = result_of (Variance layout) shape checks; work = work }))
      (same_checks (length work)) same_trailing

pub reads_trailing : ReadsTrailing
reads_trailing layout shape k m m' work size same = same_variance layout shape k m m' size same work

-- ---- the full solver

-- a solver's sizes are judged as a variance call's
same_sizes : (layout : Layout) (shape : Shape) (ml wl : ℕ) → size_rules (Solver layout) shape ml wl ≡ size_rules (Variance layout) shape ml wl
unfolding rule2 rule15 rule4
same_sizes Packed shape ml wl = refl
same_sizes Blocked shape ml wl = refl

-- the solution of one right-hand side
one_rhs : (n : ℕ) (rhs : List Float) → length rhs ≡ n → rhs_part n 0 rhs ≡ rhs
unfolding rhs_part
one_rhs n rhs e = rw (zero-mul n) (take_all n rhs (omega arith))

one_solution : (n : ℕ) (l : Triangle) (rhs : List Float) (k : ℕ) → length rhs ≡ n → k < n → get_or (solutions n l 1 rhs) k nan ≡ get_or (solution n l rhs) k nan
unfolding solutions iterate solution
one_solution n l rhs k e h =
    get_or-append (solution n l (rhs_part n 0 rhs)) (drop (1 * n) rhs) nan k (omega (arith, length_backward n l (forward n l (rhs_part n 0 rhs))))
    ∙ ap (λ r. get_or (solution n l r) k nan) (one_rhs n rhs e)

one_verdict : (n : ℕ) (l : Triangle) (rhs : List Float) → length rhs ≡ n → rhs_verdict n 1 l rhs ≡ rule12 0 (forward n l rhs) (solution n l rhs)
unfolding rhs_verdict lowest_refusal
one_verdict n l rhs e = ap (λ r. rule12 0 (forward n l r) (solution n l r)) (one_rhs n rhs e)

module _ (layout : Layout) (shape : Shape) (k : ℕ) (matrix work : List Float) (inside : k < shape.order) where
  abbrev order : ℕ
  order = shape.order

  abbrev at : ℕ → ℕ → ℕ
  at = place_of layout order shape.block

  abbrev whole : Triangle
  whole = load at (height order) order matrix

  abbrev unit : List Float
  unit = unit_rhs order k

  module _ (t : T (accepted (solver_checks layout shape 1 matrix unit (length work)))) where
    known : SolverAccepted layout shape 1 matrix unit (length work)
    known = solver_accepted layout shape 1 matrix unit (length work) t

    places : Bijection at order
    places = place_bijection layout order shape.block (λ e. known.sizes.block_low (subst (λ l. T (by_blocks (Solver l))) (sym e) tt))

    finite_entry : (i j : ℕ) → Entry order i j → T (finite (get_or matrix (at i j) nan))
    finite_entry i j e = all_at finite matrix known.matrix_finite (at i j) nan (omega (arith, places.below i j e, known.sizes.matrix))

    solver_passes : variance_checks layout shape k matrix (length work) ≡ success
    unfolding variance_checks solver_checks
    solver_passes =
        let sizes : T (accepted (first_refusal (size_rules (Variance layout) shape (length matrix) (length work)))) =
        rw (same_sizes layout shape (length matrix) (length work)) at (first_part (size_rules (Solver layout) shape (length matrix) (length work)) _ t) in
        first_continued (size_rules (Variance layout) shape (length matrix) (length work)) (late_rules layout shape k matrix) _ refl (is_true (accepted (first_refusal (size_rules (Variance layout) shape (length matrix) (length work)))) sizes)
        ∙ first_passes (rule14 order k) _ (rule14_passes order k inside)
        ∙ first_passes (rule7 (columns_from k at order matrix)) _
        (finite_rule_lem 7 (columns_from k at order matrix)
        (from_finite at order k places matrix known.sizes.matrix (λ i j e h. finite_entry i j e)))
        ∙ rule9_alone at k order matrix
        ∙ rule9_passes at k order matrix (λ j low h. known.diagonal j h)

    module _ (u : T (accepted (rhs_verdict order 1 whole unit))) where
      values : T (all finite (forward order whole unit)) × T (all finite (solution order whole unit))
      unfolding rule12
      values =
          let ys : Bool = all finite (forward order whole unit) in
          let xs : Bool = all finite (solution order whole unit) in
          let both : T (ys && xs) =
          not_not (ys && xs) (not_refused (not (ys && xs)) 11 0 zero64 (subst (λ v. T (accepted v)) (one_verdict order whole unit (length_unit order k)) u))
          in
          (and_l ys xs both, and_r ys xs both)

      solver_value :
          variance_verdict (order - k) (load_from k at order matrix)
          ≡ record { code = 0; place = 0; value = get_or (solution order whole unit) k nan }
      solver_value =
          trailing_verdict order k whole (load_from k at order matrix) inside (trailing_entry at order k matrix)
          (λ i j e. subst (λ x. T (finite x)) (sym (entry_load at order matrix i j e)) (finite_entry i j e))
          (λ j h. subst (λ x. T (positive x)) (sym (entry_load at order matrix j j (record { lower = omega arith; inside = h }))) (known.diagonal j h))
          values.0 values.1

      solver_same :
          variance layout shape k matrix work
          ≡ record {
            result = record {
              code = 0;
              place = 0;
              value = get_or (solved layout shape 1 matrix unit work).rhs k nan;
              exact = false;
              shape = (solved layout shape 1 matrix unit work).result.shape;
            };
            work = (solved layout shape 1 matrix unit work).work;
          }
      unfolding variance solved state_after
      solver_same =
          rw (solver_passes, solver_value, is_true (accepted (rhs_verdict order 1 whole unit)) u)
          (ap
          (λ v.
          record {
            result = record {
              code = 0;
              place = 0;
              value = v;
              exact = false;
              shape = record { order = order; block = shape.block; state = given_by (next (Variance layout) shape.state) shape.state };
            };
            work = clear order work;
          })
          (sym (one_solution order whole unit k (length_unit order k) inside)))

pub solver_agrees : SolverAgrees
unfolding solve solved
solver_agrees layout shape k matrix work inside h = go (accepted (solver_checks layout shape 1 matrix (unit_rhs shape.order k) (length work))) refl h
  where
    checks : Verdict
    checks = solver_checks layout shape 1 matrix (unit_rhs shape.order k) (length work)

    left : Bool → Solved
    left b =
        cond b (solved layout shape 1 matrix (unit_rhs shape.order k) work)
        (record { result = result_of (Solver layout) shape checks; rhs = unit_rhs shape.order k; work = work })

    go :
        (b : Bool) → accepted checks ≡ b → T (succeeded (left b).result) →
        variance layout shape k matrix work
        ≡ record {
          result = record { code = 0; place = 0; value = get_or (left b).rhs k nan; exact = (left b).result.exact; shape = (left b).result.shape };
          work = (left b).work;
        }
    go true e t = solver_same layout shape k matrix work inside (rw e tt) t
    go false e t = absurd (rw e at t)

-- ---- the other layout

-- a memory with a value that is not finite is refused by 7
finite_refused : (m : List Float) → all finite m ≡ false → (accepted (rule7 m) ≡ false) × ((rule7 m).code ≡ 7)
unfolding finite_rule
finite_refused m f = go (accepted (rule7 m)) refl
  where
    go : (b : Bool) → accepted (rule7 m) ≡ b → (accepted (rule7 m) ≡ false) × ((rule7 m).code ≡ 7)
    go true e = absurd (subst (λ (b : Bool). T b) f (finite_accepted 6 m (rw e tt)))
    go false e =
        let found : Lowest (finite_at 7 m) (length m) (rule7 m) = lowest_refused (finite_at 7 m) (length m) (rw e tt) in
        (e, ap (λ v. v.code) (found.there ∙ refused_at m found.at (ap accepted (sym found.there) ∙ e)))

-- the answer, from the rules after the sizes
abbrev late_verdict : Layout → Shape → ℕ → List Float → Verdict
late_verdict layout shape k matrix =
    let n = shape.order in
    let checks = first_refusal (late_rules layout shape k matrix) in
    cond (accepted checks) (variance_verdict (n - k) (load_from k (place_of layout n shape.block) n matrix)) checks

late_answer :
    (layout : Layout) (shape : Shape) (k : ℕ) (matrix work : List Float) → Sizes (Variance layout) shape (length matrix) (length work) →
    answer (variance layout shape k matrix work).result ≡ record { verdict = late_verdict layout shape k matrix; exact = false }
unfolding variance variance_checks
late_answer layout shape k matrix work s =
    rw (sizes_pass (Variance layout) shape (length matrix) (length work) (late_rules layout shape k matrix) s) (go (accepted (first_refusal (late_rules layout shape k matrix))))
  where
    checks : Verdict
    checks = first_refusal (late_rules layout shape k matrix)

    found : Verdict
    found = variance_verdict (shape.order - k) (load_from k (place_of layout shape.order shape.block) shape.order matrix)

    left : Bool → Evaluated
    left b =
        cond b (record { result = result_of (Variance layout) shape found; work = clear shape.order work })
        (record { result = result_of (Variance layout) shape checks; work = work })

    go : (b : Bool) → answer (left b).result ≡ record { verdict = cond b found checks; exact = false }
    go true = refl
    go false = refl

-- the same, but for the place under 7
abbrev SameVerdict : Verdict → Verdict → Type 0
SameVerdict v w = (v.code ≡ w.code) × (v.code ≢ 7 → v ≡ w)

alike : {v w : Verdict} → v ≡ w → SameVerdict v w
alike e = (ap (λ (v : Verdict). v.code) e, λ ne. e)

same_truth : (a b : Bool) → (T a → T b) → (T b → T a) → a ≡ b
same_truth true true f g = refl
same_truth true false f g = absurd (f tt)
same_truth false true f g = absurd (g tt)
same_truth false false f g = refl

module _ (n b k : ℕ) (matrix : List Float) (low : 1 ≤ b) (whole : length matrix ≡ triangle n) where
  -- the factor in blocked order, and both shapes
  abbrev in_blocks : List Float
  in_blocks = moved Packed Blocked n b matrix

  abbrev shape_of : Layout → Shape
  shape_of layout = in_state (Factored layout) n b

  moved_length : length in_blocks ≡ triangle n
  moved_length = length_moved Packed Blocked n b low matrix whole

  bijection : (layout : Layout) → Bijection (place_of layout n b) n
  bijection layout = layout_bijection layout n b low

  moved_entry : (i j : ℕ) → Entry n i j → get_or matrix (place_of Packed n b i j) nan ≡ get_or in_blocks (place_of Blocked n b i j) nan
  moved_entry i j e =
      sym (entry_load (place_of Packed n b) n matrix i j e) ∙ ap (λ t. entry t i j) (sym (load_moved Packed Blocked n b low matrix whole))
      ∙ entry_load (place_of Blocked n b) n in_blocks i j e

  moved_trailing : load_from k (place_of Packed n b) n matrix ≡ load_from k (place_of Blocked n b) n in_blocks
  moved_trailing =
      load_alike (place_from k (place_of Packed n b)) (place_from k (place_of Blocked n b)) (n - k) matrix in_blocks
      (λ i j e. moved_entry (k + i) (k + j) (entry_from n k i j e))

  moved_diagonal : rule9 (place_of Packed n b) k n matrix ≡ rule9 (place_of Blocked n b) k n in_blocks
  moved_diagonal =
      same_diagonal (place_of Packed n b) (place_of Blocked n b) k n matrix in_blocks (λ j low h. moved_entry j j (record { lower = omega arith; inside = h }))

  abbrev judged_in : Layout → List Float → List Float
  judged_in layout memory = columns_from k (place_of layout n b) n memory

  -- the trailing triangle is finite in one layout where it is in the other
  moved_finite : all finite (judged_in Packed matrix) ≡ all finite (judged_in Blocked in_blocks)
  moved_finite =
      same_truth _ _
      (λ t.
      from_finite (place_of Blocked n b) n k (bijection Blocked) in_blocks moved_length
      (λ i j e h. subst (λ x. T (finite x)) (moved_entry i j e) (finite_from (place_of Packed n b) n k (bijection Packed) matrix whole t i j e h)))
      (λ t.
      from_finite (place_of Packed n b) n k (bijection Packed) matrix whole
      (λ i j e h. subst (λ x. T (finite x)) (sym (moved_entry i j e)) (finite_from (place_of Blocked n b) n k (bijection Blocked) in_blocks moved_length t i j e h)))

  abbrev verdict_by : Verdict → Triangle → Verdict
  verdict_by checks l = cond (accepted checks) (variance_verdict (n - k) l) checks

  module _ (layout : Layout) (memory : List Float) where
    abbrev place' : ℕ → ℕ → ℕ
    place' = place_of layout n b

    late_14 : n ≤ k → late_verdict layout (shape_of layout) k memory ≡ refusal 14 0 zero64
    late_14 h =
        let e : rule14 n k ≡ refusal 14 0 zero64 = rule14_refused n k h in
        ap (λ c. verdict_by c (load_from k place' n memory)) (first_refused (rule14 n k) _ (ap accepted e) ∙ e)

    module _ (inside : k < n) where
      past_14 : first_refusal (late_rules layout (shape_of layout) k memory) ≡ first_refusal (rule7 (judged_in layout memory) ∷ rule9 place' k n memory ∷ [])
      past_14 = first_passes (rule14 n k) _ (rule14_passes n k inside)

      late_passed :
          all finite (judged_in layout memory) ≡ true →
          late_verdict layout (shape_of layout) k memory ≡ verdict_by (rule9 place' k n memory) (load_from k place' n memory)
      late_passed f =
          ap (λ c. verdict_by c (load_from k place' n memory))
          (past_14 ∙ first_passes (rule7 (judged_in layout memory)) _ (finite_rule_lem 7 (judged_in layout memory) (rw f tt)) ∙ rule9_alone place' k n memory)

      late_refused : all finite (judged_in layout memory) ≡ false → late_verdict layout (shape_of layout) k memory ≡ rule7 (judged_in layout memory)
      late_refused f =
          let e : accepted (rule7 (judged_in layout memory)) ≡ false = (finite_refused (judged_in layout memory) f).0 in
          ap (λ c. verdict_by c (load_from k place' n memory)) (past_14 ∙ first_refused (rule7 (judged_in layout memory)) (rule9 place' k n memory ∷ []) e) ∙ rw e refl

  -- the answers, where 7 does not refuse
  late_equal : all finite (judged_in Packed matrix) ≡ true → late_verdict Packed (shape_of Packed) k matrix ≡ late_verdict Blocked (shape_of Blocked) k in_blocks
  late_equal e =
      elim (dec_lt k n) [
        | yes p ↦ late_passed Packed matrix p e ∙ ap₂ verdict_by moved_diagonal moved_trailing ∙ sym (late_passed Blocked in_blocks p (sym moved_finite ∙ e))
        | no p ↦ late_14 Packed matrix (omega arith) ∙ sym (late_14 Blocked in_blocks (omega arith))
      ]

  -- and where it does, but for the place
  late_same : SameVerdict (late_verdict Packed (shape_of Packed) k matrix) (late_verdict Blocked (shape_of Blocked) k in_blocks)
  late_same = go (all finite (judged_in Packed matrix)) refl (dec_lt k n)
    where
      go :
          (f : Bool) → all finite (judged_in Packed matrix) ≡ f → Dec (k < n) →
          SameVerdict (late_verdict Packed (shape_of Packed) k matrix) (late_verdict Blocked (shape_of Blocked) k in_blocks)
      go true e d = alike (late_equal e)
      go false e (no p) = alike (late_14 Packed matrix (omega arith) ∙ sym (late_14 Blocked in_blocks (omega arith)))
      go false e (yes p) =
          let plain : (late_verdict Packed (shape_of Packed) k matrix).code ≡ 7 =
          ap (λ (v : Verdict). v.code) (late_refused Packed matrix p e) ∙ (finite_refused (judged_in Packed matrix) e).1
          in
          let other : all finite (judged_in Blocked in_blocks) ≡ false = sym moved_finite ∙ e in
          let block : (late_verdict Blocked (shape_of Blocked) k in_blocks).code ≡ 7 =
          ap (λ (v : Verdict). v.code) (late_refused Blocked in_blocks p other) ∙ (finite_refused (judged_in Blocked in_blocks) other).1
          in
          (plain ∙ sym block, λ ne. absurd (ne plain))

pub variances_agree : VariancesAgree
unfolding state_after look_up
variances_agree n b k matrix plain_work blocked_work order low high whole plain_enough blocked_enough =
    let moves = rearrange_free Packed Blocked (in_state (Factored Packed) n b) matrix blocked_work
    (record { order = order; block_low = low; block_high = high; state = tt; matrix = whole; work = blocked_enough }) in
    rw moves (both (clear (block_work n b) blocked_work)
    (omega (arith, length_clear (block_work n b) blocked_work blocked_enough, work_enough n b low)))
  where
    both :
        (blocked_work : List Float) → n ≤ length blocked_work →
        SameAnswer (variance Packed (in_state (Factored Packed) n b) k matrix plain_work)
        (variance Blocked (in_state (Factored Blocked) n b) k (moved Packed Blocked n b matrix) blocked_work)
    both blocked_work enough =
        let plain : answer (variance Packed (in_state (Factored Packed) n b) k matrix plain_work).result
        ≡ record { verdict = late_verdict Packed (in_state (Factored Packed) n b) k matrix; exact = false } =
        late_answer Packed (in_state (Factored Packed) n b) k matrix plain_work
        (record { order = order; block_low = low; block_high = high; state = tt; matrix = whole; work = plain_enough })
        in
        let block : answer (variance Blocked (in_state (Factored Blocked) n b) k (moved Packed Blocked n b matrix) blocked_work).result
        ≡ record { verdict = late_verdict Blocked (in_state (Factored Blocked) n b) k (moved Packed Blocked n b matrix); exact = false } =
        late_answer Blocked (in_state (Factored Blocked) n b) k (moved Packed Blocked n b matrix) blocked_work
        (record { order = order; block_low = low; block_high = high; state = tt; matrix = moved_length n b k matrix low whole; work = enough })
        in
        let same = late_same n b k matrix low whole in
        let code = ap (λ (j : Judgement). j.verdict.code) plain in
        record {
          code = code ∙ same.0 ∙ sym (ap (λ (j : Judgement). j.verdict.code) block);
          whole = λ ne. plain ∙ ap (λ (v : Verdict). record { verdict = v; exact = false }) (same.1 (λ e. ne (code ∙ e))) ∙ sym block;
        }

-- ---- both ways from a packed matrix

module _
    (n b k : ℕ) (matrix plain_work blocked_work : List Float) (v : T (all (fits binary64) matrix)) (s : Start n b 0 matrix [] plain_work blocked_work)
    (t : T (accepted (verdict n b 0 matrix [] plain_work blocked_work v s))) where
  abbrev triangular : Triangle
  triangular = factor_of n b 0 matrix [] plain_work blocked_work v s

  abbrev plain_factor : List Float
  plain_factor = store (place_of Packed n b) triangular matrix

  layout_places : Bijection (place_of Packed n b) n
  layout_places = layout_bijection Packed n b s.block_low

  plain_length : length plain_factor ≡ triangle n
  plain_length = length_store (place_of Packed n b) n layout_places triangular matrix ∙ s.matrix_length

  plain_finite : all finite (columns_from k (place_of Packed n b) n plain_factor) ≡ true
  plain_finite =
      is_true (all finite (columns_from k (place_of Packed n b) n plain_factor))
      (from_finite (place_of Packed n b) n k layout_places plain_factor plain_length
      (λ i j e h.
      subst (λ x. T (finite x))
      (sym
      (store_same (place_of Packed n b) n layout_places triangular n (factor_shaped n b 0 matrix [] plain_work blocked_work v s t) matrix (omega (arith, s.matrix_length)) i j nan e
      (omega (arith, e.lower, e.inside))))
      (factor_finite n b 0 matrix [] plain_work blocked_work v s t i j e)))

  both_answer :
      (w w' : List Float) → n ≤ length w → n ≤ length w' →
      answer (variance Packed (in_state (Factored Packed) n b) k plain_factor w).result
      ≡ answer (variance Blocked (in_state (Factored Blocked) n b) k (moved Packed Blocked n b plain_factor) w').result
  unfolding look_up
  both_answer w w' h h' =
      late_answer Packed (in_state (Factored Packed) n b) k plain_factor w
      (record { order = s.order; block_low = s.block_low; block_high = s.block_high; state = tt; matrix = plain_length; work = h })
      ∙ ap (λ (r : Verdict). record { verdict = r; exact = false }) (late_equal n b k plain_factor s.block_low plain_length plain_finite)
      ∙ sym
      (late_answer Blocked (in_state (Factored Blocked) n b) k (moved Packed Blocked n b plain_factor) w'
      (record {
        order = s.order;
        block_low = s.block_low;
        block_high = s.block_high;
        state = tt;
        matrix = length_moved Packed Blocked n b s.block_low plain_factor plain_length;
        work = h';
      }))

pub factor_variances_agree : FactorVariancesAgree
factor_variances_agree n b k matrix plain_work blocked_work v s t =
    let accepts : T (accepted (verdict n b 0 matrix [] plain_work blocked_work v s)) =
    subst (λ (r : CallResult). T (succeeded r)) (ap (λ (d : Done). d.result) (plain_factor_lem n b 0 matrix [] plain_work blocked_work v s)) t in
    let cleared = cleared_length n b 0 matrix [] plain_work blocked_work v s in
    rw (
      there n b 0 matrix [] plain_work blocked_work v s,
      plain_accepted n b 0 matrix [] plain_work blocked_work v s accepts,
      blocked_accepted n b 0 matrix [] plain_work blocked_work v s accepts,
      factor_state Packed n (a n b 0 matrix [] plain_work blocked_work v s) accepts,
      factor_state Blocked n (a n b 0 matrix [] plain_work blocked_work v s) accepts,
    )
    (both_answer n b k matrix plain_work blocked_work v s accepts (clear n plain_work)
    (clear (block_work n b) (cleared_work n b 0 matrix [] plain_work blocked_work v s))
    (omega (arith, length_clear n plain_work s.plain_work_length, s.plain_work_length))
    (omega (
      arith,
      cleared,
      s.blocked_work_length,
      length_clear (block_work n b) (cleared_work n b 0 matrix [] plain_work blocked_work v s) (omega (arith, cleared, s.blocked_work_length)),
      work_enough n b s.block_low,
    )))
