-- Every small system gives 0, 10, 11 or 16: a refused column gives one of the last three, and where none is refused the factor's diagonal is greater than zero, so its
-- solver, with no right-hand side, succeeds. So the counts add up. Assumes nothing.
use Prim.Native.Nat.{ℕ, zero, suc, ◌+◌, ◌*◌, ◌≤◌, ◌<◌}
use native.Mathlib.Omega.{arith}
use mathlib.Core.Logic.{◌⊎◌, inl, inr}
use mathlib.Core.Path.{◌≡◌, refl, sym, ◌∙◌, subst}
use mathlib.Core.Bool.{Bool, true, false, cond, ◌||◌}
use mathlib.Core.List.{List, [], ◌∷◌}
use borrow.Author.Tests.{eqb-true}
use lib.Dec.{T, eqb}
use lib.ListN.{length, get_or, replicate}
use lib.Ieee.{Float, nan, binary64, fits}
use lib.Ieee.Bits.{is_true}
use Rattle.binary64.specs.Kinds.{finite, positive, zero64}
use Rattle.binary64.proofs.RootLaws.{root_positive}
use Rattle.shape.specs.Bounds.{max_order}
use Rattle.shape.specs.Places.{triangle}
use Rattle.shape.specs.Layouts.{Entry, Bijection}
use Rattle.shape.specs.declared.Shape.{Shape}
use Rattle.calls.specs.declared.Layout.TheVariants.{Packed}
use Rattle.calls.specs.declared.Call.TheVariants.{Solver}
use Rattle.calls.specs.declared.states.State.TheVariants.{Factored}
use Rattle.calls.specs.States.{look_up}
use Rattle.calls.specs.Sequences.{all}
use Rattle.calls.specs.Triangles.{Triangle, entry, place_of, height, load, store}
use Rattle.calls.specs.Arithmetic.{pivot}
use Rattle.calls.specs.Refusals.{success, accepted, first_refusal, lowest_refusal, rule5, rule6, rule7, rule8, rule9, column_verdict}
use Rattle.calls.specs.Calls.{clear, judge_column, columns_verdict, solver_checks, rhs_verdict, solved, solve}
use Rattle.calls.specs.Pipelines.{plain_pipeline, Start}
use Rattle.calls.proofs.Triangles.{length_store, store_same}
use Rattle.calls.proofs.Refusals.{first_passes, lowest_accepted, finite_rule_lem}
use Rattle.calls.proofs.Columns.{columns, entry_diagonal, column_accepted, FiniteMatrix, finite_matrix, pivot_below, pivot_finite, columns_finite}
use Rattle.calls.proofs.StateLaws.{columns_spend, factor_state}
use Rattle.calls.proofs.CheckLaws.{rule9_passes}
use Rattle.calls.proofs.Checks.{Sizes, sizes_pass, rule5_passes, rule6_passes, length_clear}
use Rattle.calls.proofs.Rearranging.{layout_bijection}
use Rattle.calls.proofs.Agreement.{in_state, stored_finite, factor_shaped, factor_finite, plain_factor_lem, plain_accepted}
use Rattle.acceptance.specs.declared.Run.TheVariants.{Plain}
use Rattle.acceptance.specs.Systems.{entries, values, total}
use Rattle.acceptance.specs.Counts.{code_of, tally, AddsUp}
use Rattle.acceptance.proofs.Tallies.{tally_none, tally_more}
use Rattle.acceptance.proofs.Codes.{values_all, value_fits, starts, tallies_same}

-- ---- the diagonal values of an accepted factor are greater than zero

diagonal_positive :
    (n : ℕ) (a : Triangle) → FiniteMatrix n a → T (accepted (columns_verdict n a)) → (j : ℕ) → j < n → T (positive (entry (columns n a n) j j))
unfolding columns_verdict
diagonal_positive n a given t j h =
    let pass : (c : ℕ) → c < n → T (accepted (column_verdict (height n) a (columns n a c) c)) = lowest_accepted (judge_column n a) n t in
    let before = columns_finite n a given j (omega arith) (λ c p. pass c (omega arith)) in
    let p : T (positive (pivot a (columns n a j) j)) = (column_accepted (height n) a (columns n a j) j (pass j h)).0 in
    subst (λ (x : Float). T (positive x)) (sym (entry_diagonal n a n j h))
    (root_positive (pivot a (columns n a j) j) (pivot_below n a given j h before).0 (pivot_finite n a given j h before p) p)

-- ---- a solver with no right-hand side

module _
    (shape : Shape) (matrix work : List Float) (sizes : Sizes (Solver Packed) shape (length matrix) (length work)) (f : T (all finite matrix))
    (diagonal : (j : ℕ) → j < shape.order → T (positive (get_or matrix (place_of Packed shape.order shape.block j j) nan)))
  where
    checks_pass : solver_checks Packed shape 0 matrix [] (length work) ≡ success
    unfolding solver_checks first_refusal all
    checks_pass =
        let n = shape.order in
        let place = place_of Packed n shape.block in
        let late = rule9 place 0 n matrix ∷ [] in
        sizes_pass (Solver Packed) shape (length matrix) (length work) (rule5 0 ∷ rule6 n 0 0 ∷ rule7 matrix ∷ rule8 [] ∷ late) sizes
        ∙ first_passes (rule5 0) (rule6 n 0 0 ∷ rule7 matrix ∷ rule8 [] ∷ late) (rule5_passes 0 (omega arith))
        ∙ first_passes (rule6 n 0 0) (rule7 matrix ∷ rule8 [] ∷ late) (rule6_passes n 0 0 (omega arith))
        ∙ first_passes (rule7 matrix) (rule8 [] ∷ late) (finite_rule_lem 7 matrix f)
        ∙ first_passes (rule8 []) late (finite_rule_lem 8 [] tt)
        ∙ first_passes (rule9 place 0 n matrix) [] (rule9_passes place 0 n matrix (λ j z h. diagonal j h))

    none_solved : (solve Packed shape 0 matrix [] work).result.code ≡ 0
    unfolding solve solved rhs_verdict lowest_refusal
    none_solved = rw checks_pass refl

-- ---- the plain pipeline's code is that of the columns

module _ (n b : ℕ) (matrix work : List Float) (v : T (all (fits binary64) matrix)) (s : Start n b 0 matrix [] work work) where
  abbrev a : Triangle
  a = load (place_of Packed n b) (height n) n matrix

  bijection : Bijection (place_of Packed n b) n
  bijection = layout_bijection Packed n b s.block_low

  given : FiniteMatrix n a
  given = finite_matrix (place_of Packed n b) n bijection matrix s.matrix_length v s.matrix_finite

  module _ (t : T (accepted (columns_verdict n a))) where
    abbrev stored : List Float
    stored = store (place_of Packed n b) (columns n a n) matrix

    stored_at : (i j : ℕ) → Entry n i j → get_or stored (place_of Packed n b i j) nan ≡ entry (columns n a n) i j
    stored_at i j e =
        store_same (place_of Packed n b) n bijection (columns n a n) n (factor_shaped n b 0 matrix [] work work v s t) matrix (omega (arith, s.matrix_length)) i j nan e
        (omega (arith, e.lower, e.inside))

    length_stored : length stored ≡ triangle n
    length_stored = length_store (place_of Packed n b) n bijection (columns n a n) matrix ∙ s.matrix_length

    all_finite : T (all finite stored)
    all_finite =
        stored_finite (place_of Packed n b) n bijection (columns n a n) (factor_shaped n b 0 matrix [] work work v s t) (factor_finite n b 0 matrix [] work work v s t)
        matrix s.matrix_length

    solver_sizes : Sizes (Solver Packed) (in_state (Factored Packed) n b) (length stored) (length (clear n work))
    unfolding look_up
    solver_sizes =
        record {
          order = s.order;
          block_low = s.block_low;
          block_high = s.block_high;
          state = tt;
          matrix = length_stored;
          work = omega (arith, length_clear n work s.plain_work_length, s.plain_work_length);
        }

    accepted_code : (plain_pipeline n b 0 matrix [] work).solver_result.code ≡ 0
    unfolding plain_pipeline
    accepted_code =
        rw (plain_accepted n b 0 matrix [] work work v s t, is_true (accepted (columns_verdict n a)) t, factor_state Packed n a t)
        (none_solved (in_state (Factored Packed) n b) stored (clear n work) solver_sizes all_finite
        (λ j h.
        subst (λ (x : Float). T (positive x)) (sym (stored_at j j (record { lower = omega arith; inside = h }))) (diagonal_positive n a given t j h)))

  refused_code : accepted (columns_verdict n a) ≡ false → (plain_pipeline n b 0 matrix [] work).solver_result.code ≡ (columns_verdict n a).code
  unfolding plain_pipeline
  refused_code e = rw (plain_factor_lem n b 0 matrix [] work work v s, e) refl

-- ---- the four codes

OneOf : ℕ → Type 0
OneOf c = (c ≡ 0) ⊎ ((c ≡ 10) ⊎ ((c ≡ 11) ⊎ (c ≡ 16)))

spent_one : (c : ℕ) → (eqb c 10 || eqb c 11 || eqb c 16) ≡ true → OneOf c
unfolding OneOf
spent_one c e = go (eqb c 10) (eqb c 11) (eqb c 16) refl refl refl e
  where
    go : (p q r : Bool) → eqb c 10 ≡ p → eqb c 11 ≡ q → eqb c 16 ≡ r → (p || q || r) ≡ true → (c ≡ 0) ⊎ ((c ≡ 10) ⊎ ((c ≡ 11) ⊎ (c ≡ 16)))
    go true q r h k l z = inr (inl (eqb-true c 10 h))
    go false true r h k l z = inr (inr (inl (eqb-true c 11 k)))
    go false false true h k l z = inr (inr (inr (eqb-true c 16 l)))
    go false false false h k l z = let y : ◌≡◌ {A = ℕ} 0 1 = cc in absurd (omega arith)

plain_one : (n t : ℕ) → n ≤ max_order → OneOf (code_of Plain n t)
unfolding code_of OneOf
plain_one n t order = go (accepted (columns_verdict n (a n 1 matrix work v s))) refl
  where
    matrix : List Float
    matrix = values (entries n t)

    work : List Float
    work = replicate (n * n) zero64

    v : T (all (fits binary64) matrix)
    v = values_all (fits binary64) value_fits (triangle n) t

    s : Start n 1 0 matrix [] work work
    s = starts n 1 order (omega arith) (omega arith) t

    go : (c : Bool) → accepted (columns_verdict n (a n 1 matrix work v s)) ≡ c → OneOf (plain_pipeline n 1 0 matrix [] work).solver_result.code
    go true e = inl (accepted_code n 1 matrix work v s (rw e tt))
    go false e =
        subst OneOf (sym (refused_code n 1 matrix work v s e)) (spent_one (columns_verdict n (a n 1 matrix work v s)).code (columns_spend n (a n 1 matrix work v s) e))

-- ---- the counts add up

one_more : (c : ℕ) → OneOf c → cond (eqb c 0) 1 0 + cond (eqb c 10) 1 0 + cond (eqb c 11) 1 0 + cond (eqb c 16) 1 0 ≡ 1
unfolding OneOf
one_more c (inl e) = rw e refl
one_more c (inr (inl e)) = rw e refl
one_more c (inr (inr (inl e))) = rw e refl
one_more c (inr (inr (inr e))) = rw e refl

plain_adds : (n : ℕ) → n ≤ max_order → (count : ℕ) → tally Plain n count 0 + tally Plain n count 10 + tally Plain n count 11 + tally Plain n count 16 ≡ count
plain_adds n order zero = rw (tally_none Plain n 0, tally_none Plain n 10, tally_none Plain n 11, tally_none Plain n 16) refl
plain_adds n order (suc t) =
    omega (
      arith,
      plain_adds n order t,
      tally_more Plain n t 0,
      tally_more Plain n t 10,
      tally_more Plain n t 11,
      tally_more Plain n t 16,
      one_more (code_of Plain n t) (plain_one n t order),
    )

pub adds_up : AddsUp
adds_up n k order high =
    let same = tallies_same n k order high (total n) in
    rw (same 0, same 10, same 11, same 16) (plain_adds n order (total n))
