-- Demand 3: the plain and the blocked pipeline agree. Both factors see the matrix free of its layout, both solvers the same factor, and the way back
-- to packed order writes the same memory. An accepted factor is finite, so rule 7 names no place that a layout decides. Assumes nothing.
use Prim.Native.Nat.{ℕ, zero, suc, ◌*◌, ◌≤◌, ◌<◌, min, ◌+◌, ◌/◌}
use native.Mathlib.Nat.{mul-le-mul_left}
use native.Mathlib.Omega.{arith}
use mathlib.Core.Path.{◌≡◌, refl, sym, ap, ◌∙◌, subst}
use mathlib.Core.Bool.{Bool, true, false, cond, not}
use mathlib.Core.List.{List, [], ◌∷◌}
use lib.Dec.{T}
use lib.ListN.{length, get_or}
use lib.Ieee.{Float, nan, binary64, fits}
use lib.Ieee.Bits.{is_true}
use Rattle.binary64.specs.Kinds.{finite, positive, zero64}
use Rattle.shape.specs.Bounds.{max_order, max_block, max_rhs}
use Rattle.shape.specs.Places.{triangle, block_work}
use Rattle.shape.specs.declared.Shape.{Shape}
use Rattle.shape.specs.Layouts.{Entry, Bijection}
use Rattle.calls.specs.declared.Verdict.{Verdict}
use Rattle.calls.specs.declared.CallResult.{CallResult}
use Rattle.calls.specs.Sequences.{all}
use Rattle.calls.specs.declared.Layout.{Layout}
use Rattle.calls.specs.declared.Layout.TheVariants.{Packed, Blocked}
use Rattle.calls.specs.Triangles.{Triangle, entry, place_of, height, load, store}
use Rattle.calls.specs.declared.Call.TheVariants.{Rearranger, Factor, Solver}
use Rattle.calls.specs.declared.states.State.{State}
use Rattle.calls.specs.declared.states.State.TheVariants.{Raw, Factored, Spent}
use Rattle.calls.specs.States.{state_number, look_up, next, suits}
use Rattle.calls.specs.Refusals.{needed_work, success, accepted, refusal, refuse_if, first_refusal, lowest_refusal, rule5, rule6, rule7, rule8, rule9}
use Rattle.calls.specs.Calls.{Solved, state_after, result_of, judged_result, answer, succeeded, clear, rearrange, moved, judge_column, columns_verdict, columns_judged, finished, factored, factorize, solver_checks, rhs_verdict, solutions, solved, solve}
use Rattle.calls.specs.Pipelines.{Ended, packed_raw, plain_pipeline, blocked_pipeline, Start, PipelinesAgree}
use Rattle.calls.proofs.Sequences.{all_of}
use Rattle.calls.proofs.Triangles.{Shaped, shaped_load, length_store, store_same, load_store, store_whole}
use Rattle.calls.proofs.Refusals.{cond_both, first_passes, lowest_same, lowest_accepted, refuse_holds, none_holds, first_holds, lowest_holds, finite_rule_lem}
use Rattle.calls.proofs.Columns.{columns, shaped_columns, FiniteMatrix, finite_matrix, columns_finite}
use Rattle.calls.proofs.StateLaws.{solver_keeps, state_spent, columns_spend, factor_state}
use Rattle.calls.proofs.CheckLaws.{positive_at, rule9_whole, Keeps, finite_holds, low_keeps, rhs_keeps}
use Rattle.calls.proofs.Checks.{Sizes, sizes_pass, rearranger_checks_lem, factor_checks_lem, rule5_passes, rule6_passes, length_clear}
use Rattle.calls.proofs.Rearranging.{layout_bijection, length_moved, load_moved}

-- ---- free of any layout

diagonal_rule : ℕ → Triangle → Verdict
diagonal_rule n l = lowest_refusal (λ j. refuse_if (not (positive (entry l j j))) (refusal 9 j zero64)) n

free_checks : ℕ → Triangle → List Float → Verdict
free_checks n l rhs = first_refusal (rule8 rhs ∷ diagonal_rule n l ∷ [])

-- a solver's verdict, and the memory that it leaves
record Free : Type 0 where
  verdict : Verdict
  rhs : List Float
  work : List Float

abbrev free_done : ℕ → ℕ → Triangle → List Float → List Float → Free
free_done n m l rhs work =
    let verdict = rhs_verdict n m l rhs in
    record { verdict = verdict; rhs = solutions n l (cond (accepted verdict) m verdict.place) rhs; work = clear n work }

abbrev free_left : ℕ → Triangle → List Float → List Float → Free
free_left n l rhs work = record { verdict = free_checks n l rhs; rhs = rhs; work = work }

free_solved : ℕ → ℕ → Triangle → List Float → List Float → Free
free_solved n m l rhs work = cond (accepted (free_checks n l rhs)) (free_done n m l rhs work) (free_left n l rhs work)

-- what a solver of a layout returns and leaves, of a shape
abbrev solved_by : Layout → Shape → Free → Solved
solved_by layout shape f = record { result = result_of (Solver layout) shape f.verdict; rhs = f.rhs; work = f.work }

-- the work memory decides neither the verdict nor the right-hand sides, and keeps its length; and no verdict of a solver spends the matrix
module _ (n m : ℕ) (l : Triangle) (rhs w : List Float) where
  free_same :
      (w' : List Float) → ((free_solved n m l rhs w).verdict ≡ (free_solved n m l rhs w').verdict) × ((free_solved n m l rhs w).rhs ≡ (free_solved n m l rhs w').rhs)
  unfolding free_solved
  free_same w' = go (accepted (free_checks n l rhs))
    where
      go :
          (b : Bool) →
          ((cond b (free_done n m l rhs w) (free_left n l rhs w)).verdict ≡ (cond b (free_done n m l rhs w') (free_left n l rhs w')).verdict)
          × ((cond b (free_done n m l rhs w) (free_left n l rhs w)).rhs ≡ (cond b (free_done n m l rhs w') (free_left n l rhs w')).rhs)
      go true = (refl, refl)
      go false = (refl, refl)

  free_work : n ≤ length w → length (free_solved n m l rhs w).work ≡ length w
  unfolding free_solved
  free_work h = go (accepted (free_checks n l rhs))
    where
      go : (b : Bool) → length (cond b (free_done n m l rhs w) (free_left n l rhs w)).work ≡ length w
      go true = length_clear n w h
      go false = refl

  free_keeps : Keeps (free_solved n m l rhs w).verdict
  unfolding free_solved free_checks diagonal_rule
  free_keeps =
      cond_both (λ (f : Free). Keeps f.verdict) (accepted (free_checks n l rhs)) _ _ (rhs_keeps n m l rhs)
      (first_holds Keeps refl _ _ (finite_holds Keeps refl low_keeps 8 (omega arith) rhs)
      (first_holds Keeps refl _ _
      (lowest_holds Keeps refl (λ j. refuse_if (not (positive (entry l j j))) (refusal 9 j zero64))
      (λ j. refuse_holds Keeps refl (not (positive (entry l j j))) (refusal 9 j zero64) refl) n)
      (none_holds Keeps refl)))

-- ---- one layout

-- stored finite columns are finite memory
pub stored_finite :
    (place : ℕ → ℕ → ℕ) (n : ℕ) → Bijection place n → (l : Triangle) → Shaped n n l →
    ((i j : ℕ) → Entry n i j → T (finite (entry l i j))) → (memory : List Float) → length memory ≡ triangle n →
    T (all finite (store place l memory))
stored_finite place n bij l s f memory whole =
    all_of finite (store place l memory) nan
    (λ p q.
    let from : (i : ℕ) × (j : ℕ) × Entry n i j × (place i j ≡ p) = bij.onto p (omega (arith, length_store place n bij l memory)) in
    let e : Entry n from.0 from.1 = from.2 in
    let inside : from.1 < n = omega (arith, e.lower, e.inside) in
    subst (λ x. T (finite (get_or (store place l memory) x nan))) from.3
    (subst (λ x. T (finite x)) (sym (store_same place n bij l n s memory (omega arith) from.0 from.1 nan e inside)) (f from.0 from.1 e)))

-- an order and a block length with the state of their memory
abbrev pub in_state : State → ℕ → ℕ → Shape
in_state state n b = record { order = n; block = b; state = state_number state }

module _ (n b m : ℕ) (order : n ≤ max_order) (low : 1 ≤ b) (high : b ≤ max_block) (count : m ≤ max_rhs) (layout : Layout) where
  abbrev place : ℕ → ℕ → ℕ
  place = place_of layout n b

  module _ (l : Triangle) (s : Shaped n n l) (f : (i j : ℕ) → Entry n i j → T (finite (entry l i j))) (memory : List Float) (whole : length memory ≡ triangle n) where
    diagonal_same : rule9 place 0 n (store place l memory) ≡ diagonal_rule n l
    unfolding diagonal_rule
    diagonal_same =
        rule9_whole place n (store place l memory)
        ∙ lowest_same (positive_at place (store place l memory))
        (λ j. refuse_if (not (positive (entry l j j))) (refusal 9 j zero64)) n
        (λ j h.
        ap (λ x. refuse_if (not (positive x)) (refusal 9 j zero64))
        (store_same place n (layout_bijection layout n b low) l n s memory (omega arith) j j nan (record { lower = omega arith; inside = h }) h))

    factor_suits : T (suits (next (Solver layout) (state_number (Factored layout))))
    unfolding look_up
    factor_suits = elim layout as (λ k. T (suits (next (Solver k) (state_number (Factored k))))) [
      | Packed ↦ tt
      | Blocked ↦ tt
    ]

    solver_checks_lem :
        (rhs : List Float) (wl : ℕ) → length rhs ≡ n * m → n ≤ wl →
        solver_checks layout (in_state (Factored layout) n b) m (store place l memory) rhs wl ≡ free_checks n l rhs
    unfolding solver_checks free_checks
    solver_checks_lem rhs wl hr hw =
        let bij : Bijection place n = layout_bijection layout n b low in
        let mat : List Float = store place l memory in
        sizes_pass (Solver layout) (in_state (Factored layout) n b) (length mat) wl (rule5 m ∷ rule6 n m (length rhs) ∷ rule7 mat ∷ rule8 rhs ∷ rule9 place 0 n mat ∷ [])
        (record { order = order; block_low = low; block_high = high; state = factor_suits; matrix = length_store place n bij l memory ∙ whole; work = hw })
        ∙ first_passes (rule5 m) (rule6 n m (length rhs) ∷ rule7 mat ∷ rule8 rhs ∷ rule9 place 0 n mat ∷ []) (rule5_passes m count)
        ∙ first_passes (rule6 n m (length rhs)) (rule7 mat ∷ rule8 rhs ∷ rule9 place 0 n mat ∷ []) (rule6_passes n m (length rhs) hr)
        ∙ first_passes (rule7 mat) (rule8 rhs ∷ rule9 place 0 n mat ∷ []) (finite_rule_lem 7 mat (stored_finite place n bij l s f memory whole))
        ∙ ap (λ r. first_refusal (rule8 rhs ∷ r ∷ [])) diagonal_same

    solve_free :
        (rhs work : List Float) → length rhs ≡ n * m → n ≤ length work →
        solve layout (in_state (Factored layout) n b) m (store place l memory) rhs work ≡ solved_by layout (in_state (Factored layout) n b) (free_solved n m l rhs work)
    unfolding solve solved free_solved
    solve_free rhs work hr hw =
        rw (solver_checks_lem rhs (length work) hr hw, load_store place n (layout_bijection layout n b low) l memory s (omega arith))
        (go (accepted (free_checks n l rhs)))
      where
        by : Free → Solved
        by = solved_by layout (in_state (Factored layout) n b)

        go : (c : Bool) → cond c (by (free_done n m l rhs work)) (by (free_left n l rhs work)) ≡ by (cond c (free_done n m l rhs work) (free_left n l rhs work))
        go true = refl
        go false = refl

  raw_suits : T (suits (next (Factor layout) (state_number (Raw layout))))
  unfolding look_up
  raw_suits = elim layout as (λ k. T (suits (next (Factor k) (state_number (Raw k))))) [
    | Packed ↦ tt
    | Blocked ↦ tt
  ]

  -- the factor of a memory that holds the finite matrix a
  factor_free :
      (a : Triangle) (memory work : List Float) → load place (height n) n memory ≡ a → length memory ≡ triangle n → T (all finite memory) →
      needed_work (Factor layout) n b ≤ length work →
      factorize layout (in_state (Raw layout) n b) memory work
      ≡ record {
        result = judged_result (Factor layout) (in_state (Raw layout) n b) (columns_judged n a);
        matrix = store place (columns n a (finished layout n b (columns_verdict n a))) memory;
        work = clear (needed_work (Factor layout) n b) work;
      }
  unfolding factorize factored
  factor_free a memory work e whole f hw =
      rw (
        factor_checks_lem layout (in_state (Raw layout) n b) memory (length work)
            (record { order = order; block_low = low; block_high = high; state = raw_suits; matrix = whole; work = hw }) f,
        e,
      )
      refl

all_finished : (layout : Layout) (n b : ℕ) (v : Verdict) → T (accepted v) → finished layout n b v ≡ n
all_finished Packed n b v t = rw (is_true (accepted v) t) refl
all_finished Blocked n b v t = rw (is_true (accepted v) t) refl

pub rearrange_free :
    (from to : Layout) (shape : Shape) (memory work : List Float) → Sizes (Rearranger from to) shape (length memory) (length work) →
    rearrange from to shape memory work
    ≡ record {
      result = result_of (Rearranger from to) shape success;
      matrix = moved from to shape.order shape.block memory;
      work = clear (block_work shape.order shape.block) work;
    }
unfolding rearrange
rearrange_free from to shape memory work s = rw (rearranger_checks_lem from to shape (length memory) (length work) s) refl

-- the work of a rearranger or the blocked factor is enough for a solver
pub work_enough : (n b : ℕ) → 1 ≤ b → n ≤ block_work n b
unfolding block_work
work_enough zero b low = omega arith
work_enough (suc k) b low =
    let one : 1 ≤ min (suc k) b = omega arith in
    omega (arith, mul-le-mul_left (suc k) one)

-- ---- both pipelines

-- the result of a rearranger that succeeds
abbrev passed : Shape → CallResult
passed shape = record { code = 0; place = 0; value = zero64; exact = false; shape = shape }

module _ (n b m : ℕ) (matrix rhs plain_work blocked_work : List Float) (v : T (all (fits binary64) matrix)) (s : Start n b m matrix rhs plain_work blocked_work) where
  -- the matrix, its verdict, what its factors return, and its factor where that is accepted
  abbrev pub a : Triangle
  a = load (place_of Packed n b) (height n) n matrix

  abbrev pub verdict : Verdict
  verdict = columns_verdict n a

  abbrev factor_result : Layout → CallResult
  factor_result layout = judged_result (Factor layout) (in_state (Raw layout) n b) (columns_judged n a)

  abbrev pub factor_of : Triangle
  factor_of = columns n a n

  abbrev in_blocks : List Float
  in_blocks = moved Packed Blocked n b matrix

  moved_length : length in_blocks ≡ triangle n
  moved_length = length_moved Packed Blocked n b s.block_low matrix s.matrix_length

  moved_matrix : load (place_of Blocked n b) (height n) n in_blocks ≡ a
  moved_matrix = load_moved Packed Blocked n b s.block_low matrix s.matrix_length

  matrix_given : FiniteMatrix n a
  matrix_given = finite_matrix (place_of Packed n b) n (layout_bijection Packed n b s.block_low) matrix s.matrix_length v s.matrix_finite

  moved_finite : T (all finite in_blocks)
  unfolding moved
  moved_finite =
      stored_finite (place_of Blocked n b) n (layout_bijection Blocked n b s.block_low) a (shaped_load (place_of Packed n b) n matrix)
      matrix_given.finites matrix s.matrix_length

  abbrev pub cleared_work : List Float
  cleared_work = clear (block_work n b) blocked_work

  pub cleared_length : length cleared_work ≡ length blocked_work
  cleared_length = length_clear (block_work n b) blocked_work s.blocked_work_length

  pub plain_factor_lem :
      factorize Packed (packed_raw n b) matrix plain_work
      ≡ record { result = factor_result Packed; matrix = store (place_of Packed n b) (columns n a (finished Packed n b verdict)) matrix; work = clear n plain_work }
  plain_factor_lem =
      factor_free n b m s.order s.block_low s.block_high s.rhs_count Packed a matrix plain_work refl s.matrix_length s.matrix_finite
      s.plain_work_length

  blocked_factor :
      factorize Blocked (in_state (Raw Blocked) n b) in_blocks cleared_work
      ≡ record {
        result = factor_result Blocked;
        matrix = store (place_of Blocked n b) (columns n a (finished Blocked n b verdict)) in_blocks;
        work = clear (block_work n b) cleared_work;
      }
  blocked_factor =
      factor_free n b m s.order s.block_low s.block_high s.rhs_count Blocked a in_blocks cleared_work moved_matrix moved_length moved_finite
      (omega (arith, cleared_length, s.blocked_work_length))

  pub there :
      rearrange Packed Blocked (packed_raw n b) matrix blocked_work
      ≡ record { result = passed (in_state (Raw Blocked) n b); matrix = in_blocks; work = cleared_work }
  unfolding state_after look_up
  there =
      rearrange_free Packed Blocked (packed_raw n b) matrix blocked_work
      (record { order = s.order; block_low = s.block_low; block_high = s.block_high; state = tt; matrix = s.matrix_length; work = s.blocked_work_length })

  plain_result : (plain_pipeline n b m matrix rhs plain_work).factor_result ≡ factor_result Packed
  unfolding plain_pipeline
  plain_result = rw plain_factor_lem (cond_both (λ (e : Ended). e.factor_result ≡ factor_result Packed) (accepted verdict) _ _ refl refl)

  blocked_result : (blocked_pipeline n b m matrix rhs blocked_work).factor_result ≡ factor_result Blocked
  unfolding blocked_pipeline
  blocked_result = rw (there, blocked_factor) (cond_both (λ (e : Ended). e.factor_result ≡ factor_result Blocked) (accepted verdict) _ _ refl refl)

  -- ---- a refused factor: both memories are spent

  module _ (e : accepted verdict ≡ false) where
    plain_spent : (plain_pipeline n b m matrix rhs plain_work).shape ≡ in_state Spent n b
    unfolding plain_pipeline
    plain_spent = rw (plain_factor_lem, e) (ap (λ k. record { order = n; block = b; state = k }) (state_spent (Factor Packed) 0 verdict e (columns_spend n a e)))

    blocked_spent : (blocked_pipeline n b m matrix rhs blocked_work).shape ≡ in_state Spent n b
    unfolding blocked_pipeline
    blocked_spent =
        rw (there, blocked_factor, e) (ap (λ k. record { order = n; block = b; state = k }) (state_spent (Factor Blocked) 1 verdict e (columns_spend n a e)))

  -- ---- an accepted factor

  module _ (t : T (accepted verdict)) where
    pub factor_shaped : Shaped n n factor_of
    factor_shaped = shaped_columns n a n (omega arith)

    pub factor_finite : (i j : ℕ) → Entry n i j → T (finite (entry factor_of i j))
    unfolding columns_verdict
    factor_finite i j e =
        columns_finite n a matrix_given n (omega arith) (lowest_accepted (judge_column n a) n t) i j e
        (omega (arith, e.lower, e.inside))

    -- both factors, where they are accepted: the blocked one is the plain one rearranged
    pub plain_accepted :
        factorize Packed (packed_raw n b) matrix plain_work
        ≡ record { result = factor_result Packed; matrix = store (place_of Packed n b) factor_of matrix; work = clear n plain_work }
    plain_accepted = rw (all_finished Packed n b verdict t) at plain_factor_lem

    pub blocked_accepted :
        factorize Blocked (in_state (Raw Blocked) n b) in_blocks cleared_work
        ≡ record {
          result = factor_result Blocked;
          matrix = moved Packed Blocked n b (store (place_of Packed n b) factor_of matrix);
          work = clear (block_work n b) cleared_work;
        }
    unfolding moved
    blocked_accepted =
        let plain : List Float = store (place_of Packed n b) factor_of matrix in
        let bij : Bijection (place_of Blocked n b) n = layout_bijection Blocked n b s.block_low in
        let bij' : Bijection (place_of Packed n b) n = layout_bijection Packed n b s.block_low in
        let same : store (place_of Blocked n b) factor_of in_blocks ≡ store (place_of Blocked n b) (load (place_of Packed n b) (height n) n plain) plain =
        store_whole (place_of Blocked n b) n bij factor_of in_blocks plain factor_shaped moved_length (length_store (place_of Packed n b) n bij' factor_of matrix ∙ s.matrix_length)
        ∙ ap (λ l. store (place_of Blocked n b) l plain) (sym (load_store (place_of Packed n b) n bij' factor_of matrix factor_shaped (omega (arith, s.matrix_length))))
        in
        rw (all_finished Blocked n b verdict t) at blocked_factor
        ∙ ap (λ mem. record { result = factor_result Blocked; matrix = mem; work = clear (block_work n b) cleared_work }) same

    plain_ended_lem :
        plain_pipeline n b m matrix rhs plain_work
        ≡ (let d = free_solved n m factor_of rhs (clear n plain_work) in
        record {
          factor_result = factor_result Packed;
          solver_result = result_of (Solver Packed) (in_state (Factored Packed) n b) d.verdict;
          shape = in_state (Factored Packed) n b;
          matrix = store (place_of Packed n b) factor_of matrix;
          rhs = d.rhs;
          work = d.work;
        })
    unfolding plain_pipeline
    plain_ended_lem =
        rw (
          plain_factor_lem,
          all_finished Packed n b verdict t,
          is_true (accepted verdict) t,
          factor_state Packed n a t,
          solve_free n b m s.order s.block_low s.block_high s.rhs_count Packed factor_of factor_shaped factor_finite matrix s.matrix_length rhs
              (clear n plain_work) s.rhs_length (omega (arith, length_clear n plain_work s.plain_work_length, s.plain_work_length)),
          solver_keeps Packed (free_solved n m factor_of rhs (clear n plain_work)).verdict (free_keeps n m factor_of rhs (clear n plain_work)),
        )
        refl

    abbrev solved_blocks : Free
    solved_blocks = free_solved n m factor_of rhs (clear (block_work n b) cleared_work)

    abbrev factor_blocks : List Float
    factor_blocks = store (place_of Blocked n b) factor_of in_blocks

    blocks_length : length factor_blocks ≡ triangle n
    blocks_length = length_store (place_of Blocked n b) n (layout_bijection Blocked n b s.block_low) factor_of in_blocks ∙ moved_length

    work_length_lem : length solved_blocks.work ≡ length blocked_work
    work_length_lem =
        let twice : length (clear (block_work n b) cleared_work) ≡ length cleared_work =
        length_clear (block_work n b) cleared_work (omega (arith, cleared_length, s.blocked_work_length))
        in
        free_work n m factor_of rhs (clear (block_work n b) cleared_work) (omega (arith, twice, cleared_length, s.blocked_work_length, work_enough n b s.block_low))
        ∙ twice ∙ cleared_length

    -- the way back writes the factor in packed order
    back_matrix : moved Blocked Packed n b factor_blocks ≡ store (place_of Packed n b) factor_of matrix
    unfolding moved
    back_matrix =
        ap (λ l. store (place_of Packed n b) l factor_blocks)
        (load_store (place_of Blocked n b) n (layout_bijection Blocked n b s.block_low) factor_of in_blocks factor_shaped (omega (arith, moved_length)))
        ∙ store_whole (place_of Packed n b) n (layout_bijection Packed n b s.block_low) factor_of factor_blocks matrix factor_shaped blocks_length s.matrix_length

    back :
        rearrange Blocked Packed (in_state (Factored Blocked) n b) factor_blocks solved_blocks.work
        ≡ record {
          result = passed (in_state (Factored Packed) n b);
          matrix = moved Blocked Packed n b factor_blocks;
          work = clear (block_work n b) solved_blocks.work;
        }
    unfolding state_after look_up
    back =
        rearrange_free Blocked Packed (in_state (Factored Blocked) n b) factor_blocks solved_blocks.work
        (record {
          order = s.order;
          block_low = s.block_low;
          block_high = s.block_high;
          state = tt;
          matrix = blocks_length;
          work = omega (arith, work_length_lem, s.blocked_work_length);
        })

    blocked_ended_lem :
        blocked_pipeline n b m matrix rhs blocked_work
        ≡ record {
          factor_result = factor_result Blocked;
          solver_result = result_of (Solver Blocked) (in_state (Factored Blocked) n b) solved_blocks.verdict;
          shape = in_state (Factored Packed) n b;
          matrix = store (place_of Packed n b) factor_of matrix;
          rhs = solved_blocks.rhs;
          work = clear (block_work n b) solved_blocks.work;
        }
    unfolding blocked_pipeline
    blocked_ended_lem =
        rw (
          there,
          blocked_factor,
          all_finished Blocked n b verdict t,
          is_true (accepted verdict) t,
          factor_state Blocked n a t,
          solve_free n b m s.order s.block_low s.block_high s.rhs_count Blocked factor_of factor_shaped factor_finite in_blocks moved_length rhs
              (clear (block_work n b) cleared_work) s.rhs_length
              (omega (arith, length_clear (block_work n b) cleared_work (omega (arith, cleared_length, s.blocked_work_length)), cleared_length, s.blocked_work_length, work_enough n b s.block_low)),
          solver_keeps Blocked solved_blocks.verdict (free_keeps n m factor_of rhs (clear (block_work n b) cleared_work)),
          back,
          back_matrix,
        )
        refl

pub pipelines_agree : PipelinesAgree
pipelines_agree n b m matrix rhs pw bw v s =
    record {
      factors = ap answer (plain_result n b m matrix rhs pw bw v s) ∙ sym (ap answer (blocked_result n b m matrix rhs pw bw v s));
      shape = shapes (accepted (verdict n b m matrix rhs pw bw v s)) refl;
      solvers = λ t.
          ap (λ (e : Ended). answer e.solver_result) (plain t)
          ∙ ap (λ (w : Verdict). record { verdict = w; exact = false }) (free_same n m l rhs (clear n pw) work).0
          ∙ sym (ap (λ (e : Ended). answer e.solver_result) (block t));
      rhs = λ t. ap (λ (e : Ended). e.rhs) (plain t) ∙ (free_same n m l rhs (clear n pw) work).1 ∙ sym (ap (λ (e : Ended). e.rhs) (block t));
      matrix = λ t. ap (λ (e : Ended). e.matrix) (plain t) ∙ sym (ap (λ (e : Ended). e.matrix) (block t));
    }
  where
    l : Triangle
    l = factor_of n b m matrix rhs pw bw v s

    work : List Float
    work = clear (block_work n b) (clear (block_work n b) bw)

    ok : T (succeeded (plain_pipeline n b m matrix rhs pw).factor_result) → T (accepted (verdict n b m matrix rhs pw bw v s))
    ok t = subst (λ r. T (succeeded r)) (plain_result n b m matrix rhs pw bw v s) t

    plain :
        T (succeeded (plain_pipeline n b m matrix rhs pw).factor_result) →
        plain_pipeline n b m matrix rhs pw
        ≡ (let d = free_solved n m l rhs (clear n pw) in
        record {
          factor_result = factor_result n b m matrix rhs pw bw v s Packed;
          solver_result = result_of (Solver Packed) (in_state (Factored Packed) n b) d.verdict;
          shape = in_state (Factored Packed) n b;
          matrix = store (place_of Packed n b) l matrix;
          rhs = d.rhs;
          work = d.work;
        })
    plain t = plain_ended_lem n b m matrix rhs pw bw v s (ok t)

    block :
        T (succeeded (plain_pipeline n b m matrix rhs pw).factor_result) →
        blocked_pipeline n b m matrix rhs bw
        ≡ (let d = free_solved n m l rhs work in
        record {
          factor_result = factor_result n b m matrix rhs pw bw v s Blocked;
          solver_result = result_of (Solver Blocked) (in_state (Factored Blocked) n b) d.verdict;
          shape = in_state (Factored Packed) n b;
          matrix = store (place_of Packed n b) l matrix;
          rhs = d.rhs;
          work = clear (block_work n b) d.work;
        })
    block t = blocked_ended_lem n b m matrix rhs pw bw v s (ok t)

    shapes : (c : Bool) → accepted (verdict n b m matrix rhs pw bw v s) ≡ c → (plain_pipeline n b m matrix rhs pw).shape ≡ (blocked_pipeline n b m matrix rhs bw).shape
    shapes true e =
        let t : T (accepted (verdict n b m matrix rhs pw bw v s)) = rw e tt in
        ap (λ (x : Ended). x.shape) (plain_ended_lem n b m matrix rhs pw bw v s t)
        ∙ sym (ap (λ (x : Ended). x.shape) (blocked_ended_lem n b m matrix rhs pw bw v s t))
    shapes false e = plain_spent n b m matrix rhs pw bw v s e ∙ sym (blocked_spent n b m matrix rhs pw bw v s e)

-- the start's premises are document 01's numbers and lengths, and ask nothing of right-hand sides and work but their lengths
pub start_of :
    (n b m : ℕ) (matrix rhs plain_work blocked_work : List Float) →
    n ≤ 4000 → 1 ≤ b → b ≤ 200 → m ≤ 1000 →
    length matrix ≡ n * (n + 1) / 2 → T (all finite matrix) → length rhs ≡ n * m → n ≤ length plain_work → n * min n b ≤ length blocked_work →
    Start n b m matrix rhs plain_work blocked_work
unfolding triangle block_work
start_of n b m matrix rhs plain_work blocked_work h1 h2 h3 h4 h5 h6 h7 h8 h9 =
    record {
      order = h1;
      block_low = h2;
      block_high = h3;
      rhs_count = h4;
      matrix_length = h5;
      matrix_finite = h6;
      rhs_length = h7;
      plain_work_length = h8;
      blocked_work_length = h9;
    }
