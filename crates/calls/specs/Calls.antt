-- Document 01's six calls, for all inputs: what each returns and what it leaves in every memory. Codes 1 to 9 and 15 leave all memory untouched.
use Rattle.std.specs.Prelude.{ℕ, ◌*◌, ◌≡◌, Bool, false, cond, ◌||◌, List, [], ◌∷◌, ◌++◌, eqb, length, take, drop, replicate, Float}
use Rattle.binary64.specs.Kinds.{zero64}
use Rattle.shape.specs.declared.Shape.{Shape}
use Rattle.shape.specs.Places.{block_of}
use Rattle.calls.specs.declared.Verdict.{Verdict}
use Rattle.calls.specs.declared.CallResult.{CallResult}
use Rattle.calls.specs.Sequences.{iterate, every}
use Rattle.calls.specs.declared.Layout.{Layout}
use Rattle.calls.specs.declared.Layout.TheVariants.{Packed, Blocked}
use Rattle.calls.specs.Triangles.{Triangle, place_of, height, load, store, transfer}
use Rattle.calls.specs.Arithmetic.{cholesky, forward, backward}
use Rattle.calls.specs.declared.Call.{Call}
use Rattle.calls.specs.declared.Call.TheVariants.{Rearranger, Factor, Solver}
use Rattle.calls.specs.declared.states.State.TheVariants.{Spent}
use Rattle.calls.specs.States.{state_number, next, given_by}
use Rattle.calls.specs.Refusals.{needed_work, success, accepted, first_refusal, lowest_refusal, rule1, rule2, rule15, rule3, rule4, rule5, rule6, rule7, rule8, rule9, column_verdict, column_exact, rule12}
use Rattle.calls.specs.declared.Judgement.{Judgement}
use Rattle.calls.specs.Judgements.{judgement}

-- after 10, 11 and 16 the matrix is spent
abbrev pub spends : Verdict → Bool
spends v = eqb v.code 10 || eqb v.code 11 || eqb v.code 16

-- The state that a call returns: its new one on success, spent after those, and unchanged after any other refusal.
unfoldable pub state_after : Call → ℕ → Verdict → ℕ
state_after call state v = cond (accepted v) (given_by (next call state) state) (cond (spends v) (state_number Spent) state)

-- What a call returns, made here alone: of a factor from what its columns are judged to; where no root was taken from the verdict, and the answer is no.
abbrev pub judged_result : Call → Shape → Judgement → CallResult
judged_result call shape j =
    record {
      code = j.verdict.code;
      place = j.verdict.place;
      value = j.verdict.value;
      exact = j.exact;
      shape = record { order = shape.order; block = shape.block; state = state_after call shape.state j.verdict };
    }

abbrev pub result_of : Call → Shape → Verdict → CallResult
result_of call shape v = judged_result call shape (record { verdict = v; exact = false })

-- what a result says beside its shape
abbrev pub answer : CallResult → Judgement
answer r = record { verdict = record { code = r.code; place = r.place; value = r.value }; exact = r.exact }

abbrev pub succeeded : CallResult → Bool
succeeded r = eqb r.code 0

-- what a rearranger or a factor returns and leaves
pub record Done : Type 0 where
  pub result : CallResult
  pub matrix : List Float
  pub work : List Float

-- what a solver returns and leaves; it never alters the factor
pub record Solved : Type 0 where
  pub result : CallResult
  pub rhs : List Float
  pub work : List Float

-- the promise of a call: what it returned and left is what its definition gives
pub record DoneAs (d : Done) (r : CallResult) (matrix' work' : List Float) : Type 0 where
  pub result : r ≡ d.result
  pub matrix : matrix' ≡ d.matrix
  pub work : work' ≡ d.work

pub record SolvedAs (d : Solved) (r : CallResult) (rhs' work' : List Float) : Type 0 where
  pub result : r ≡ d.result
  pub rhs : rhs' ≡ d.rhs
  pub work : work' ≡ d.work

-- the needed length of work memory is +0 and the rest untouched
unfoldable pub clear : ℕ → List Float → List Float
clear needed work = replicate needed zero64 ++ drop needed work

-- ---- the rearrangers

unfoldable pub rearranger_checks : Layout → Layout → Shape → ℕ → ℕ → Verdict
rearranger_checks from to shape matrix_length work_length =
    let call = Rearranger from to in
    let n = shape.order in
    let b = shape.block in
    first_refusal (rule1 n ∷ rule2 call b ∷ rule15 call shape.state ∷ rule3 n matrix_length ∷ rule4 call n b work_length ∷ [])

-- every entry moves from its place in one layout to its place in the other
unfoldable pub moved : Layout → Layout → ℕ → ℕ → List Float → List Float
moved from to n b matrix = transfer (place_of from n b) (place_of to n b) n matrix matrix

unfoldable pub rearrange : Layout → Layout → Shape → List Float → List Float → Done
rearrange from to shape matrix work =
    let call = Rearranger from to in
    let n = shape.order in
    let b = shape.block in
    let checks = rearranger_checks from to shape (length matrix) (length work) in
    cond (accepted checks)
    (record { result = result_of call shape success; matrix = moved from to n b matrix; work = clear (needed_work call n b) work })
    (record { result = result_of call shape checks; matrix = matrix; work = work })

abbrev pub packed_to_blocked : Shape → List Float → List Float → Done
packed_to_blocked = rearrange Packed Blocked

abbrev pub blocked_to_packed : Shape → List Float → List Float → Done
blocked_to_packed = rearrange Blocked Packed

-- ---- the factors

unfoldable pub factor_checks : Layout → Shape → List Float → ℕ → Verdict
factor_checks layout shape matrix work_length =
    let call = Factor layout in
    let n = shape.order in
    let b = shape.block in
    first_refusal
    (rule1 n ∷ rule2 call b ∷ rule15 call shape.state ∷ rule3 n (length matrix) ∷ rule4 call n b work_length ∷ rule7 matrix ∷ [])

-- each column is judged from the columns before it: its verdict, and whether its root is exact
abbrev pub judge_column : ℕ → Triangle → ℕ → Verdict
judge_column n a = λ j. column_verdict (height n) a (cholesky (height n) a j) j

abbrev pub exact_column : ℕ → Triangle → ℕ → Bool
exact_column n a = λ j. column_exact a (cholesky (height n) a j) j

-- codes 10, 11 and 16, and whether every root is exact
unfoldable pub columns_verdict : ℕ → Triangle → Verdict
columns_verdict n a = lowest_refusal (judge_column n a) n

unfoldable pub columns_exact : ℕ → Triangle → Bool
columns_exact n a = every (exact_column n a) n

abbrev pub columns_judged : ℕ → Triangle → Judgement
columns_judged n a = judgement (columns_verdict n a) (columns_exact n a)

-- The columns that are finished in the end: all; or after 10, 11 or 16 those before the place, of the blocked factor those before its block column.
abbrev pub finished : Layout → ℕ → ℕ → Verdict → ℕ
finished Packed n b verdict = cond (accepted verdict) n verdict.place
finished Blocked n b verdict = cond (accepted verdict) n (block_of b verdict.place)

unfoldable pub factored : Layout → Shape → List Float → List Float → Done
factored layout shape matrix work =
    let n = shape.order in
    let b = shape.block in
    let a = load (place_of layout n b) (height n) n matrix in
    let verdict = columns_verdict n a in
    record {
      result = judged_result (Factor layout) shape (columns_judged n a);
      matrix = store (place_of layout n b) (cholesky (height n) a (finished layout n b verdict)) matrix;
      work = clear (needed_work (Factor layout) n b) work;
    }

unfoldable pub factorize : Layout → Shape → List Float → List Float → Done
factorize layout shape matrix work =
    let checks = factor_checks layout shape matrix (length work) in
    cond (accepted checks) (factored layout shape matrix work)
    (record { result = result_of (Factor layout) shape checks; matrix = matrix; work = work })

-- ---- the solvers

unfoldable pub solver_checks : Layout → Shape → ℕ → List Float → List Float → ℕ → Verdict
solver_checks layout shape m matrix rhs work_length =
    let call = Solver layout in
    let n = shape.order in
    let b = shape.block in
    first_refusal
    (rule1 n ∷ rule2 call b ∷ rule15 call shape.state ∷ rule3 n (length matrix) ∷ rule4 call n b work_length ∷ rule5 m ∷
    rule6 n m (length rhs) ∷ rule7 matrix ∷ rule8 rhs ∷ rule9 (place_of layout n b) 0 n matrix ∷ [])

-- Right-hand sides are stored one after another, n values each.
unfoldable pub rhs_part : ℕ → ℕ → List Float → List Float
rhs_part n q rhs = take n (drop (q * n) rhs)

unfoldable pub solution : ℕ → Triangle → List Float → List Float
solution n l rhs = backward n l (forward n l rhs)

-- code 12
unfoldable pub rhs_verdict : ℕ → ℕ → Triangle → List Float → Verdict
rhs_verdict n m l rhs = lowest_refusal (λ q. rule12 q (forward n l (rhs_part n q rhs)) (solution n l (rhs_part n q rhs))) m

-- the solutions of the first count right-hand sides, and the others as they were
unfoldable pub solutions : ℕ → Triangle → ℕ → List Float → List Float
solutions n l count rhs = iterate (λ q done. done ++ solution n l (rhs_part n q rhs)) count [] ++ drop (count * n) rhs

unfoldable pub solved : Layout → Shape → ℕ → List Float → List Float → List Float → Solved
solved layout shape m matrix rhs work =
    let n = shape.order in
    let b = shape.block in
    let l = load (place_of layout n b) (height n) n matrix in
    let verdict = rhs_verdict n m l rhs in
    record {
      result = result_of (Solver layout) shape verdict;
      rhs = solutions n l (cond (accepted verdict) m verdict.place) rhs;
      work = clear (needed_work (Solver layout) n b) work;
    }

unfoldable pub solve : Layout → Shape → ℕ → List Float → List Float → List Float → Solved
solve layout shape m matrix rhs work =
    let checks = solver_checks layout shape m matrix rhs (length work) in
    cond (accepted checks) (solved layout shape m matrix rhs work)
    (record { result = result_of (Solver layout) shape checks; rhs = rhs; work = work })
