-- Document 02, (a): the variance of unknown k, which is value k of the solution for a right-hand side that is 1 at k and +0 elsewhere. It is found as the
-- first value of the solution with the trailing triangle, whose rows and columns are k or later, for a right-hand side whose first value is 1.
use Rattle.std.specs.Prelude.{ℕ, ◌-◌, ◌≤◌, ◌<◌, ◌≡◌, ◌≢◌, cond, List, [], ◌∷◌, T, eqb, length, get_or, replicate, Float}
use Rattle.std.specs.Float.{nan, binary64}
use Rattle.std.specs.Float.Ieee.{fits}
use Rattle.binary64.specs.Kinds.{zero64, one64}
use Rattle.shape.specs.Bounds.{max_order, max_block}
use Rattle.shape.specs.Places.{triangle, block_work}
use Rattle.shape.specs.Layouts.{Entry}
use Rattle.shape.specs.declared.Shape.{Shape}
use Rattle.calls.specs.declared.Verdict.{Verdict}
use Rattle.calls.specs.declared.CallResult.{CallResult}
use Rattle.calls.specs.declared.Layout.{Layout}
use Rattle.calls.specs.declared.Layout.TheVariants.{Packed, Blocked}
use Rattle.calls.specs.declared.Call.TheVariants.{Variance}
use Rattle.calls.specs.declared.states.State.TheVariants.{Factored}
use Rattle.calls.specs.Sequences.{tabulate, all}
use Rattle.calls.specs.Triangles.{Triangle, height, place_of, load_from, store}
use Rattle.calls.specs.Arithmetic.{forward}
use Rattle.calls.specs.States.{state_number}
use Rattle.calls.specs.Refusals.{needed_work, accepted, first_refusal, rule1, rule2, rule15, rule3, rule4, rule14, rule7, rule9, rule12}
use Rattle.calls.specs.Calls.{result_of, answer, succeeded, clear, factorize, solution, solve, packed_to_blocked}
use Rattle.calls.specs.Pipelines.{packed_raw, Start}

-- n values, 1 at k and +0 elsewhere
unfoldable pub unit_rhs : ℕ → ℕ → List Float
unit_rhs n k = tabulate n (λ i. cond (eqb i k) one64 zero64)

-- The memory with +0 in the columns before k, for rule 7: the entries whose row and column are both k or later are those of the other columns.
unfoldable pub columns_from : ℕ → (ℕ → ℕ → ℕ) → ℕ → List Float → List Float
columns_from k place n matrix = store place (tabulate k (λ j. replicate (height n j) zero64)) matrix

unfoldable pub variance_checks : Layout → Shape → ℕ → List Float → ℕ → Verdict
variance_checks layout shape k matrix work_length =
    let call = Variance layout in
    let n = shape.order in
    let b = shape.block in
    let place = place_of layout n b in
    first_refusal
    (rule1 n ∷ rule2 call b ∷ rule15 call shape.state ∷ rule3 n (length matrix) ∷ rule4 call n b work_length ∷ rule14 n k ∷
    rule7 (columns_from k place n matrix) ∷ rule9 place k n matrix ∷ [])

-- With the trailing triangle l, of order p: 12, place 0, if a y or x is not finite, else 0, 0 and the variance.
unfoldable pub variance_verdict : ℕ → Triangle → Verdict
variance_verdict p l =
    let x = solution p l (unit_rhs p 0) in
    let refused = rule12 0 (forward p l (unit_rhs p 0)) x in
    cond (accepted refused) (record { code = 0; place = 0; value = get_or x 0 nan }) refused

-- what a variance call returns and leaves; it alters no matrix
pub record Evaluated : Type 0 where
  pub result : CallResult
  pub work : List Float

pub record EvaluatedAs (d : Evaluated) (r : CallResult) (work' : List Float) : Type 0 where
  pub result : r ≡ d.result
  pub work : work' ≡ d.work

unfoldable pub variance : Layout → Shape → ℕ → List Float → List Float → Evaluated
variance layout shape k matrix work =
    let call = Variance layout in
    let n = shape.order in
    let b = shape.block in
    let checks = variance_checks layout shape k matrix (length work) in
    cond (accepted checks)
    (record {
      result = result_of call shape (variance_verdict (n - k) (load_from k (place_of layout n b) n matrix));
      work = clear (needed_work call n b) work;
    })
    (record { result = result_of call shape checks; work = work })

-- ---- what is proved of it

-- It reads no entries but those whose row and column are both k or later: memories that agree on these give the same.
abbrev pub ReadsTrailing : Type 0
ReadsTrailing =
    (layout : Layout) (shape : Shape) (k : ℕ) (matrix matrix' work : List Float) →
    length matrix ≡ length matrix' →
    ((i j : ℕ) → k ≤ j → Entry shape.order i j →
    get_or matrix (place_of layout shape.order shape.block i j) nan ≡ get_or matrix' (place_of layout shape.order shape.block i j) nan) →
    variance layout shape k matrix work ≡ variance layout shape k matrix' work

-- Where the solver accepts that right-hand side, the call accepts, its value is value k of that solution, and it leaves what the solver leaves.
abbrev pub SolverAgrees : Type 0
SolverAgrees =
    (layout : Layout) (shape : Shape) (k : ℕ) (matrix work : List Float) →
    k < shape.order →
    let s = solve layout shape 1 matrix (unit_rhs shape.order k) work in
    T (succeeded s.result) →
    variance layout shape k matrix work
    ≡ record {
      result = record { code = 0; place = 0; value = get_or s.rhs k nan; exact = s.result.exact; shape = s.result.shape };
      work = s.work;
    }

-- The plain call on a packed memory and the blocked call on what the rearranger makes of it answer the same; but the place under 7, a position in
-- memory, goes by the layout.
pub record SameAnswer (plain block : Evaluated) : Type 0 where
  pub code : plain.result.code ≡ block.result.code
  pub whole : plain.result.code ≢ 7 → answer plain.result ≡ answer block.result

abbrev pub VariancesAgree : Type 0
VariancesAgree =
    (n b k : ℕ) (matrix plain_work blocked_work : List Float) →
    n ≤ max_order →
    1 ≤ b →
    b ≤ max_block →
    length matrix ≡ triangle n →
    n ≤ length plain_work →
    block_work n b ≤ length blocked_work →
    let shape : Shape = record { order = n; block = b; state = state_number (Factored Packed) } in
    let p = packed_to_blocked shape matrix blocked_work in
    SameAnswer (variance Packed shape k matrix plain_work) (variance Blocked p.result.shape k p.matrix p.work)

-- So both ways from a packed matrix, under demand 3's premises: where its factor is accepted, the answers are the same.
abbrev pub FactorVariancesAgree : Type 0
FactorVariancesAgree =
    (n b k : ℕ) (matrix plain_work blocked_work : List Float) →
    T (all (fits binary64) matrix) →
    Start n b 0 matrix [] plain_work blocked_work →
    let f = factorize Packed (packed_raw n b) matrix plain_work in
    let p = packed_to_blocked (packed_raw n b) matrix blocked_work in
    let g = factorize Blocked p.result.shape p.matrix p.work in
    T (succeeded f.result) →
    answer (variance Packed f.result.shape k f.matrix f.work).result ≡ answer (variance Blocked g.result.shape k g.matrix g.work).result
