-- Document 01's P examples as one table, each row under its own line of text, and rows that tell orders of rounding apart. One proposition covers
-- them all. Values stand as bit patterns. Assumes nothing.
use Prim.Native.Nat.{ℕ, ◌+◌}
use mathlib.Core.Path.{◌≡◌, fun_ext, subst}
use mathlib.Core.Bool.{Bool, true, false, cond, not, ◌&&◌}
use mathlib.Core.List.{List, [], ◌∷◌, ◌++◌, map}
use lib.Dec.{T, eqb}
use lib.ListN.{replicate}
use lib.Ieee.{Float, binary64, of_bits, to_bits, mul, sub, div, lt}
use Rattle.binary64.specs.Kinds.{kind, finite, positive}
use Rattle.binary64.specs.Root.{root, squares_to, exact}
use Rattle.binary64.specs.Judged.{judged}
use Rattle.shape.specs.Places.{triangle, packed_place, blocked_place, block_work, rfp_rows, rfp_columns, rfp_row, rfp_column, rfp_place}
use Rattle.shape.specs.declared.Shape.{Shape}
use Rattle.calls.specs.declared.CallResult.{CallResult}
use Rattle.calls.specs.declared.Verdict.{Verdict}
use Rattle.calls.specs.declared.Judgement.{Judgement}
use Rattle.calls.specs.declared.states.State.TheVariants.{Raw, Factored}
use Rattle.calls.specs.declared.Layout.{Layout}
use Rattle.calls.specs.declared.Layout.TheVariants.{Packed, Blocked}
use Rattle.calls.specs.Sequences.{iterate, grow, tabulate, all, every, contains, passing}
use Rattle.calls.specs.Triangles.{entry, height, place_of, load, store_column, store}
use Rattle.calls.specs.Arithmetic.{minus_products, pivot, quotient, below, factor_column, cholesky, forward, backward_rows, backward}
use Rattle.calls.specs.Refusals.{first_refusal, lowest_refusal, rule1, rule2, rule17, rule15, rule3, rises_at, rule20, rule4, rule14, rule5, rule6, finite_rule, rule9, rule11, weak, rule16, column_rules, column_verdict, column_exact, rule12}
use Rattle.calls.specs.States.{state_number, look_up}
use Rattle.calls.specs.Calls.{Done, state_after, answer, clear, rearranger_checks, moved, rearrange, factor_checks, columns_verdict, columns_exact, factored, factorize, solver_checks, rhs_part, solution, rhs_verdict, solutions, solved, solve}
use Rattle.calls.specs.Pipelines.{Ended, plain_pipeline, blocked_pipeline}
use Rattle.calls.specs.Variances.{unit_rhs, columns_from, variance_checks, variance_verdict, variance}
use Rattle.calls.specs.declared.Conversion.{Conversion}
use Rattle.calls.specs.declared.Conversion.TheVariants.{PackedToRfp, RfpToPacked}
use Rattle.calls.specs.Conversions.{converter_checks, convert}
use Rattle.calls.specs.Strikes.{kept, principal, front, struck, strike_checks, strike}
use Rattle.calls.proofs.FactorsBy.{factorize_by}
use Rattle.calls.proofs.Stepwise.{shape_in, force, plain_stepwise, plain_stepwise_lem, blocked_stepwise, blocked_stepwise_lem}
use Rattle.calls.proofs.WeakFirst.{overflow_first}

-- ---- bit patterns

abbrev minus_zero : ℕ
minus_zero = 0x8000_0000_0000_0000

abbrev one : ℕ
one = 0x3FF0_0000_0000_0000

abbrev two : ℕ
two = 0x4000_0000_0000_0000

abbrev three : ℕ
three = 0x4008_0000_0000_0000

abbrev four : ℕ
four = 0x4010_0000_0000_0000

abbrev five : ℕ
five = 0x4014_0000_0000_0000

abbrev six : ℕ
six = 0x4018_0000_0000_0000

abbrev nine : ℕ
nine = 0x4022_0000_0000_0000

abbrev ten : ℕ
ten = 0x4024_0000_0000_0000

abbrev fifteen : ℕ
fifteen = 0x402E_0000_0000_0000

abbrev seventeen : ℕ
seventeen = 0x4031_0000_0000_0000

abbrev minus_one : ℕ
minus_one = 0xBFF0_0000_0000_0000

abbrev minus_two : ℕ
minus_two = 0xC000_0000_0000_0000

abbrev minus_five : ℕ
minus_five = 0xC014_0000_0000_0000

abbrev infinity : ℕ
infinity = 0x7FF0_0000_0000_0000

abbrev not_anumber : ℕ
not_anumber = 0x7FF8_0000_0000_0000

abbrev minus_infinity : ℕ
minus_infinity = 0xFFF0_0000_0000_0000

-- powers of two
abbrev two_to_minus1000 : ℕ
two_to_minus1000 = 0x0170_0000_0000_0000

abbrev two_to_minus500 : ℕ
two_to_minus500 = 0x20B0_0000_0000_0000

abbrev two_to_minus100 : ℕ
two_to_minus100 = 0x39B0_0000_0000_0000

abbrev two_to_minus54 : ℕ
two_to_minus54 = 0x3C90_0000_0000_0000

abbrev two_to_minus27 : ℕ
two_to_minus27 = 0x3E40_0000_0000_0000

abbrev two_to_minus52 : ℕ
two_to_minus52 = 0x3CB0_0000_0000_0000

abbrev two_to_minus50 : ℕ
two_to_minus50 = 0x3CD0_0000_0000_0000

abbrev two_to_minus40 : ℕ
two_to_minus40 = 0x3D70_0000_0000_0000

abbrev two_to_minus20 : ℕ
two_to_minus20 = 0x3EB0_0000_0000_0000

abbrev two_to100 : ℕ
two_to100 = 0x4630_0000_0000_0000

abbrev two_to600 : ℕ
two_to600 = 0x6570_0000_0000_0000

abbrev two_to900 : ℕ
two_to900 = 0x7830_0000_0000_0000

abbrev two_to1000 : ℕ
two_to1000 = 0x7E70_0000_0000_0000

-- the upper neighbours of 1 and 5
abbrev one_plus : ℕ
one_plus = 0x3FF0_0000_0000_0001

abbrev five_plus : ℕ
five_plus = 0x4014_0000_0000_0001

-- ---- comparing by bits

memory : List ℕ → List Float
memory patterns = map (of_bits binary64) patterns

holds : List Float → List ℕ → Bool
holds [] [] = true
holds [] (p ∷ ps) = false
holds (x ∷ xs) [] = false
holds (x ∷ xs) (p ∷ ps) = eqb (to_bits binary64 x) p && holds xs ps

-- code, place, value, and whether every root was exact
abbrev Answer : Type 0
Answer = ℕ × ℕ × ℕ × Bool

-- a factor with every root exact, a factor with a root that is not, and a call that takes none
abbrev all_exact : Answer
all_exact = (0, 0, 0, true)

abbrev some_inexact : Answer
some_inexact = (0, 0, 0, false)

abbrev success : Answer
success = (0, 0, 0, false)

judged_as : Judgement → Answer → Bool
judged_as j expected =
    eqb j.verdict.code expected.0 && eqb j.verdict.place expected.1 && eqb (to_bits binary64 j.verdict.value) expected.2
    && cond expected.3 j.exact (not j.exact)

gives : CallResult → Answer → Bool
unfolding judged_as
gives r expected = judged_as (answer r) expected

decides : Verdict → Answer → Bool
unfolding judged_as
decides v expected = judged_as (record { verdict = v; exact = false }) expected

-- ---- shapes

abbrev raw : Layout → ℕ → ℕ → Shape
raw layout n b = shape_in (state_number (Raw layout)) n b

abbrev factor : Layout → ℕ → ℕ → Shape
factor layout n b = shape_in (state_number (Factored layout)) n b

same_shape : Shape → Shape → Bool
same_shape s t = eqb s.order t.order && eqb s.block t.block && eqb s.state t.state

-- work memory of one value more than is needed, none of them zero, and what a call leaves there
used : ℕ → List Float
unfolding memory
used needed = memory (replicate (needed + 1) infinity)

cleared : ℕ → List ℕ
cleared needed = replicate needed 0 ++ (infinity ∷ [])

-- ---- the tests of a row

-- from to n b needed matrix; the raw matrix afterwards
moves : Layout → Layout → ℕ → ℕ → ℕ → List ℕ → List ℕ → Bool
unfolding memory holds gives same_shape used cleared
moves from to n b needed matrix after =
    let d = rearrange from to (raw from n b) (memory matrix) (used needed) in
    gives d.result success && same_shape d.result.shape (raw to n b) && holds d.matrix after && holds d.work (cleared needed)

-- layout n b needed matrix; the result and the matrix afterwards, which is spent where a column is refused
factors : Layout → ℕ → ℕ → ℕ → List ℕ → Answer → List ℕ → Bool
unfolding memory holds gives same_shape used cleared
factors layout n b needed matrix answer after =
    let d = factorize layout (raw layout n b) (memory matrix) (used needed) in
    gives d.result answer && same_shape d.result.shape (cond (eqb answer.0 0) (factor layout n b) (shape_in 4 n b)) && holds d.matrix after
    && holds d.work (cleared needed)

-- layout n b m l rhs; the result and the right-hand sides afterwards
solves : Layout → ℕ → ℕ → ℕ → List ℕ → List ℕ → Answer → List ℕ → Bool
unfolding memory holds gives same_shape used cleared
solves layout n b m l rhs answer after =
    let d = solve layout (factor layout n b) m (memory l) (memory rhs) (used n) in
    gives d.result answer && same_shape d.result.shape (factor layout n b) && holds d.rhs after && holds d.work (cleared n)

-- The same calls refused by a check, with work memory of any length: the result, and the shape and all memory as they were.
move_refused : Layout → Layout → ℕ → ℕ → List ℕ → List ℕ → Answer → Bool
unfolding memory holds gives same_shape
move_refused from to n b matrix work answer =
    let d = rearrange from to (raw from n b) (memory matrix) (memory work) in
    gives d.result answer && same_shape d.result.shape (raw from n b) && holds d.matrix matrix && holds d.work work

factor_refused : Layout → ℕ → ℕ → List ℕ → List ℕ → Answer → Bool
unfolding memory holds gives same_shape
factor_refused layout n b matrix work answer =
    let d = factorize layout (raw layout n b) (memory matrix) (memory work) in
    gives d.result answer && same_shape d.result.shape (raw layout n b) && holds d.matrix matrix && holds d.work work

solve_refused : Layout → ℕ → ℕ → ℕ → List ℕ → List ℕ → List ℕ → Answer → Bool
unfolding memory holds gives same_shape
solve_refused layout n b m l rhs work answer =
    let d = solve layout (factor layout n b) m (memory l) (memory rhs) (memory work) in
    gives d.result answer && same_shape d.result.shape (factor layout n b) && holds d.rhs rhs && holds d.work work

-- layout n b k l; the answer of a variance call, and the work memory cleared
varies : Layout → ℕ → ℕ → ℕ → List ℕ → Answer → Bool
unfolding memory holds gives same_shape used cleared
varies layout n b k l answer =
    let d = variance layout (factor layout n b) k (memory l) (used n) in
    gives d.result answer && same_shape d.result.shape (factor layout n b) && holds d.work (cleared n)

-- refused by a check, with work memory of any length
variance_refused : Layout → ℕ → ℕ → ℕ → List ℕ → List ℕ → Answer → Bool
unfolding memory holds gives same_shape
variance_refused layout n b k l work answer =
    let d = variance layout (factor layout n b) k (memory l) (memory work) in
    gives d.result answer && same_shape d.result.shape (factor layout n b) && holds d.work work

-- conversion form n b source; what a target of infinities holds afterwards
converts : Conversion → ℕ → ℕ → ℕ → List ℕ → List ℕ → Bool
unfolding memory holds gives same_shape
converts conversion form n b source after =
    let d = convert conversion form (factor Packed n b) (memory source) (memory (map (λ p. infinity) source)) in
    gives d.result success && same_shape d.result.shape (factor Packed n b) && holds d.target after

-- both ways
both_ways : ℕ → ℕ → List ℕ → List ℕ → Bool
unfolding converts
both_ways form n packed rfp = converts PackedToRfp form n n packed rfp && converts RfpToPacked form n n rfp packed

-- Both refused by a check, with memories of any length: the result, and the shape and the target as they were.
conversion_refused : ℕ → Shape → List ℕ → List ℕ → Answer → Bool
unfolding memory holds gives same_shape
conversion_refused form shape source target answer =
    let d = convert PackedToRfp form shape (memory source) (memory target) in
    let e = convert RfpToPacked form shape (memory source) (memory target) in
    gives d.result answer && same_shape d.result.shape shape && holds d.target target
    && gives e.result answer && same_shape e.result.shape shape && holds e.target target

-- list n b matrix; the order and the matrix afterwards
strikes : List ℕ → ℕ → ℕ → List ℕ → ℕ → List ℕ → Bool
unfolding memory holds gives same_shape
strikes list n b matrix order after =
    let d = strike (raw Packed n b) list (memory matrix) in
    gives d.result success && same_shape d.result.shape (raw Packed order b) && holds d.matrix after

strike_refused : List ℕ → Shape → List ℕ → Answer → Bool
unfolding memory holds gives same_shape
strike_refused list shape matrix answer =
    let d = strike shape list (memory matrix) in
    gives d.result answer && same_shape d.result.shape shape && holds d.matrix matrix

-- a call of a state, with the states from one on: the code that each gives, and the state returned
states_are : (ℕ → CallResult) → ℕ → List (ℕ × ℕ) → Bool
states_are call state [] = true
states_are call state (e ∷ es) = eqb (call state).code e.0 && eqb (call state).shape.state e.1 && states_are call (state + 1) es

-- a rearranger or factor refused by 15: the state, and all memory as it was
unsuited : Done → ℕ → List ℕ → List ℕ → Bool
unfolding holds gives
unsuited d state matrix work = gives d.result (15, 0, 0, false) && eqb d.result.shape.state state && holds d.matrix matrix && holds d.work work

-- a pipeline of order n and block length b: needed; the state of both results and that at the end; the factor's and the solver's answer, the matrix and the
-- right-hand sides
ends : Ended → ℕ → ℕ → ℕ → ℕ → ℕ → Answer → Answer → List ℕ → List ℕ → Bool
unfolding holds gives same_shape cleared
ends e n b needed returned state factor solver matrix rhs =
    same_shape e.factor_result.shape (shape_in returned n b) && same_shape e.solver_result.shape (shape_in returned n b) && same_shape e.shape (shape_in state n b)
    && gives e.factor_result factor && gives e.solver_result solver && holds e.matrix matrix && holds e.rhs rhs && holds e.work (cleared needed)

-- a pipeline whose first call is refused: the answer, and the shape and all memory as they were
refuses : Ended → ℕ → ℕ → Answer → List ℕ → List ℕ → List ℕ → Bool
unfolding holds gives same_shape
refuses e n b answer matrix rhs work =
    same_shape e.factor_result.shape (shape_in 0 n b) && same_shape e.solver_result.shape (shape_in 0 n b) && same_shape e.shape (shape_in 0 n b)
    && gives e.factor_result answer && gives e.solver_result answer && holds e.matrix matrix && holds e.rhs rhs && holds e.work work

abbrev Pipeline : Type 0
Pipeline = ℕ → ℕ → ℕ → List Float → List Float → List Float → Ended

-- b needed returned: the job of document 01, its factor in packed order and its solution
job : Pipeline → ℕ → ℕ → ℕ → Bool
unfolding memory used ends
job pipeline b needed returned =
    ends (pipeline 3 b 1 (memory (four ∷ two ∷ minus_two ∷ ten ∷ five ∷ six ∷ [])) (memory (four ∷ seventeen ∷ nine ∷ [])) (used needed)) 3 b needed returned 2 all_exact success
    (two ∷ one ∷ minus_one ∷ three ∷ two ∷ one ∷ []) (one ∷ one ∷ one ∷ [])

-- n b i j; the place
at : ℕ → ℕ → ℕ → ℕ → ℕ → Bool
at n b i j place = eqb (blocked_place n b i j) place

has_root : ℕ → ℕ → Bool
has_root v r = eqb (to_bits binary64 (root (of_bits binary64 v))) r

-- a(j,j) at entry and a pivot
is_weak : ℕ → ℕ → Bool
is_weak entered p = weak (of_bits binary64 entered) (of_bits binary64 p)

-- column 3, with a(j,j) at entry, a pivot and whether the entries below are finite
judges : ℕ → ℕ → Bool → Answer → Bool
unfolding decides
judges entered p finite_below answer = decides (column_rules 3 (of_bits binary64 entered) (of_bits binary64 p) finite_below) answer

-- ---- the table

pub rows : List Bool
unfolding moves factors solves move_refused factor_refused solve_refused states_are unsuited same_shape holds at has_root is_weak judges gives decides memory used
rows =
    -- n 0, empty memory: success.
    gives (rearrange Packed Blocked (raw Packed 0 1) [] []).result success
    ∷ gives (rearrange Blocked Packed (raw Blocked 0 1) [] []).result success
    ∷ gives (factorize Packed (raw Packed 0 1) [] []).result all_exact
    ∷ gives (factorize Blocked (raw Blocked 0 1) [] []).result all_exact
    ∷ gives (solve Packed (factor Packed 0 1) 0 [] [] []).result success
    ∷ gives (solve Blocked (factor Blocked 0 1) 0 [] [] []).result success
    ∷ moves Packed Blocked 0 1 0 [] []
    ∷ moves Blocked Packed 0 1 0 [] []
    ∷ factors Packed 0 1 0 [] all_exact []
    ∷ factors Blocked 0 1 0 [] all_exact []
    ∷ solves Packed 0 1 0 [] [] success []
    ∷ solves Packed 0 1 1000 [] [] success []
    ∷ solves Blocked 0 1 0 [] [] success []
    ∷ solves Blocked 0 1 1000 [] [] success []
    -- matrix 4 gives 2; +0 gives 10, place 0, value +0; −0 gives 10 with value −0.
    ∷ factors Packed 1 1 1 (four ∷ []) all_exact (two ∷ [])
    ∷ factors Blocked 1 1 1 (four ∷ []) all_exact (two ∷ [])
    ∷ factors Packed 1 1 1 (0 ∷ []) (10, 0, 0, false) (0 ∷ [])
    ∷ factors Blocked 1 1 1 (0 ∷ []) (10, 0, 0, false) (0 ∷ [])
    ∷ factors Packed 1 1 1 (minus_zero ∷ []) (10, 0, minus_zero, false) (minus_zero ∷ [])
    ∷ factors Blocked 1 1 1 (minus_zero ∷ []) (10, 0, minus_zero, false) (minus_zero ∷ [])
    -- the job above, with b 2, call by call: its blocked factor is 2, 1, 3, −1, 2, 1.
    ∷ factors Packed 3 2 3 (four ∷ two ∷ minus_two ∷ ten ∷ five ∷ six ∷ []) all_exact (two ∷ one ∷ minus_one ∷ three ∷ two ∷ one ∷ [])
    ∷ moves Packed Blocked 3 2 6 (four ∷ two ∷ minus_two ∷ ten ∷ five ∷ six ∷ []) (four ∷ two ∷ ten ∷ minus_two ∷ five ∷ six ∷ [])
    ∷ factors Blocked 3 2 6 (four ∷ two ∷ ten ∷ minus_two ∷ five ∷ six ∷ []) all_exact (two ∷ one ∷ three ∷ minus_one ∷ two ∷ one ∷ [])
    ∷ solves Blocked 3 2 1 (two ∷ one ∷ three ∷ minus_one ∷ two ∷ one ∷ []) (four ∷ seventeen ∷ nine ∷ []) success (one ∷ one ∷ one ∷ [])
    ∷ moves Blocked Packed 3 2 6 (two ∷ one ∷ three ∷ minus_one ∷ two ∷ one ∷ []) (two ∷ one ∷ minus_one ∷ three ∷ two ∷ one ∷ [])
    -- packed 1, 1, 1 (n 2): 10, place 1, value +0.
    ∷ factors Packed 2 1 2 (one ∷ one ∷ one ∷ []) (10, 1, 0, false) (one ∷ one ∷ one ∷ [])
    ∷ factors Blocked 2 1 2 (one ∷ one ∷ one ∷ []) (10, 1, 0, false) (one ∷ one ∷ one ∷ [])
    ∷ factors Blocked 2 2 4 (one ∷ one ∷ one ∷ []) (10, 1, 0, false) (one ∷ one ∷ one ∷ [])
    -- packed 2^−1000, 2^600, 1: 11, place 0.
    ∷ factors Packed 2 1 2 (two_to_minus1000 ∷ two_to600 ∷ one ∷ []) (11, 0, 0, false) (two_to_minus1000 ∷ two_to600 ∷ one ∷ [])
    ∷ factors Blocked 2 1 2 (two_to_minus1000 ∷ two_to600 ∷ one ∷ []) (11, 0, 0, false) (two_to_minus1000 ∷ two_to600 ∷ one ∷ [])
    ∷ factors Blocked 2 2 4 (two_to_minus1000 ∷ two_to600 ∷ one ∷ []) (11, 0, 0, false) (two_to_minus1000 ∷ two_to600 ∷ one ∷ [])
    -- packed 2^−1000, 0, 2^600, −1, 0, 1, b 2: 11, place 0, though the diagonal block meets −1 first.
    ∷ factors Packed 3 2 3 (two_to_minus1000 ∷ 0 ∷ two_to600 ∷ minus_one ∷ 0 ∷ one ∷ []) (11, 0, 0, false)
    (two_to_minus1000 ∷ 0 ∷ two_to600 ∷ minus_one ∷ 0 ∷ one ∷ [])
    ∷ factors Blocked 3 2 6 (two_to_minus1000 ∷ 0 ∷ minus_one ∷ two_to600 ∷ 0 ∷ one ∷ []) (11, 0, 0, false)
    (two_to_minus1000 ∷ 0 ∷ minus_one ∷ two_to600 ∷ 0 ∷ one ∷ [])
    -- factor 2^−500, right side 2^600: 12, place 0.
    ∷ solves Packed 1 1 1 (two_to_minus500 ∷ []) (two_to600 ∷ []) (12, 0, 0, false) (two_to600 ∷ [])
    ∷ solves Blocked 1 1 1 (two_to_minus500 ∷ []) (two_to600 ∷ []) (12, 0, 0, false) (two_to600 ∷ [])
    -- n 10, b 3: (9,2) at 26, (3,3) at 27, (9,5) at 44, (9,9) at 54.
    ∷ at 10 3 9 2 26
    ∷ at 10 3 3 3 27
    ∷ at 10 3 9 5 44
    ∷ at 10 3 9 9 54
    -- roots by bits: 0000000000000001 gives 1E60000000000000; 3FEFFFFFFFFFFFFF gives itself; 4000000000000000 gives 3FF6A09E667F3BCD.
    ∷ has_root 0x0000_0000_0000_0001 0x1E60_0000_0000_0000
    ∷ has_root 0x3FEF_FFFF_FFFF_FFFF 0x3FEF_FFFF_FFFF_FFFF
    ∷ has_root 0x4000_0000_0000_0000 0x3FF6_A09E_667F_3BCD
    -- ---- document 02, (e): 4 above is exact, and so are the job on both pipelines and n 0; 7, 10 and 11 are not.
    -- The matrix 2 is not, the smallest subnormal is.
    ∷ factors Packed 1 1 1 (two ∷ []) some_inexact (0x3FF6_A09E_667F_3BCD ∷ [])
    ∷ factors Blocked 1 2 1 (two ∷ []) some_inexact (0x3FF6_A09E_667F_3BCD ∷ [])
    ∷ factors Packed 1 1 1 (1 ∷ []) all_exact (0x1E60_0000_0000_0000 ∷ [])
    ∷ factors Blocked 1 2 1 (1 ∷ []) all_exact (0x1E60_0000_0000_0000 ∷ [])
    -- One root that is not exact among others that are: the first, and the last.
    ∷ factors Packed 2 1 2 (two ∷ 0 ∷ four ∷ []) some_inexact (0x3FF6_A09E_667F_3BCD ∷ 0 ∷ two ∷ [])
    ∷ factors Blocked 2 2 4 (two ∷ 0 ∷ four ∷ []) some_inexact (0x3FF6_A09E_667F_3BCD ∷ 0 ∷ two ∷ [])
    ∷ factors Packed 2 1 2 (four ∷ 0 ∷ two ∷ []) some_inexact (two ∷ 0 ∷ 0x3FF6_A09E_667F_3BCD ∷ [])
    ∷ factors Blocked 2 2 4 (four ∷ 0 ∷ two ∷ []) some_inexact (two ∷ 0 ∷ 0x3FF6_A09E_667F_3BCD ∷ [])
    -- ---- document 02, (c): the bound is weak, its upper neighbour is not; what is not greater than zero is none.
    ∷ is_weak one two_to_minus40
    ∷ is_weak one 0x3D6F_FFFF_FFFF_FFFF
    ∷ not (is_weak one 0x3D70_0000_0000_0001)
    ∷ is_weak three 0x3D88_0000_0000_0000
    ∷ not (is_weak three 0x3D88_0000_0000_0001)
    ∷ not (is_weak one 0)
    ∷ not (is_weak one minus_one)
    -- The product is rounded: in units of the smallest subnormal 1 is 1, 1.5 is 2, and 0.5 is 0, below which nothing is weak.
    ∷ is_weak 0x0000_0100_0000_0000 1
    ∷ is_weak 0x0000_0180_0000_0000 2
    ∷ not (is_weak 0x0000_0180_0000_0000 3)
    ∷ not (is_weak 0x0000_0080_0000_0000 1)
    ∷ not (is_weak 1 1)
    -- The pivots 1 − (1 − 2^−41)², rounded to 2^−40, and 2^−39 − 2^−40 (1 − 2^−53)², its upper neighbour.
    ∷ factors Packed 2 1 2 (one ∷ 0x3FEF_FFFF_FFFF_F000 ∷ one ∷ []) (16, 1, two_to_minus40, false) (one ∷ 0x3FEF_FFFF_FFFF_F000 ∷ one ∷ [])
    ∷ factors Packed 3 1 3 (one ∷ 0 ∷ 0x3FEF_FFFF_FFFF_E000 ∷ one ∷ 0x3EAF_FFFF_FFFF_FFFF ∷ one ∷ []) some_inexact
    (one ∷ 0 ∷ 0x3FEF_FFFF_FFFF_E000 ∷ one ∷ 0x3EAF_FFFF_FFFF_FFFF ∷ two_to_minus20 ∷ [])
    -- What counts is a(j,j) at entry: not a(0,0), and not what the first products leave of it, here 2^−39.
    ∷ factors Packed 2 1 2 (one ∷ 0 ∷ two_to_minus50 ∷ []) all_exact (one ∷ 0 ∷ 0x3E60_0000_0000_0000 ∷ [])
    ∷ factors Packed 3 1 3 (one ∷ 0 ∷ 0x3FEF_FFFF_FFFF_E000 ∷ one ∷ two_to_minus20 ∷ one ∷ []) (16, 2, two_to_minus40, false)
    (one ∷ 0 ∷ 0x3FEF_FFFF_FFFF_E000 ∷ one ∷ two_to_minus20 ∷ one ∷ [])
    -- Packed 1, 1, 1 + 2^−52: 16, place 1, value 2^−52.
    ∷ factors Packed 2 1 2 (one ∷ one ∷ one_plus ∷ []) (16, 1, two_to_minus52, false) (one ∷ one ∷ one_plus ∷ [])
    ∷ factors Blocked 2 1 2 (one ∷ one ∷ one_plus ∷ []) (16, 1, two_to_minus52, false) (one ∷ one ∷ one_plus ∷ [])
    ∷ factors Blocked 2 2 4 (one ∷ one ∷ one_plus ∷ []) (16, 1, two_to_minus52, false) (one ∷ one ∷ one_plus ∷ [])
    -- What stays after it is what stays after 10, in the same and in a later block column.
    ∷ factors Packed 3 2 3 (four ∷ two ∷ minus_two ∷ ten ∷ five ∷ five_plus ∷ []) (16, 2, two_to_minus50, false) (two ∷ one ∷ minus_one ∷ three ∷ two ∷ five_plus ∷ [])
    ∷ factors Blocked 3 2 6 (four ∷ two ∷ ten ∷ minus_two ∷ five ∷ five_plus ∷ []) (16, 2, two_to_minus50, false) (two ∷ one ∷ three ∷ minus_one ∷ two ∷ five_plus ∷ [])
    ∷ factors Blocked 3 3 9 (four ∷ two ∷ ten ∷ minus_two ∷ five ∷ five_plus ∷ []) (16, 2, two_to_minus50, false) (four ∷ two ∷ ten ∷ minus_two ∷ five ∷ five_plus ∷ [])
    -- One before a column refused by 10 decides, and before one that overflows; one after either does not.
    ∷ factors Packed 3 2 3 (one ∷ one ∷ 0 ∷ one_plus ∷ 0 ∷ minus_one ∷ []) (16, 1, two_to_minus52, false) (one ∷ one ∷ 0 ∷ one_plus ∷ 0 ∷ minus_one ∷ [])
    ∷ factors Blocked 3 3 9 (one ∷ one ∷ one_plus ∷ 0 ∷ 0 ∷ minus_one ∷ []) (16, 1, two_to_minus52, false) (one ∷ one ∷ one_plus ∷ 0 ∷ 0 ∷ minus_one ∷ [])
    ∷ factors Blocked 4 4 16 (one ∷ one ∷ one_plus ∷ 0 ∷ 0 ∷ two_to_minus1000 ∷ 0 ∷ 0 ∷ two_to600 ∷ one ∷ []) (16, 1, two_to_minus52, false)
    (one ∷ one ∷ one_plus ∷ 0 ∷ 0 ∷ two_to_minus1000 ∷ 0 ∷ 0 ∷ two_to600 ∷ one ∷ [])
    ∷ factors Packed 3 2 3 (minus_one ∷ 0 ∷ 0 ∷ one ∷ one ∷ one_plus ∷ []) (10, 0, minus_one, false) (minus_one ∷ 0 ∷ 0 ∷ one ∷ one ∷ one_plus ∷ [])
    ∷ factors Blocked 3 3 9 (minus_one ∷ 0 ∷ one ∷ 0 ∷ one ∷ one_plus ∷ []) (10, 0, minus_one, false) (minus_one ∷ 0 ∷ one ∷ 0 ∷ one ∷ one_plus ∷ [])
    ∷ factors Blocked 4 4 16 (two_to_minus1000 ∷ 0 ∷ one ∷ 0 ∷ one ∷ one_plus ∷ two_to600 ∷ 0 ∷ 0 ∷ one ∷ []) (11, 0, 0, false)
    (two_to_minus1000 ∷ 0 ∷ one ∷ 0 ∷ one ∷ one_plus ∷ two_to600 ∷ 0 ∷ 0 ∷ one ∷ [])
    -- ---- document 02, (g): a weak column that overflows is 16; where just one of the rules holds, it decides; 10 comes before both.
    ∷ judges one two_to_minus50 false (16, 3, two_to_minus50, false)
    ∷ judges one two_to_minus50 true (16, 3, two_to_minus50, false)
    ∷ judges one two false (11, 3, 0, false)
    ∷ judges one two true success
    ∷ judges one minus_one false (10, 3, minus_one, false)
    ∷ factors Packed 3 2 3 (four ∷ two ∷ 0 ∷ one_plus ∷ two_to1000 ∷ one ∷ []) (16, 1, two_to_minus52, false) (two ∷ one ∷ 0 ∷ one_plus ∷ two_to1000 ∷ one ∷ [])
    ∷ factors Blocked 3 1 3 (four ∷ two ∷ 0 ∷ one_plus ∷ two_to1000 ∷ one ∷ []) (16, 1, two_to_minus52, false) (two ∷ one ∷ 0 ∷ one_plus ∷ two_to1000 ∷ one ∷ [])
    ∷ factors Blocked 3 2 6 (four ∷ two ∷ one_plus ∷ 0 ∷ two_to1000 ∷ one ∷ []) (16, 1, two_to_minus52, false) (four ∷ two ∷ one_plus ∷ 0 ∷ two_to1000 ∷ one ∷ [])
    -- Under the former order it is 11.
    ∷ gives (factorize_by Packed (raw Packed 3 2) (memory (four ∷ two ∷ 0 ∷ one_plus ∷ two_to1000 ∷ one ∷ [])) (used 3) overflow_first).result (11, 1, 0, false)
    ∷ gives (factorize_by Blocked (raw Blocked 3 2) (memory (four ∷ two ∷ one_plus ∷ 0 ∷ two_to1000 ∷ one ∷ [])) (used 6) overflow_first).result (11, 1, 0, false)
    -- Column 0 overflows, column 1 is weak and overflows: 11, place 0.
    ∷ factors Packed 3 2 3 (two_to_minus1000 ∷ two_to_minus500 ∷ two_to600 ∷ one_plus ∷ 0 ∷ one ∷ []) (11, 0, 0, false)
    (two_to_minus1000 ∷ two_to_minus500 ∷ two_to600 ∷ one_plus ∷ 0 ∷ one ∷ [])
    ∷ factors Blocked 3 2 6 (two_to_minus1000 ∷ two_to_minus500 ∷ one_plus ∷ two_to600 ∷ 0 ∷ one ∷ []) (11, 0, 0, false)
    (two_to_minus1000 ∷ two_to_minus500 ∷ one_plus ∷ two_to600 ∷ 0 ∷ one ∷ [])
    -- ---- document 02, (b): every call with every state, and with one past the last.
    ∷ states_are (λ s. (rearrange Packed Blocked (shape_in s 1 1) (memory (four ∷ [])) (used 1)).result) 0
    ((0, 1) ∷ (15, 1) ∷ (0, 3) ∷ (15, 3) ∷ (15, 4) ∷ (15, 5) ∷ [])
    ∷ states_are (λ s. (rearrange Blocked Packed (shape_in s 1 1) (memory (four ∷ [])) (used 1)).result) 0
    ((15, 0) ∷ (0, 0) ∷ (15, 2) ∷ (0, 2) ∷ (15, 4) ∷ (15, 5) ∷ [])
    ∷ states_are (λ s. (factorize Packed (shape_in s 1 1) (memory (four ∷ [])) (used 1)).result) 0
    ((0, 2) ∷ (15, 1) ∷ (15, 2) ∷ (15, 3) ∷ (15, 4) ∷ (15, 5) ∷ [])
    ∷ states_are (λ s. (factorize Blocked (shape_in s 1 1) (memory (four ∷ [])) (used 1)).result) 0
    ((15, 0) ∷ (0, 3) ∷ (15, 2) ∷ (15, 3) ∷ (15, 4) ∷ (15, 5) ∷ [])
    ∷ states_are (λ s. (solve Packed (shape_in s 1 1) 1 (memory (two ∷ [])) (memory (four ∷ [])) (used 1)).result) 0
    ((15, 0) ∷ (15, 1) ∷ (0, 2) ∷ (15, 3) ∷ (15, 4) ∷ (15, 5) ∷ [])
    ∷ states_are (λ s. (solve Blocked (shape_in s 1 1) 1 (memory (two ∷ [])) (memory (four ∷ [])) (used 1)).result) 0
    ((15, 0) ∷ (15, 1) ∷ (15, 2) ∷ (0, 3) ∷ (15, 4) ∷ (15, 5) ∷ [])
    -- 15 leaves all memory; it comes after 1 and 2, and before 3 and all later ones. The plain calls do not judge b.
    ∷ unsuited (rearrange Packed Blocked (shape_in 1 3 2) (memory (four ∷ two ∷ [])) (memory (infinity ∷ []))) 1 (four ∷ two ∷ []) (infinity ∷ [])
    ∷ unsuited (rearrange Blocked Packed (shape_in 4 3 2) (memory (four ∷ two ∷ [])) (memory (infinity ∷ []))) 4 (four ∷ two ∷ []) (infinity ∷ [])
    ∷ unsuited (factorize Packed (shape_in 2 3 2) (memory (four ∷ infinity ∷ [])) (memory (infinity ∷ []))) 2 (four ∷ infinity ∷ []) (infinity ∷ [])
    ∷ unsuited (factorize Blocked (shape_in 0 3 2) (memory (four ∷ infinity ∷ [])) (memory (infinity ∷ []))) 0 (four ∷ infinity ∷ []) (infinity ∷ [])
    ∷ decides (rearranger_checks Packed Blocked (shape_in 4 4001 0) 0 0) (1, 0, 0, false)
    ∷ decides (rearranger_checks Packed Blocked (shape_in 4 1 0) 0 0) (2, 0, 0, false)
    ∷ decides (rearranger_checks Blocked Packed (shape_in 4 1 201) 0 0) (2, 0, 0, false)
    ∷ decides (factor_checks Blocked (shape_in 4 4001 0) [] 0) (1, 0, 0, false)
    ∷ decides (factor_checks Blocked (shape_in 4 1 0) [] 0) (2, 0, 0, false)
    ∷ decides (factor_checks Packed (shape_in 4 1 0) [] 0) (15, 0, 0, false)
    ∷ decides (solver_checks Blocked (shape_in 4 4001 0) 0 [] [] 0) (1, 0, 0, false)
    ∷ decides (solver_checks Blocked (shape_in 4 1 0) 0 [] [] 0) (2, 0, 0, false)
    ∷ decides (solver_checks Packed (shape_in 0 1 0) 1001 [] (memory (infinity ∷ [])) 0) (15, 0, 0, false)
    ∷ decides (solver_checks Blocked (shape_in 2 1 1) 1001 [] (memory (infinity ∷ [])) 0) (15, 0, 0, false)
    -- Spent memory is refused of order 0 too, and without right-hand sides.
    ∷ unsuited (rearrange Packed Blocked (shape_in 4 0 1) [] (memory (infinity ∷ []))) 4 [] (infinity ∷ [])
    ∷ unsuited (factorize Packed (shape_in 4 0 1) [] (memory (infinity ∷ []))) 4 [] (infinity ∷ [])
    ∷ decides (solver_checks Packed (shape_in 0 0 1) 0 [] [] 0) (15, 0, 0, false)
    ∷ decides (solver_checks Blocked (shape_in 4 1 1) 0 (memory (two ∷ [])) [] 1) (15, 0, 0, false)
    -- A factor moves as a raw matrix does, and stays a factor.
    ∷ same_shape (rearrange Packed Blocked (factor Packed 3 2) (memory (two ∷ one ∷ minus_one ∷ three ∷ two ∷ one ∷ [])) (used 6)).result.shape (factor Blocked 3 2)
    ∷ holds (rearrange Packed Blocked (factor Packed 3 2) (memory (two ∷ one ∷ minus_one ∷ three ∷ two ∷ one ∷ [])) (used 6)).matrix (two ∷ one ∷ three ∷ minus_one ∷ two ∷ one ∷ [])
    -- ---- beyond document 01's list
    -- What stays after 10: the plain factor keeps its finished columns, the blocked one its finished block columns.
    ∷ factors Packed 2 1 2 (four ∷ two ∷ one ∷ []) (10, 1, 0, false) (two ∷ one ∷ one ∷ [])
    ∷ factors Blocked 2 1 2 (four ∷ two ∷ one ∷ []) (10, 1, 0, false) (two ∷ one ∷ one ∷ [])
    ∷ factors Blocked 2 2 4 (four ∷ two ∷ one ∷ []) (10, 1, 0, false) (four ∷ two ∷ one ∷ [])
    -- The pivot 0 − 2^1200 is −infinity.
    ∷ factors Packed 2 1 2 (one ∷ two_to600 ∷ 0 ∷ []) (10, 1, minus_infinity, false) (one ∷ two_to600 ∷ 0 ∷ [])
    -- After 12 an earlier right-hand side holds its solution, a later one its entry values.
    ∷ solves Packed 1 1 3 (two_to_minus500 ∷ []) (two_to_minus100 ∷ two_to600 ∷ two_to_minus100 ∷ []) (12, 1, 0, false)
    (two_to900 ∷ two_to600 ∷ two_to_minus100 ∷ [])
    ∷ solves Blocked 1 1 3 (two_to_minus500 ∷ []) (two_to_minus100 ∷ two_to600 ∷ two_to_minus100 ∷ []) (12, 1, 0, false)
    (two_to900 ∷ two_to600 ∷ two_to_minus100 ∷ [])
    -- y is finite, x is not.
    ∷ solves Packed 1 1 1 (two_to_minus500 ∷ []) (two_to100 ∷ []) (12, 0, 0, false) (two_to100 ∷ [])
    -- The last pivot is 1 − 2^−54 − 2^−54: 1 one by one, ties to even; 1 − 2^−53 where the products are summed first.
    ∷ factors Packed 3 1 3 (one ∷ 0 ∷ two_to_minus27 ∷ one ∷ two_to_minus27 ∷ one ∷ []) all_exact (one ∷ 0 ∷ two_to_minus27 ∷ one ∷ two_to_minus27 ∷ one ∷ [])
    -- The last pivot is 1 − 2^−54 − 1: +0 with rising k, −2^−54 with falling k.
    ∷ factors Packed 3 1 3 (one ∷ 0 ∷ two_to_minus27 ∷ one ∷ one ∷ one ∷ []) (10, 2, 0, false) (one ∷ 0 ∷ two_to_minus27 ∷ one ∷ one ∷ one ∷ [])
    -- The last pivot is 1 + 2^−51 − (1 + 2^−52)²: +0 where the product is rounded first, −2^−104 where it is fused with the difference.
    ∷ factors Packed 2 1 2 (one ∷ 0x3FF0_0000_0000_0001 ∷ 0x3FF0_0000_0000_0002 ∷ []) (10, 1, 0, false)
    (one ∷ 0x3FF0_0000_0000_0001 ∷ 0x3FF0_0000_0000_0002 ∷ [])
    -- 5 / 3 ends in B, 5 × (1 / 3) in A.
    ∷ factors Packed 2 1 2 (nine ∷ five ∷ four ∷ []) some_inexact (three ∷ 0x3FFA_AAAA_AAAA_AAAB ∷ 0x3FF1_B04C_62A8_F4CD ∷ [])
    -- Forward 5 / 3 and backward 5 / 3 likewise: with a product by 1 / 3 the first row ends in 1, the second in A.
    ∷ solves Packed 1 1 1 (three ∷ []) (five ∷ []) success (0x3FE1_C71C_71C7_1C72 ∷ [])
    ∷ solves Packed 1 1 1 (three ∷ []) (fifteen ∷ []) success (0x3FFA_AAAA_AAAA_AAAB ∷ [])
    -- The last y is 1 − 2^−54 − 1: +0 with rising k, −2^−54 with falling k.
    ∷ solves Packed 3 1 1 (one ∷ 0 ∷ two_to_minus54 ∷ one ∷ one ∷ one ∷ []) (one ∷ one ∷ one ∷ []) success (one ∷ one ∷ 0 ∷ [])
    -- The first x is 1 − 2^−54 − 1: +0 with falling k, −2^−54 with rising k.
    ∷ solves Packed 3 1 1 (one ∷ one ∷ two_to_minus54 ∷ one ∷ 0 ∷ one ∷ []) (one ∷ two ∷ one ∷ []) success (0 ∷ one ∷ one ∷ [])
    -- ---- codes 1 to 9, each where the rules before it pass
    ∷ decides (rearranger_checks Packed Blocked (shape_in 0 4001 201) 0 0) (1, 0, 0, false)
    ∷ decides (rearranger_checks Packed Blocked (shape_in 0 4000 201) 0 0) (2, 0, 0, false)
    ∷ decides (rearranger_checks Packed Blocked (shape_in 0 4000 0) 0 0) (2, 0, 0, false)
    ∷ decides (rearranger_checks Packed Blocked (shape_in 0 4000 200) 0 0) (3, 0, 0, false)
    ∷ decides (rearranger_checks Packed Blocked (shape_in 0 4000 200) 8002000 799999) (4, 0, 0, false)
    ∷ decides (rearranger_checks Packed Blocked (shape_in 0 4000 200) 8002000 800000) success
    ∷ decides (factor_checks Packed (raw Packed 1 0) (memory (infinity ∷ [])) 0) (4, 0, 0, false)
    ∷ decides (factor_checks Packed (raw Packed 1 0) (memory (infinity ∷ [])) 1) (7, 0, 0, false)
    ∷ decides (solver_checks Packed (factor Packed 1 0) 1001 (memory (two ∷ [])) [] 1) (5, 0, 0, false)
    ∷ decides (solver_checks Packed (factor Packed 1 0) 1000 (memory (two ∷ [])) [] 1) (6, 0, 0, false)
    ∷ decides (solver_checks Blocked (factor Blocked 3 2) 0 (memory (one ∷ one ∷ one ∷ infinity ∷ one ∷ one ∷ [])) [] 3) (7, 3, 0, false)
    ∷ decides (solver_checks Blocked (factor Blocked 1 2) 2 (memory (0 ∷ [])) (memory (one ∷ infinity ∷ [])) 1) (8, 1, 0, false)
    ∷ decides (solver_checks Blocked (factor Blocked 3 2) 0 (memory (one ∷ 0 ∷ one ∷ 0 ∷ 0 ∷ 0 ∷ [])) [] 3) (9, 2, 0, false)
    -- Two rules that hold together, or one at two places: the first decides.
    ∷ decides (factor_checks Blocked (raw Blocked 4001 0) [] 0) (1, 0, 0, false)
    ∷ decides (factor_checks Blocked (raw Blocked 1 0) [] 1) (2, 0, 0, false)
    ∷ decides (factor_checks Packed (raw Packed 1 1) [] 0) (3, 0, 0, false)
    ∷ decides (solver_checks Blocked (factor Blocked 4001 0) 0 [] [] 0) (1, 0, 0, false)
    ∷ decides (solver_checks Blocked (factor Blocked 1 0) 0 [] [] 0) (2, 0, 0, false)
    ∷ decides (solver_checks Packed (factor Packed 1 1) 0 [] [] 0) (3, 0, 0, false)
    ∷ decides (solver_checks Packed (factor Packed 1 1) 1001 (memory (two ∷ [])) [] 0) (4, 0, 0, false)
    ∷ decides (solver_checks Packed (factor Packed 1 1) 1 (memory (infinity ∷ [])) [] 1) (6, 0, 0, false)
    ∷ decides (solver_checks Packed (factor Packed 1 1) 1 (memory (infinity ∷ [])) (memory (infinity ∷ [])) 1) (7, 0, 0, false)
    ∷ decides (solver_checks Packed (factor Packed 3 1) 0 (memory (one ∷ one ∷ one ∷ 0 ∷ one ∷ 0 ∷ [])) [] 3) (9, 1, 0, false)
    -- The whole calls: all memory stays as it was. Under 3 and 6 it is one value too long, under 4 one too short.
    ∷ move_refused Packed Blocked 3 0 (four ∷ two ∷ minus_two ∷ ten ∷ five ∷ six ∷ []) (replicate 9 infinity) (2, 0, 0, false)
    ∷ move_refused Blocked Packed 3 0 (four ∷ two ∷ minus_two ∷ ten ∷ five ∷ six ∷ []) (replicate 9 infinity) (2, 0, 0, false)
    ∷ move_refused Packed Blocked 1 1 (four ∷ two ∷ []) (infinity ∷ []) (3, 0, 0, false)
    ∷ move_refused Packed Blocked 3 2 (four ∷ two ∷ minus_two ∷ ten ∷ five ∷ six ∷ []) (replicate 5 infinity) (4, 0, 0, false)
    ∷ move_refused Blocked Packed 3 2 (four ∷ two ∷ minus_two ∷ ten ∷ five ∷ six ∷ []) (replicate 5 infinity) (4, 0, 0, false)
    ∷ factor_refused Blocked 1 0 (four ∷ []) (infinity ∷ []) (2, 0, 0, false)
    ∷ factor_refused Packed 1 1 (four ∷ two ∷ []) (infinity ∷ []) (3, 0, 0, false)
    ∷ factor_refused Packed 2 1 (four ∷ two ∷ ten ∷ []) (infinity ∷ []) (4, 0, 0, false)
    ∷ factor_refused Blocked 2 2 (four ∷ two ∷ ten ∷ []) (replicate 3 infinity) (4, 0, 0, false)
    ∷ factor_refused Packed 2 1 (four ∷ two ∷ infinity ∷ []) (replicate 2 infinity) (7, 2, 0, false)
    ∷ factor_refused Blocked 2 1 (four ∷ two ∷ infinity ∷ []) (replicate 2 infinity) (7, 2, 0, false)
    ∷ solve_refused Blocked 1 0 1 (two ∷ []) (four ∷ []) (infinity ∷ []) (2, 0, 0, false)
    ∷ solve_refused Packed 1 1 1 (two ∷ two ∷ []) (four ∷ []) (infinity ∷ []) (3, 0, 0, false)
    ∷ solve_refused Packed 2 1 1 (two ∷ one ∷ two ∷ []) (four ∷ six ∷ []) (infinity ∷ []) (4, 0, 0, false)
    ∷ solve_refused Blocked 2 2 1 (two ∷ one ∷ two ∷ []) (four ∷ six ∷ []) (infinity ∷ []) (4, 0, 0, false)
    ∷ solve_refused Packed 1 1 1001 (two ∷ []) (four ∷ []) (infinity ∷ []) (5, 0, 0, false)
    ∷ solve_refused Packed 1 1 1 (two ∷ []) (four ∷ six ∷ []) (infinity ∷ []) (6, 0, 0, false)
    ∷ solve_refused Blocked 1 1 1 (two ∷ []) (four ∷ six ∷ []) (infinity ∷ []) (6, 0, 0, false)
    ∷ solve_refused Packed 2 1 1 (two ∷ one ∷ infinity ∷ []) (four ∷ six ∷ []) (replicate 2 infinity) (7, 2, 0, false)
    ∷ solve_refused Packed 1 1 2 (two ∷ []) (four ∷ infinity ∷ []) (infinity ∷ []) (8, 1, 0, false)
    ∷ solve_refused Blocked 2 1 1 (two ∷ one ∷ 0 ∷ []) (four ∷ six ∷ []) (replicate 2 infinity) (9, 1, 0, false)
    ∷ move_refused Packed Blocked 4001 2 (four ∷ []) (infinity ∷ []) (1, 0, 0, false)
    ∷ factor_refused Packed 4001 1 (four ∷ []) (infinity ∷ []) (1, 0, 0, false)
    ∷ solve_refused Packed 4001 1 1 (two ∷ []) (four ∷ []) (infinity ∷ []) (1, 0, 0, false)
    -- The plain calls do not judge b.
    ∷ factors Packed 1 0 1 (four ∷ []) all_exact (two ∷ [])
    ∷ solves Packed 1 201 1 (two ∷ []) (four ∷ []) success (one ∷ [])
    -- ---- memory and order
    -- Two right-hand sides of two values each.
    ∷ solves Packed 2 1 2 (two ∷ two ∷ one ∷ []) (four ∷ six ∷ 0 ∷ one ∷ []) success (minus_one ∷ two ∷ minus_one ∷ one ∷ [])
    -- Values of every kind move: n 5, b 2, where the way back is another permutation.
    ∷ moves Packed Blocked 5 2 10 (one ∷ two ∷ three ∷ infinity ∷ five ∷ six ∷ 0 ∷ minus_zero ∷ nine ∷ ten ∷ minus_one ∷ minus_two ∷ four ∷ minus_infinity ∷ fifteen ∷ [])
    (one ∷ two ∷ six ∷ three ∷ 0 ∷ infinity ∷ minus_zero ∷ five ∷ nine ∷ ten ∷ minus_one ∷ four ∷ minus_two ∷ minus_infinity ∷ fifteen ∷ [])
    ∷ moves Blocked Packed 5 2 10 (one ∷ two ∷ six ∷ three ∷ 0 ∷ infinity ∷ minus_zero ∷ five ∷ nine ∷ ten ∷ minus_one ∷ four ∷ minus_two ∷ minus_infinity ∷ fifteen ∷ [])
    (one ∷ two ∷ three ∷ infinity ∷ five ∷ six ∷ 0 ∷ minus_zero ∷ nine ∷ ten ∷ minus_one ∷ minus_two ∷ four ∷ minus_infinity ∷ fifteen ∷ [])
    -- A refused column in the last, narrower block column: the block column before it stays finished.
    ∷ factors Blocked 3 2 6 (four ∷ two ∷ ten ∷ minus_two ∷ five ∷ 0 ∷ []) (10, 2, minus_five, false) (two ∷ one ∷ three ∷ minus_one ∷ two ∷ 0 ∷ [])
    -- 11 at column 1: column 0 stays finished unless it is of the same block column.
    ∷ factors Packed 3 1 3 (four ∷ 0 ∷ two ∷ two_to_minus1000 ∷ two_to600 ∷ one ∷ []) (11, 1, 0, false)
    (two ∷ 0 ∷ one ∷ two_to_minus1000 ∷ two_to600 ∷ one ∷ [])
    ∷ factors Blocked 3 1 3 (four ∷ 0 ∷ two ∷ two_to_minus1000 ∷ two_to600 ∷ one ∷ []) (11, 1, 0, false)
    (two ∷ 0 ∷ one ∷ two_to_minus1000 ∷ two_to600 ∷ one ∷ [])
    ∷ factors Blocked 3 2 6 (four ∷ 0 ∷ two_to_minus1000 ∷ two ∷ two_to600 ∷ one ∷ []) (11, 1, 0, false)
    (four ∷ 0 ∷ two_to_minus1000 ∷ two ∷ two_to600 ∷ one ∷ [])
    -- 10 stands before 11 within a column.
    ∷ factors Packed 2 1 2 (0 ∷ one ∷ one ∷ []) (10, 0, 0, false) (0 ∷ one ∷ one ∷ [])
    ∷ factors Blocked 2 2 4 (0 ∷ one ∷ one ∷ []) (10, 0, 0, false) (0 ∷ one ∷ one ∷ [])
    -- l(3,2) is 1 − 2^−54 − 1: +0 with rising k, −2^−54 with falling k or the products summed first.
    ∷ factors Packed 4 1 4 (one ∷ 0 ∷ one ∷ two_to_minus54 ∷ one ∷ one ∷ one ∷ three ∷ one ∷ four ∷ []) some_inexact
    (one ∷ 0 ∷ one ∷ two_to_minus54 ∷ one ∷ one ∷ one ∷ one ∷ 0 ∷ 0x3FFB_B67A_E858_4CAA ∷ [])
    ∷ []

-- the rows of both pipelines
pub pipeline_rows : Pipeline → Pipeline → List Bool
unfolding ends refuses job memory used
pipeline_rows plain blocked =
    -- the job above, with b 1, 2, 3 and 200.
    job plain 1 3 2
    ∷ job plain 200 3 2
    ∷ job blocked 1 3 3
    ∷ job blocked 2 6 3
    ∷ job blocked 3 9 3
    ∷ job blocked 200 9 3
    -- A weak column ends its pipeline.
    ∷ ends (plain 2 2 1 (memory (four ∷ two ∷ one_plus ∷ [])) (memory (four ∷ six ∷ [])) (used 2)) 2 2 2 4 4
    (16, 1, two_to_minus52, false) (16, 1, two_to_minus52, false) (two ∷ one ∷ one_plus ∷ []) (four ∷ six ∷ [])
    ∷ ends (blocked 2 2 1 (memory (four ∷ two ∷ one_plus ∷ [])) (memory (four ∷ six ∷ [])) (used 4)) 2 2 4 4 4
    (16, 1, two_to_minus52, false) (16, 1, two_to_minus52, false) (four ∷ two ∷ one_plus ∷ []) (four ∷ six ∷ [])
    -- A factor refused at place 0 ends its pipeline too.
    ∷ ends (plain 1 1 1 (memory (0 ∷ [])) (memory (one ∷ [])) (used 1)) 1 1 1 4 4 (10, 0, 0, false) (10, 0, 0, false) (0 ∷ []) (one ∷ [])
    ∷ ends (blocked 1 1 1 (memory (0 ∷ [])) (memory (one ∷ [])) (used 1)) 1 1 1 4 4 (10, 0, 0, false) (10, 0, 0, false) (0 ∷ []) (one ∷ [])
    -- A refused factor ends its pipeline, the blocked one in blocked order; after a refused solver the factor stands in packed order.
    ∷ ends (plain 3 2 1 (memory (four ∷ two ∷ minus_two ∷ ten ∷ five ∷ 0 ∷ [])) (memory (four ∷ seventeen ∷ nine ∷ [])) (used 3)) 3 2 3 4 4
    (10, 2, minus_five, false) (10, 2, minus_five, false) (two ∷ one ∷ minus_one ∷ three ∷ two ∷ 0 ∷ []) (four ∷ seventeen ∷ nine ∷ [])
    ∷ ends (blocked 3 2 1 (memory (four ∷ two ∷ minus_two ∷ ten ∷ five ∷ 0 ∷ [])) (memory (four ∷ seventeen ∷ nine ∷ [])) (used 6)) 3 2 6 4 4
    (10, 2, minus_five, false) (10, 2, minus_five, false) (two ∷ one ∷ three ∷ minus_one ∷ two ∷ 0 ∷ []) (four ∷ seventeen ∷ nine ∷ [])
    ∷ ends (plain 3 2 1 (memory (four ∷ two ∷ minus_two ∷ ten ∷ five ∷ six ∷ [])) (memory (four ∷ infinity ∷ nine ∷ [])) (used 3)) 3 2 3 2 2
    all_exact (8, 1, 0, false) (two ∷ one ∷ minus_one ∷ three ∷ two ∷ one ∷ []) (four ∷ infinity ∷ nine ∷ [])
    ∷ ends (blocked 3 2 1 (memory (four ∷ two ∷ minus_two ∷ ten ∷ five ∷ six ∷ [])) (memory (four ∷ infinity ∷ nine ∷ [])) (used 6)) 3 2 6 3 2
    all_exact (8, 1, 0, false) (two ∷ one ∷ minus_one ∷ three ∷ two ∷ one ∷ []) (four ∷ infinity ∷ nine ∷ [])
    -- A refused rearranger ends its pipeline, with all memory and the state as they were: b 0, and a matrix of a wrong length.
    ∷ refuses (blocked 1 0 1 (memory (four ∷ [])) (memory (one ∷ [])) (used 1)) 1 0 (2, 0, 0, false) (four ∷ []) (one ∷ []) (infinity ∷ infinity ∷ [])
    ∷ refuses (blocked 1 1 1 (memory (four ∷ two ∷ [])) (memory (one ∷ [])) (used 1)) 1 1 (3, 0, 0, false) (four ∷ two ∷ []) (one ∷ []) (infinity ∷ infinity ∷ [])
    ∷ refuses (plain 1 1 1 (memory (four ∷ two ∷ [])) (memory (one ∷ [])) (used 1)) 1 1 (3, 0, 0, false) (four ∷ two ∷ []) (one ∷ []) (infinity ∷ infinity ∷ [])
    ∷ []

-- ---- document 02, (a): the variance of unknown k

-- l b: every unknown of document 01's factor, in blocked order
each_unknown : List ℕ → ℕ → Bool
unfolding varies
each_unknown l b =
    varies Blocked 3 b 0 l (0, 0, 0x3FEF_1C71_C71C_71C6, false) && varies Blocked 3 b 1 l (0, 0, 0x3FE1_C71C_71C7_1C71, false)
    && varies Blocked 3 b 2 l (0, 0, one, false)

pub variance_rows : List Bool
unfolding varies variance_refused each_unknown solves states_are memory
variance_rows =
    -- document 01's factor with each k, plain, whatever b is, and b 1, 2, 3 and 200
    varies Packed 3 0 0 (two ∷ one ∷ minus_one ∷ three ∷ two ∷ one ∷ []) (0, 0, 0x3FEF_1C71_C71C_71C6, false)
    ∷ varies Packed 3 2 1 (two ∷ one ∷ minus_one ∷ three ∷ two ∷ one ∷ []) (0, 0, 0x3FE1_C71C_71C7_1C71, false)
    ∷ varies Packed 3 201 2 (two ∷ one ∷ minus_one ∷ three ∷ two ∷ one ∷ []) (0, 0, one, false)
    ∷ each_unknown (two ∷ one ∷ minus_one ∷ three ∷ two ∷ one ∷ []) 1
    ∷ each_unknown (two ∷ one ∷ three ∷ minus_one ∷ two ∷ one ∷ []) 2
    ∷ each_unknown (two ∷ one ∷ three ∷ minus_one ∷ two ∷ one ∷ []) 3
    ∷ each_unknown (two ∷ one ∷ three ∷ minus_one ∷ two ∷ one ∷ []) 200
    -- n 1: 1 / 2 / 2
    ∷ varies Packed 1 1 0 (two ∷ []) (0, 0, 0x3FD0_0000_0000_0000, false)
    ∷ varies Blocked 1 1 0 (two ∷ []) (0, 0, 0x3FD0_0000_0000_0000, false)
    -- 14: k is not below n, so always at n 0; after 4 and before 7 and 9
    ∷ variance_refused Packed 0 1 0 [] [] (14, 0, 0, false)
    ∷ variance_refused Blocked 0 1 0 [] [] (14, 0, 0, false)
    ∷ variance_refused Packed 1 1 1 (two ∷ []) (infinity ∷ []) (14, 0, 0, false)
    ∷ variance_refused Blocked 1 1 1 (two ∷ []) (infinity ∷ []) (14, 0, 0, false)
    ∷ variance_refused Packed 1 1 7 (infinity ∷ []) (infinity ∷ []) (14, 0, 0, false)
    ∷ variance_refused Packed 1 1 1 (0 ∷ []) (infinity ∷ []) (14, 0, 0, false)
    ∷ variance_refused Packed 1 1 1 (two ∷ []) [] (4, 0, 0, false)
    ∷ variance_refused Blocked 1 1 1 (two ∷ []) [] (4, 0, 0, false)
    -- 1 to 4, in their order; b is judged by the blocked call alone
    ∷ variance_refused Blocked 4001 0 0 [] [] (1, 0, 0, false)
    ∷ variance_refused Blocked 1 0 0 [] [] (2, 0, 0, false)
    ∷ variance_refused Blocked 1 201 0 [] [] (2, 0, 0, false)
    ∷ variance_refused Packed 1 201 0 [] [] (3, 0, 0, false)
    ∷ variance_refused Blocked 2 1 0 (two ∷ []) [] (3, 0, 0, false)
    ∷ variance_refused Blocked 2 2 0 (two ∷ one ∷ three ∷ []) (infinity ∷ []) (4, 0, 0, false)
    ∷ variance_refused Packed 2 2 1 (two ∷ one ∷ three ∷ []) (infinity ∷ []) (4, 0, 0, false)
    -- every state and one past the last: a factor in its own format
    ∷ states_are (λ s. (variance Packed (shape_in s 1 1) 0 (memory (two ∷ [])) (memory (one ∷ []))).result) 0 ((15, 0) ∷ (15, 1) ∷ (0, 2) ∷ (15, 3) ∷ (15, 4) ∷ (15, 5) ∷ [])
    ∷ states_are (λ s. (variance Blocked (shape_in s 1 1) 0 (memory (two ∷ [])) (memory (one ∷ []))).result) 0 ((15, 0) ∷ (15, 1) ∷ (15, 2) ∷ (0, 3) ∷ (15, 4) ∷ (15, 5) ∷ [])
    -- 15 after 2 and before 3
    ∷ states_are (λ s. (variance Blocked (shape_in s 1 0) 0 (memory (two ∷ [])) (memory (one ∷ []))).result) 0 ((2, 0) ∷ (2, 1) ∷ (2, 2) ∷ (2, 3) ∷ [])
    ∷ states_are (λ s. (variance Packed (shape_in s 1 1) 0 [] []).result) 0 ((15, 0) ∷ (15, 1) ∷ (3, 2) ∷ (15, 3) ∷ [])
    -- What is before k is not seen: a NaN, an infinity, a diagonal value that is not greater than zero.
    ∷ varies Packed 3 1 1 (0 ∷ not_anumber ∷ infinity ∷ three ∷ two ∷ one ∷ []) (0, 0, 0x3FE1_C71C_71C7_1C71, false)
    ∷ varies Blocked 3 1 1 (0 ∷ not_anumber ∷ infinity ∷ three ∷ two ∷ one ∷ []) (0, 0, 0x3FE1_C71C_71C7_1C71, false)
    ∷ varies Blocked 3 2 1 (minus_one ∷ infinity ∷ three ∷ not_anumber ∷ two ∷ one ∷ []) (0, 0, 0x3FE1_C71C_71C7_1C71, false)
    ∷ varies Blocked 3 3 1 (not_anumber ∷ infinity ∷ three ∷ not_anumber ∷ two ∷ one ∷ []) (0, 0, 0x3FE1_C71C_71C7_1C71, false)
    ∷ varies Packed 3 1 2 (0 ∷ infinity ∷ infinity ∷ 0 ∷ infinity ∷ one ∷ []) (0, 0, one, false)
    ∷ varies Blocked 3 2 2 (0 ∷ infinity ∷ 0 ∷ infinity ∷ infinity ∷ one ∷ []) (0, 0, one, false)
    -- From k on it is: 7 at the lowest position in memory, which need not be that of the lowest column; before 9
    ∷ variance_refused Packed 3 1 1 (infinity ∷ one ∷ minus_one ∷ three ∷ not_anumber ∷ infinity ∷ []) (replicate 3 one) (7, 4, 0, false)
    ∷ variance_refused Blocked 3 2 1 (infinity ∷ one ∷ three ∷ minus_one ∷ two ∷ infinity ∷ []) (replicate 3 one) (7, 5, 0, false)
    ∷ variance_refused Blocked 3 3 1 (infinity ∷ one ∷ not_anumber ∷ minus_one ∷ two ∷ infinity ∷ []) (replicate 3 one) (7, 2, 0, false)
    ∷ variance_refused Packed 4 4 1 (one ∷ one ∷ one ∷ one ∷ one ∷ one ∷ infinity ∷ infinity ∷ one ∷ one ∷ []) (replicate 4 one) (7, 6, 0, false)
    ∷ variance_refused Blocked 4 4 1 (one ∷ one ∷ one ∷ one ∷ one ∷ infinity ∷ one ∷ infinity ∷ one ∷ one ∷ []) (replicate 4 one) (7, 5, 0, false)
    ∷ variance_refused Packed 3 1 1 (two ∷ one ∷ minus_one ∷ 0 ∷ two ∷ infinity ∷ []) (replicate 3 one) (7, 5, 0, false)
    -- 9 at the lowest column from k on, by its number in the whole matrix
    ∷ variance_refused Packed 3 1 1 (0 ∷ one ∷ minus_one ∷ minus_zero ∷ two ∷ 0 ∷ []) (replicate 3 one) (9, 1, 0, false)
    ∷ variance_refused Blocked 3 2 1 (0 ∷ one ∷ three ∷ minus_one ∷ two ∷ minus_one ∷ []) (replicate 3 one) (9, 2, 0, false)
    ∷ variance_refused Blocked 3 3 2 (0 ∷ one ∷ 0 ∷ minus_one ∷ two ∷ 0 ∷ []) (replicate 3 one) (9, 2, 0, false)
    -- 12, place 0 whatever k is, by a y and by an x; the work memory is cleared
    ∷ varies Packed 1 1 0 (1 ∷ []) (12, 0, 0, false)
    ∷ varies Blocked 1 1 0 (two_to_minus1000 ∷ []) (12, 0, 0, false)
    ∷ varies Packed 2 1 1 (one ∷ one ∷ 1 ∷ []) (12, 0, 0, false)
    ∷ varies Blocked 2 2 1 (one ∷ one ∷ two_to_minus1000 ∷ []) (12, 0, 0, false)
    ∷ varies Packed 2 1 0 (one ∷ two_to600 ∷ two_to_minus500 ∷ []) (12, 0, 0, false)
    ∷ varies Packed 3 1 0 (1 ∷ 0 ∷ 0 ∷ one ∷ 0 ∷ one ∷ []) (12, 0, 0, false)
    -- An x before k is not formed: the solver refuses this right-hand side, the variance is 1.
    ∷ solves Packed 2 1 1 (two_to_minus500 ∷ two_to600 ∷ one ∷ []) (0 ∷ one ∷ []) (12, 0, 0, false) (0 ∷ one ∷ [])
    ∷ varies Packed 2 1 1 (two_to_minus500 ∷ two_to600 ∷ one ∷ []) (0, 0, one, false)
    ∷ varies Blocked 2 2 1 (two_to_minus500 ∷ two_to600 ∷ one ∷ []) (0, 0, one, false)
    ∷ []

-- values that tell their places apart: subnormals 1, 2, .. in packed order
pub conversion_rows : List Bool
unfolding converts both_ways conversion_refused states_are memory
conversion_rows =
    -- n 0, 1, 2 and 3, both forms
    both_ways 0 0 [] []
    ∷ both_ways 1 0 [] []
    ∷ both_ways 0 1 (1 ∷ []) (1 ∷ [])
    ∷ both_ways 1 1 (1 ∷ []) (1 ∷ [])
    ∷ both_ways 0 2 (1 ∷ 2 ∷ 3 ∷ []) (3 ∷ 1 ∷ 2 ∷ [])
    ∷ both_ways 1 2 (1 ∷ 2 ∷ 3 ∷ []) (3 ∷ 1 ∷ 2 ∷ [])
    ∷ both_ways 0 3 (1 ∷ 2 ∷ 3 ∷ 4 ∷ 5 ∷ 6 ∷ []) (1 ∷ 2 ∷ 3 ∷ 6 ∷ 4 ∷ 5 ∷ [])
    ∷ both_ways 1 3 (1 ∷ 2 ∷ 3 ∷ 4 ∷ 5 ∷ 6 ∷ []) (1 ∷ 6 ∷ 2 ∷ 4 ∷ 3 ∷ 5 ∷ [])
    -- n 4, with values of other kinds
    ∷ both_ways 0 4 (1 ∷ infinity ∷ minus_zero ∷ 4 ∷ 5 ∷ 6 ∷ 7 ∷ not_anumber ∷ minus_infinity ∷ 10 ∷ [])
    (not_anumber ∷ 1 ∷ infinity ∷ minus_zero ∷ 4 ∷ minus_infinity ∷ 10 ∷ 5 ∷ 6 ∷ 7 ∷ [])
    ∷ both_ways 1 4 (1 ∷ infinity ∷ minus_zero ∷ 4 ∷ 5 ∷ 6 ∷ 7 ∷ not_anumber ∷ minus_infinity ∷ 10 ∷ [])
    (not_anumber ∷ minus_infinity ∷ 1 ∷ 10 ∷ infinity ∷ 5 ∷ minus_zero ∷ 6 ∷ 4 ∷ 7 ∷ [])
    -- b is not judged
    ∷ converts PackedToRfp 0 2 0 (1 ∷ 2 ∷ 3 ∷ []) (3 ∷ 1 ∷ 2 ∷ [])
    ∷ converts RfpToPacked 1 2 201 (3 ∷ 1 ∷ 2 ∷ []) (1 ∷ 2 ∷ 3 ∷ [])
    -- 17, any other form
    ∷ conversion_refused 2 (raw Packed 1 1) (1 ∷ []) (2 ∷ []) (17, 0, 0, false)
    ∷ conversion_refused 0x8000_0000_0000_0000 (factor Packed 1 1) (1 ∷ []) (2 ∷ []) (17, 0, 0, false)
    -- 3, a wrong length of either memory
    ∷ conversion_refused 0 (raw Packed 2 1) (1 ∷ 2 ∷ []) (4 ∷ 5 ∷ 6 ∷ []) (3, 0, 0, false)
    ∷ conversion_refused 0 (raw Packed 2 1) (1 ∷ 2 ∷ 3 ∷ 4 ∷ []) (4 ∷ 5 ∷ 6 ∷ []) (3, 0, 0, false)
    ∷ conversion_refused 1 (raw Packed 2 1) (1 ∷ 2 ∷ 3 ∷ []) (4 ∷ 5 ∷ []) (3, 0, 0, false)
    ∷ conversion_refused 1 (raw Packed 2 1) (1 ∷ 2 ∷ 3 ∷ []) (4 ∷ 5 ∷ 6 ∷ 7 ∷ []) (3, 0, 0, false)
    -- 1 before 17 before 15 before 3
    ∷ conversion_refused 2 (raw Blocked 4001 1) (1 ∷ []) (2 ∷ []) (1, 0, 0, false)
    ∷ conversion_refused 2 (raw Blocked 1 1) [] (2 ∷ 3 ∷ []) (17, 0, 0, false)
    ∷ conversion_refused 0 (raw Blocked 1 1) (1 ∷ 2 ∷ []) (3 ∷ []) (15, 0, 0, false)
    -- every state and one past the last: a packed matrix, raw or factored, whose state stays
    ∷ states_are (λ s. (convert PackedToRfp 0 (shape_in s 1 1) (memory (one ∷ [])) (memory (two ∷ []))).result) 0 ((0, 0) ∷ (15, 1) ∷ (0, 2) ∷ (15, 3) ∷ (15, 4) ∷ (15, 5) ∷ [])
    ∷ states_are (λ s. (convert RfpToPacked 1 (shape_in s 1 1) (memory (one ∷ [])) (memory (two ∷ []))).result) 0 ((0, 0) ∷ (15, 1) ∷ (0, 2) ∷ (15, 3) ∷ (15, 4) ∷ (15, 5) ∷ [])
    ∷ []

-- the same values, of a matrix of order 4
abbrev four4 : List ℕ
four4 = 1 ∷ 2 ∷ 3 ∷ 4 ∷ 5 ∷ 6 ∷ 7 ∷ 8 ∷ 9 ∷ 10 ∷ []

pub strike_rows : List Bool
unfolding strikes strike_refused states_are memory
strike_rows =
    -- an empty list changes nothing
    strikes [] 0 1 [] 0 []
    ∷ strikes [] 4 1 four4 4 four4
    -- one unknown, two and three
    ∷ strikes (0 ∷ []) 4 1 four4 3 (5 ∷ 6 ∷ 7 ∷ 8 ∷ 9 ∷ 10 ∷ 0 ∷ 0 ∷ 0 ∷ 0 ∷ [])
    ∷ strikes (1 ∷ []) 4 1 four4 3 (1 ∷ 3 ∷ 4 ∷ 8 ∷ 9 ∷ 10 ∷ 0 ∷ 0 ∷ 0 ∷ 0 ∷ [])
    ∷ strikes (2 ∷ []) 4 1 four4 3 (1 ∷ 2 ∷ 4 ∷ 5 ∷ 7 ∷ 10 ∷ 0 ∷ 0 ∷ 0 ∷ 0 ∷ [])
    ∷ strikes (3 ∷ []) 4 1 four4 3 (1 ∷ 2 ∷ 3 ∷ 5 ∷ 6 ∷ 8 ∷ 0 ∷ 0 ∷ 0 ∷ 0 ∷ [])
    ∷ strikes (0 ∷ 2 ∷ []) 4 1 four4 2 (5 ∷ 7 ∷ 10 ∷ 0 ∷ 0 ∷ 0 ∷ 0 ∷ 0 ∷ 0 ∷ 0 ∷ [])
    ∷ strikes (1 ∷ 2 ∷ []) 4 1 four4 2 (1 ∷ 4 ∷ 10 ∷ 0 ∷ 0 ∷ 0 ∷ 0 ∷ 0 ∷ 0 ∷ 0 ∷ [])
    ∷ strikes (1 ∷ 3 ∷ []) 4 1 four4 2 (1 ∷ 3 ∷ 8 ∷ 0 ∷ 0 ∷ 0 ∷ 0 ∷ 0 ∷ 0 ∷ 0 ∷ [])
    ∷ strikes (0 ∷ 1 ∷ 3 ∷ []) 4 1 four4 1 (8 ∷ 0 ∷ 0 ∷ 0 ∷ 0 ∷ 0 ∷ 0 ∷ 0 ∷ 0 ∷ 0 ∷ [])
    -- all of them
    ∷ strikes (0 ∷ []) 1 1 (infinity ∷ []) 0 (0 ∷ [])
    ∷ strikes (0 ∷ 1 ∷ 2 ∷ 3 ∷ []) 4 1 four4 0 (replicate 10 0)
    -- values of every kind are moved and struck; b is not judged
    ∷ strikes (1 ∷ []) 3 0 (minus_zero ∷ not_anumber ∷ infinity ∷ minus_infinity ∷ minus_zero ∷ not_anumber ∷ []) 2 (minus_zero ∷ infinity ∷ not_anumber ∷ 0 ∷ 0 ∷ 0 ∷ [])
    ∷ strikes (0 ∷ []) 2 201 (infinity ∷ minus_zero ∷ minus_one ∷ []) 1 (minus_one ∷ 0 ∷ 0 ∷ [])
    -- 20 at the first offending position: not below n, equal to the one before, below the one before
    ∷ strike_refused (0 ∷ []) (raw Packed 0 1) [] (20, 0, 0, false)
    ∷ strike_refused (4 ∷ []) (raw Packed 4 1) four4 (20, 0, 0, false)
    ∷ strike_refused (0x8000_0000_0000_0000 ∷ []) (raw Packed 4 1) four4 (20, 0, 0, false)
    ∷ strike_refused (0 ∷ 3 ∷ 0xFFFF_FFFF_FFFF_FFFF ∷ []) (raw Packed 4 1) four4 (20, 2, 0, false)
    ∷ strike_refused (1 ∷ 1 ∷ []) (raw Packed 4 1) four4 (20, 1, 0, false)
    ∷ strike_refused (0 ∷ 0 ∷ []) (raw Packed 1 1) (one ∷ []) (20, 1, 0, false)
    ∷ strike_refused (3 ∷ 2 ∷ []) (raw Packed 4 1) four4 (20, 1, 0, false)
    ∷ strike_refused (0 ∷ 2 ∷ 1 ∷ 3 ∷ []) (raw Packed 4 1) four4 (20, 2, 0, false)
    ∷ strike_refused (0 ∷ 1 ∷ 2 ∷ 3 ∷ 4 ∷ []) (raw Packed 4 1) four4 (20, 4, 0, false)
    -- a fault behind a fault
    ∷ strike_refused (3 ∷ 2 ∷ 1 ∷ []) (raw Packed 4 1) four4 (20, 1, 0, false)
    ∷ strike_refused (5 ∷ 4 ∷ []) (raw Packed 4 1) four4 (20, 0, 0, false)
    ∷ strike_refused (0 ∷ 0 ∷ 4 ∷ []) (raw Packed 4 1) four4 (20, 1, 0, false)
    ∷ strike_refused (0 ∷ 9 ∷ 1 ∷ 1 ∷ []) (raw Packed 4 1) four4 (20, 1, 0, false)
    -- 3, and 1 before 15 before 3 before 20
    ∷ strike_refused [] (raw Packed 2 1) (one ∷ two ∷ []) (3, 0, 0, false)
    ∷ strike_refused (0 ∷ []) (raw Packed 2 1) (one ∷ two ∷ three ∷ four ∷ []) (3, 0, 0, false)
    ∷ strike_refused (9 ∷ []) (raw Blocked 4001 0) [] (1, 0, 0, false)
    ∷ strike_refused (9 ∷ []) (factor Packed 2 0) [] (15, 0, 0, false)
    ∷ strike_refused (9 ∷ []) (raw Packed 2 0) [] (3, 0, 0, false)
    -- every state and one past the last: a packed raw matrix, whose state stays
    ∷ states_are (λ s. (strike (shape_in s 1 1) [] (memory (one ∷ []))).result) 0 ((0, 0) ∷ (15, 1) ∷ (15, 2) ∷ (15, 3) ∷ (15, 4) ∷ (15, 5) ∷ [])
    ∷ states_are (λ s. (strike (shape_in s 1 1) (0 ∷ []) (memory (one ∷ []))).result) 0 ((0, 0) ∷ (15, 1) ∷ (15, 2) ∷ (15, 3) ∷ (15, 4) ∷ (15, 5) ∷ [])
    ∷ []

rows_hold : T (all (λ r. r) rows)
unfolding rows rearrange rearranger_checks moved factorize factor_checks factored columns_verdict columns_exact solve solver_checks solved rhs_verdict rhs_part solution solutions clear first_refusal lowest_refusal state_after look_up rule1 rule2 rule15 rule3 rule4 rule5 rule6 finite_rule rule9 rule11 weak rule16 column_rules column_verdict column_exact rule12 minus_products pivot quotient below factor_column cholesky forward backward_rows backward iterate grow tabulate all every entry height place_of load store_column store kind finite positive root squares_to exact judged triangle packed_place blocked_place block_work to_bits of_bits mul sub div lt
rows_hold = tt

variances_hold : T (all (λ r. r) variance_rows)
unfolding variance_rows variance variance_checks variance_verdict columns_from unit_rhs solve solver_checks solved rhs_verdict rhs_part solution solutions clear first_refusal lowest_refusal state_after look_up rule1 rule2 rule15 rule3 rule4 rule14 rule5 rule6 finite_rule rule9 rule12 minus_products forward backward_rows backward iterate grow tabulate all every entry height place_of load store_column store kind finite positive triangle packed_place blocked_place block_work to_bits of_bits mul sub div lt
variances_hold = tt

conversions_hold : T (all (λ r. r) conversion_rows)
unfolding conversion_rows convert converter_checks first_refusal state_after look_up rule1 rule2 rule17 rule15 rule3 iterate grow tabulate all height load store_column store triangle packed_place rfp_rows rfp_columns rfp_row rfp_column rfp_place to_bits of_bits
conversions_hold = tt

strikes_hold : T (all (λ r. r) strike_rows)
unfolding strike_rows strike strike_checks kept principal front struck contains passing first_refusal lowest_refusal state_after look_up rule1 rule2 rule15 rule3 rises_at rule20 iterate grow tabulate all entry height load store_column store triangle packed_place to_bits of_bits
strikes_hold = tt

stepwise_hold : T (all (λ r. r) (pipeline_rows plain_stepwise blocked_stepwise))
unfolding pipeline_rows plain_stepwise blocked_stepwise force rearrange rearranger_checks moved factorize factor_checks factored columns_verdict columns_exact solve solver_checks solved rhs_verdict rhs_part solution solutions clear first_refusal lowest_refusal state_after look_up rule1 rule2 rule15 rule3 rule4 rule5 rule6 finite_rule rule9 rule11 weak rule16 column_rules column_verdict column_exact rule12 minus_products pivot quotient below factor_column cholesky forward backward_rows backward iterate grow tabulate all every entry height place_of load store_column store kind finite positive root squares_to exact judged triangle packed_place blocked_place block_work to_bits of_bits mul sub div lt
stepwise_hold = tt

plain_is : plain_stepwise ≡ plain_pipeline
plain_is = fun_ext (λ n. fun_ext (λ b. fun_ext (λ m. fun_ext (λ matrix. fun_ext (λ rhs. fun_ext (λ work. plain_stepwise_lem n b m matrix rhs work))))))

blocked_is : blocked_stepwise ≡ blocked_pipeline
blocked_is = fun_ext (λ n. fun_ext (λ b. fun_ext (λ m. fun_ext (λ matrix. fun_ext (λ rhs. fun_ext (λ work. blocked_stepwise_lem n b m matrix rhs work))))))

pub examples_hold :
    T (all (λ r. r) rows) × T (all (λ r. r) variance_rows) × T (all (λ r. r) conversion_rows) × T (all (λ r. r) strike_rows)
    × T (all (λ r. r) (pipeline_rows plain_pipeline blocked_pipeline))
examples_hold = (
  rows_hold,
  variances_hold,
  conversions_hold,
  strikes_hold,
  subst (λ (p : Pipeline). T (all (λ r. r) (pipeline_rows p blocked_pipeline))) plain_is
      (subst (λ (p : Pipeline). T (all (λ r. r) (pipeline_rows plain_stepwise p))) blocked_is stepwise_hold),
)
