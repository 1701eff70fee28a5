-- Small systems by number, the runs, the lines of orders 0 and 1, the first one of order 2, and codes of single systems, by computation. Assumes nothing.
use Prim.Native.Nat.{ℕ}
use mathlib.Core.Path.{◌≡◌, refl}
use mathlib.Core.Bool.{Bool, ◌&&◌}
use mathlib.Core.List.{List, [], ◌∷◌, map}
use lib.Dec.{T, eqb}
use lib.IntN.{ℤ, pos, negsuc}
use lib.Ieee.{binary64, of_int, of_bits, to_bits, mul, sub, div, lt}
use Rattle.binary64.specs.Kinds.{kind, finite, positive}
use Rattle.binary64.specs.Root.{root}
use Rattle.binary64.specs.Judged.{judged}
use Rattle.shape.specs.Places.{triangle, packed_place, blocked_place, block_work}
use Rattle.calls.specs.Sequences.{iterate, grow, tabulate, all, passing}
use Rattle.calls.specs.Triangles.{entry, height, place_of, load, store_column, store}
use Rattle.calls.specs.Arithmetic.{minus_products, pivot, quotient, below, factor_column, cholesky, forward, backward_rows, backward}
use Rattle.calls.specs.States.{look_up}
use Rattle.calls.specs.Refusals.{first_refusal, lowest_refusal, rule1, rule2, rule15, rule3, rule4, rule5, rule6, finite_rule, rule9, rule11, weak, rule16, column_rules, column_verdict, rule12}
use Rattle.calls.specs.Calls.{state_after, rearrange, rearranger_checks, moved, factorize, factor_checks, factored, columns_verdict, solve, solver_checks, solved, rhs_verdict, rhs_part, solution, solutions, clear}
use Rattle.calls.specs.Pipelines.{plain_pipeline, blocked_pipeline}
use Rattle.text.specs.Writing.{pieces}
use Rattle.text.specs.Decimals.{digits, decimal}
use Rattle.text.proofs.Comparisons.{same, codes}
use Rattle.acceptance.specs.Systems.{wholes, entries, values, total}
use Rattle.acceptance.specs.Counts.{run_of, ended_on, code_of, tally, numbers_line, line, order_lines}

-- ---- the systems

abbrev m2 : ℤ
m2 = negsuc 1

abbrev m1 : ℤ
m1 = negsuc 0

abbrev zero : ℤ
zero = pos 0

abbrev one : ℤ
one = pos 1

abbrev two : ℤ
two = pos 2

-- of order 1 all; of order 2 the first, the next one, a carry, the last one whose first entry is −2 and the next, zeros, the last; of order 3 the first, the step of the first entry, the last
numbered :
    (entries 0 0 ≡ [])
    × (entries 1 0 ≡ m2 ∷ [])
    × (entries 1 1 ≡ m1 ∷ [])
    × (entries 1 2 ≡ zero ∷ [])
    × (entries 1 3 ≡ one ∷ [])
    × (entries 1 4 ≡ two ∷ [])
    × (entries 2 0 ≡ m2 ∷ m2 ∷ m2 ∷ [])
    × (entries 2 1 ≡ m2 ∷ m2 ∷ m1 ∷ [])
    × (entries 2 5 ≡ m2 ∷ m1 ∷ m2 ∷ [])
    × (entries 2 24 ≡ m2 ∷ two ∷ two ∷ [])
    × (entries 2 25 ≡ m1 ∷ m2 ∷ m2 ∷ [])
    × (entries 2 62 ≡ zero ∷ zero ∷ zero ∷ [])
    × (entries 2 124 ≡ two ∷ two ∷ two ∷ [])
    × (entries 3 0 ≡ m2 ∷ m2 ∷ m2 ∷ m2 ∷ m2 ∷ m2 ∷ [])
    × (entries 3 3124 ≡ m2 ∷ two ∷ two ∷ two ∷ two ∷ two ∷ [])
    × (entries 3 3125 ≡ m1 ∷ m2 ∷ m2 ∷ m2 ∷ m2 ∷ m2 ∷ [])
    × (entries 3 15624 ≡ two ∷ two ∷ two ∷ two ∷ two ∷ two ∷ [])
unfolding wholes triangle
numbered = (refl, refl, refl, refl, refl, refl, refl, refl, refl, refl, refl, refl, refl, refl, refl, refl, refl)

totals : (total 0 ≡ 1) × (total 1 ≡ 5) × (total 2 ≡ 125) × (total 3 ≡ 15625)
unfolding total triangle
totals = (refl, refl, refl, refl)

-- the values as bit patterns; zero is +0
patterns :
    map (to_bits binary64) (values (m2 ∷ m1 ∷ zero ∷ one ∷ two ∷ []))
    ≡ 0xc000_0000_0000_0000 ∷ 0xbff0_0000_0000_0000 ∷ 0 ∷ 0x3ff0_0000_0000_0000 ∷ 0x4000_0000_0000_0000 ∷ []
unfolding to_bits of_int
patterns = refl

-- what a run is: by the block length and the state, packed or blocked factor, that its factor returns
run_is : ℕ → ℕ → ℕ → Bool
run_is k block state =
    let shape = (ended_on (run_of k) 1 (values (one ∷ [])) [] (values (zero ∷ []))).factor_result.shape in
    eqb shape.block block && eqb shape.state state

-- the code of a matrix on each of them
codes_are : ℕ → ℕ → ℕ → Bool
codes_are n t code = eqb (code_of (run_of 0) n t) code && eqb (code_of (run_of 1) n t) code && eqb (code_of (run_of 2) n t) code && eqb (code_of (run_of 3) n t) code

table : List Bool
unfolding codes_are run_is same codes
table =
    -- the four runs
    run_is 0 1 2 ∷
    run_is 1 1 3 ∷
    run_is 2 2 3 ∷
    run_is 3 3 3 ∷
    -- the lines of orders 0 and 1, and the first one of order 2
    same (pieces order_lines 2)
    (codes "N 0 1 1 0 0 0\nN 0 1 1 0 0 0\nN 0 1 1 0 0 0\nN 0 1 1 0 0 0\nN 1 5 2 3 0 0\nN 1 5 2 3 0 0\nN 1 5 2 3 0 0\nN 1 5 2 3 0 0\n") ∷
    same (line (run_of 0) 2) (codes "N 2 125 10 113 0 2\n") ∷
    -- accepted: order 0; packed 1; 2, 0, 2; 2, 1, 1; 2, 1, 0, 2, 1, 2
    codes_are 0 0 0 ∷
    codes_are 1 3 0 ∷
    codes_are 2 114 0 ∷
    codes_are 2 118 0 ∷
    codes_are 3 14744 0 ∷
    -- 10: packed 0; 1, 1, 1; 1, −2, 2; 0, 2, 2; 1, 0, 0, 1, 1, 1
    codes_are 1 2 10 ∷
    codes_are 2 93 10 ∷
    codes_are 2 79 10 ∷
    codes_are 2 74 10 ∷
    codes_are 3 10968 10 ∷
    -- 16: packed 2, 2, 2; 2, −2, 2; 2, 2, 0, 2, 1, 1
    codes_are 2 124 16 ∷
    codes_are 2 104 16 ∷
    codes_are 3 15368 16 ∷
    []

examples : T (all (λ r. r) table)
unfolding table codes_are run_is same codes order_lines line numbers_line tally code_of wholes total digits decimal passing of_int plain_pipeline blocked_pipeline rearrange rearranger_checks moved factorize factor_checks factored columns_verdict solve solver_checks solved rhs_verdict rhs_part solution solutions clear first_refusal lowest_refusal state_after look_up rule1 rule2 rule15 rule3 rule4 rule5 rule6 finite_rule rule9 rule11 weak rule16 column_rules column_verdict rule12 minus_products pivot quotient below factor_column cholesky forward backward_rows backward iterate grow tabulate all entry height place_of load store_column store kind finite positive root judged triangle packed_place blocked_place block_work to_bits of_bits mul sub div lt
examples = tt
