-- Document 01, "The list of refusals, in checking order". A rule's answer is success where its condition does not hold.
use Rattle.std.specs.Prelude.{ℕ, zero, suc, ◌+◌, ◌-◌, ◌*◌, Bool, true, false, cond, not, ◌&&◌, ◌||◌, List, [], ◌∷◌, ltb, eqb, negsuc, length, get_or, Float}
use Rattle.std.specs.Float.{nan, fin, binary64}
use Rattle.std.specs.Float.Ieee.{mul, lt}
use Rattle.binary64.specs.Kinds.{finite, positive, zero64}
use Rattle.binary64.specs.Judged.{judged, exact_root}
use Rattle.binary64.specs.declared.Pivot.{Pivot}
use Rattle.binary64.specs.declared.Pivot.TheVariants.{Root, Refused}
use Rattle.shape.specs.Bounds.{max_order, max_block, max_rhs}
use Rattle.shape.specs.Places.{triangle, block_work}
use Rattle.calls.specs.declared.Verdict.{Verdict}
use Rattle.calls.specs.Sequences.{all}
use Rattle.calls.specs.declared.Call.{Call}
use Rattle.calls.specs.declared.Call.TheVariants.{Rearranger, Factor, Solver, Variance, Converter, Strike}
use Rattle.calls.specs.declared.Layout.TheVariants.{Packed, Blocked}
use Rattle.calls.specs.Triangles.{Triangle, entry}
use Rattle.calls.specs.Arithmetic.{pivot, below}
use Rattle.calls.specs.States.{next, suits}

-- A rule answers a code, a place and a binary64 value, its verdict; success is 0, 0, +0. What a call returns is made from its verdict in Calls.antt.
abbrev pub success : Verdict
success = record { code = 0; place = 0; value = zero64 }

abbrev pub accepted : Verdict → Bool
accepted r = eqb r.code 0

abbrev pub refusal : ℕ → ℕ → Float → Verdict
refusal code place value = record { code = code; place = place; value = value }

abbrev pub refuse_if : Bool → Verdict → Verdict
refuse_if condition r = cond condition r success

-- the first of a list that refuses decides
unfoldable pub first_refusal : List Verdict → Verdict
first_refusal [] = success
first_refusal (r ∷ rs) = cond (accepted r) (first_refusal rs) r

-- the lowest of k = 0 .. count − 1 that is refused decides, and none after it is judged
unfoldable pub lowest_refusal : (ℕ → Verdict) → ℕ → Verdict
lowest_refusal judge zero = success
lowest_refusal judge (suc k) = let before = lowest_refusal judge k in cond (accepted before) (judge k) before

-- A call is a rearranger from one layout to another, the factor, the solver or the variance of a layout, a converter, or the one that strikes unknowns;
-- document 01's plain calls are those of the packed layout.
abbrev pub by_blocks : Call → Bool
by_blocks (Rearranger from to) = true
by_blocks (Factor Packed) = false
by_blocks (Factor Blocked) = true
by_blocks (Solver Packed) = false
by_blocks (Solver Blocked) = true
by_blocks (Variance Packed) = false
by_blocks (Variance Blocked) = true
by_blocks Converter = false
by_blocks Strike = false

abbrev pub needed_work : Call → ℕ → ℕ → ℕ
needed_work (Rearranger from to) n b = block_work n b
needed_work (Factor Packed) n b = n
needed_work (Factor Blocked) n b = block_work n b
needed_work (Solver layout) n b = n
needed_work (Variance layout) n b = n
needed_work Converter n b = 0
needed_work Strike n b = 0

-- 1. n is over 4,000.
unfoldable pub rule1 : ℕ → Verdict
rule1 n = refuse_if (ltb max_order n) (refusal 1 0 zero64)

-- 2. A call that works by blocks has b = 0 or b over 200; other calls do not judge b.
unfoldable pub rule2 : Call → ℕ → Verdict
rule2 call b = refuse_if (by_blocks call && (eqb b 0 || ltb max_block b)) (refusal 2 0 zero64)

-- 17. The form is neither 0 nor 1.
unfoldable pub rule17 : ℕ → Verdict
rule17 form = refuse_if (ltb 1 form) (refusal 17 0 zero64)

-- 15. The state does not suit the call.
unfoldable pub rule15 : Call → ℕ → Verdict
rule15 call state = refuse_if (not (suits (next call state))) (refusal 15 0 zero64)

-- 3. The matrix memory is not exactly n(n + 1)/2 values; of a converter, either memory.
unfoldable pub rule3 : ℕ → ℕ → Verdict
rule3 n matrix_length = refuse_if (not (eqb matrix_length (triangle n))) (refusal 3 0 zero64)

-- 20. The list is not strictly rising or names an unknown not below n (place: first offending position in the list).
-- The unknown at position p is below n and above the one before it.
unfoldable pub rises_at : ℕ → List ℕ → ℕ → Bool
rises_at n list zero = ltb (get_or list 0 0) n
rises_at n list (suc p) = ltb (get_or list (suc p) 0) n && ltb (get_or list p 0) (get_or list (suc p) 0)

unfoldable pub rule20 : ℕ → List ℕ → Verdict
rule20 n list = lowest_refusal (λ p. refuse_if (not (rises_at n list p)) (refusal 20 p zero64)) (length list)

-- 4. The work memory has fewer than the needed values.
unfoldable pub rule4 : Call → ℕ → ℕ → ℕ → Verdict
rule4 call n b work_length = refuse_if (ltb work_length (needed_work call n b)) (refusal 4 0 zero64)

-- 14. The unknown k is not below n.
unfoldable pub rule14 : ℕ → ℕ → Verdict
rule14 n k = refuse_if (not (ltb k n)) (refusal 14 0 zero64)

-- 5. A solver has m over 1,000.
unfoldable pub rule5 : ℕ → Verdict
rule5 m = refuse_if (ltb max_rhs m) (refusal 5 0 zero64)

-- 6. A solver's right-hand sides are not exactly n × m values.
unfoldable pub rule6 : ℕ → ℕ → ℕ → Verdict
rule6 n m rhs_length = refuse_if (not (eqb rhs_length (n * m))) (refusal 6 0 zero64)

-- 7, 8. A value that is not finite (place: lowest position in memory as handed in): of the matrix, and of the right-hand sides.
unfoldable pub finite_rule : ℕ → List Float → Verdict
finite_rule code memory = lowest_refusal (λ p. refuse_if (not (finite (get_or memory p nan))) (refusal code p zero64)) (length memory)

abbrev pub rule7 : List Float → Verdict
rule7 matrix = finite_rule 7 matrix

abbrev pub rule8 : List Float → Verdict
rule8 rhs = finite_rule 8 rhs

-- 9. A solver finds a diagonal value not greater than zero (place: lowest such column). Columns from k on are judged; a solver judges them from 0 on.
unfoldable pub rule9 : (ℕ → ℕ → ℕ) → ℕ → ℕ → List Float → Verdict
rule9 place k n matrix =
    lowest_refusal (λ c. let j = k + c in refuse_if (not (positive (get_or matrix (place j j) nan))) (refusal 9 j zero64)) (n - k)

-- 10. A column's pivot is not greater than zero (place: the column; value: the pivot's bits).
abbrev pub rule10 : ℕ → Pivot → Verdict
rule10 j (Root r e) = success
rule10 j (Refused v) = refusal 10 j v

-- 11. A column's pivot passes but an entry below it is not finite (place: the column).
unfoldable pub rule11 : ℕ → Bool → Verdict
rule11 j finite_below = refuse_if (not finite_below) (refusal 11 j zero64)

-- 2^−40
abbrev pub weak_ratio : Float
weak_ratio = fin false 1 (negsuc 39)

-- 16. A column is weak (place: the column; value: the pivot): its pivot is greater than zero but not greater than a(j,j) × 2^−40, that product
-- rounded once and a(j,j) taken at entry.
unfoldable pub weak : Float → Float → Bool
weak entered p = positive p && not (lt (mul binary64 entered weak_ratio) p)

unfoldable pub rule16 : ℕ → Float → Float → Verdict
rule16 j entered p = refuse_if (weak entered p) (refusal 16 j p)

-- a column's rules, in checking order: on a(j,j) at entry, on its pivot, and on whether the entries below are finite
unfoldable pub column_rules : ℕ → Float → Float → Bool → Verdict
column_rules j entered p finite_below = first_refusal (rule10 j (judged p) ∷ rule16 j entered p ∷ rule11 j finite_below ∷ [])

-- column j judged, the columns of l before it being known
unfoldable pub column_verdict : (ℕ → ℕ) → Triangle → Triangle → ℕ → Verdict
column_verdict height_of a l j = column_rules j (entry a j j) (pivot a l j) (all finite (below height_of a j l))

-- whether its root is exact
unfoldable pub column_exact : Triangle → Triangle → ℕ → Bool
column_exact a l j = exact_root (judged (pivot a l j))

-- 12. A right-hand side meets a y or x that is not finite (place: number of the right-hand side).
unfoldable pub rule12 : ℕ → List Float → List Float → Verdict
rule12 q y x = refuse_if (not (all finite y && all finite x)) (refusal 12 q zero64)
