-- Document 02, (m): the runs of every small system, how many gave which code, and the listing of these counts.
use Rattle.std.specs.Prelude.{ℕ, zero, suc, ◌+◌, ◌*◌, ◌≤◌, ◌≡◌, List, [], ◌∷◌, ◌++◌, map, eqb, length, get_or, replicate, Float}
use Rattle.binary64.specs.Kinds.{zero64}
use Rattle.shape.specs.Bounds.{max_order, max_block}
use Rattle.calls.specs.Sequences.{passing}
use Rattle.calls.specs.Pipelines.{Ended, plain_pipeline, blocked_pipeline}
use Rattle.text.specs.Writing.{pieces}
use Rattle.text.specs.Decimals.{space, line_feed, decimal}
use Rattle.acceptance.specs.declared.Run.{Run}
use Rattle.acceptance.specs.declared.Run.TheVariants.{Plain, Blocked}
use Rattle.acceptance.specs.Systems.{entries, values, total}

-- ---- the runs

-- the plain pipeline, then the blocked one with b 1, 2, 3, ..
abbrev pub run_of : ℕ → Run
run_of zero = Plain
run_of (suc k) = Blocked (suc k)

-- without right-hand sides; the plain pipeline does not judge the block length
abbrev pub ended_on : Run → ℕ → List Float → List Float → List Float → Ended
ended_on Plain n = plain_pipeline n 1 0
ended_on (Blocked b) n = blocked_pipeline n b 0

-- The code that a run of matrix number t gives: the solver's, or that of the refused call before it. The work memory is enough for every call.
unfoldable pub code_of : Run → ℕ → ℕ → ℕ
code_of run n t = (ended_on run n (values (entries n t)) [] (replicate (n * n) zero64)).solver_result.code

-- ---- the counts

-- how many of the first count matrices of order n give a code
unfoldable pub tally : Run → ℕ → ℕ → ℕ → ℕ
tally run n count code = length (passing (λ t. eqb (code_of run n t) code) count)

-- the order, the total, and how many gave 0, 10, 11 and 16
abbrev pub numbers : Run → ℕ → List ℕ
numbers run n = n ∷ total n ∷ map (tally run n (total n)) (0 ∷ 10 ∷ 11 ∷ 16 ∷ [])

-- ---- the listing

-- a space and number k of a list in decimal
abbrev pub spaced : List ℕ → ℕ → List ℕ
spaced xs k = space ∷ decimal (get_or xs k 0)

-- `N` and the numbers
unfoldable pub numbers_line : List ℕ → List ℕ
numbers_line xs = (78 ∷ []) ++ pieces (spaced xs) (length xs) ++ (line_feed ∷ [])

unfoldable pub line : Run → ℕ → List ℕ
line run n = numbers_line (numbers run n)

-- the lines of the first count runs of an order
abbrev pub run_lines : ℕ → ℕ → List ℕ
run_lines n count = pieces (λ k. line (run_of k) n) count

-- four lines for each order
unfoldable pub order_lines : ℕ → List ℕ
order_lines n = run_lines n 4

-- orders 0 to 3
unfoldable pub listing : List ℕ
listing = pieces order_lines 4

-- ---- what holds of them

-- The four lines of an order are the same line: so for every order and block length within document 01's bounds.
abbrev pub SameLines : Type 0
SameLines = (n k : ℕ) → n ≤ max_order → k ≤ max_block → line (run_of k) n ≡ line Plain n

-- Every matrix gives one of the four codes: the counts add up to the total.
abbrev pub AddsUp : Type 0
AddsUp =
    (n k : ℕ) → n ≤ max_order → k ≤ max_block →
    (let count = tally (run_of k) n (total n) in count 0 + count 10 + count 11 + count 16) ≡ total n
