-- How far a block column of a matrix `a` of order n is worked on, and how it is judged. It begins with column c and its memory at place 0.
use Rattle.std.specs.Prelude.{ℕ, ◌+◌, ◌≤◌, ◌<◌, ◌≡◌, true, cond, ◌&&◌, List, leb, ltb, length, get_or, Float}
use Rattle.std.specs.Float.{nan}
use Rattle.calls.specs.declared.Verdict.{Verdict}
use Rattle.calls.specs.Triangles.{Triangle, entry, height}
use Rattle.calls.specs.Arithmetic.{minus_products, pivot, cholesky}
use Rattle.calls.specs.Refusals.{success, lowest_refusal, column_rules}
use Rattle.calls.specs.declared.Judgement.{Judgement}
use Rattle.calls.specs.Judgements.{judged_to}
use Rattle.calls.specs.Calls.{judge_column, exact_column}
use Rattle.blocked_factor.specs.BlockColumns.{row_start}

-- an entry of the factor
abbrev pub factor_entry : ℕ → Triangle → ℕ → ℕ → Float
factor_entry n a i j = entry (cholesky (height n) a n) i j

-- entry (i, j) less its first k products
abbrev pub less_products : ℕ → Triangle → ℕ → ℕ → ℕ → Float
less_products n a k i j = minus_products (λ q. factor_entry n a i q) (λ q. factor_entry n a j q) k (entry a i j)

-- what a column is judged to where the entries below its pivot are finite
abbrev pub judge_pivot : ℕ → Triangle → ℕ → Verdict
judge_pivot n a = λ j. column_rules j (entry a j j) (pivot a (cholesky (height n) a j) j) true

-- what the first k columns are judged to, and what by their pivots alone
abbrev pub columns_to : ℕ → Triangle → ℕ → Judgement
columns_to n a k = judged_to (judge_column n a) (exact_column n a) k

abbrev pub pivots_to : ℕ → Triangle → ℕ → Judgement
pivots_to n a k = judged_to (judge_pivot n a) (exact_column n a) k

-- saved entry values, laid out as the block column is: those on the diagonal
pub record Entered (a : Triangle) (c w : ℕ) (saved : List Float) : Type 0 where
  pub diagonal : (s : ℕ) → s < w → get_or saved (row_start w s + s) nan ≡ entry a (c + s) (c + s)

-- Row r is finished in its columns before `limit r`. Its other columns before e have the products with columns before c + s0 subtracted, and the
-- rest those before c.
pub record Stage (n : ℕ) (a : Triangle) (c w s0 e : ℕ) (limit : ℕ → ℕ) (m : List Float) : Type 0 where
  pub finished : (r s : ℕ) → s ≤ r → c + r < n → s < w → s < limit r → get_or m (row_start w r + s) nan ≡ factor_entry n a (c + r) (c + s)
  pub started :
      (r s : ℕ) → s ≤ r → c + r < n → s < w → limit r ≤ s → s < e → get_or m (row_start w r + s) nan ≡ less_products n a (c + s0) (c + r) (c + s)
  pub entered : (r s : ℕ) → s ≤ r → c + r < n → s < w → e ≤ s → get_or m (row_start w r + s) nan ≡ less_products n a c (c + r) (c + s)

-- the same limit for all rows, and another one for rows from `from` to `to` − 1
abbrev pub all_rows : ℕ → ℕ → ℕ
all_rows s = λ r. s

abbrev pub rows_to : ℕ → ℕ → ℕ → (ℕ → ℕ) → ℕ → ℕ
rows_to from to s limit = λ r. cond (leb from r && ltb r to) s (limit r)

-- rows before `to` of a panel of columns s0 .. e − 1 are finished
abbrev pub top_rows : ℕ → ℕ → ℕ → ℕ → ℕ
top_rows s0 e to = rows_to 0 to e (all_rows s0)

-- Rows from `from` to `to` − 1, which are below columns s0 .. end − 1 and have none of them finished, are finished in these, given the rows of
-- those columns' diagonals. What is past these rows is as it was.
pub record RowsFinished (w s0 end from to : ℕ) (m m' : List Float) : Type 0 where
  pub kept : length m' ≡ length m
  pub beyond : (p : ℕ) → row_start w to ≤ p → get_or m' p nan ≡ get_or m p nan
  pub stage :
      (n : ℕ) (a : Triangle) (c e : ℕ) (limit : ℕ → ℕ) → c + to ≤ n → end ≤ e → ((k : ℕ) → s0 ≤ k → k < end → k < limit k) →
      ((r : ℕ) → from ≤ r → r < to → limit r ≡ s0) → Stage n a c w s0 e limit m → Stage n a c w s0 e (rows_to from to end limit) m'

-- The diagonal entry of column s, which is column c + s of the matrix, is finished, given its row. `before` is what the earlier columns are judged to by
-- their pivots, and `answer` what those up to this one are.
pub record DiagonalFinished (c w s0 s : ℕ) (saved : List Float) (before : Judgement) (m : List Float) (answer : Judgement) (m' : List Float) : Type 0 where
  pub kept : length m' ≡ length m
  pub beyond : (p : ℕ) → row_start w (s + 1) ≤ p → get_or m' p nan ≡ get_or m p nan
  pub stage :
      (n : ℕ) (a : Triangle) (e : ℕ) (limit : ℕ → ℕ) → c + s < n → s < e → limit s ≡ s → Stage n a c w s0 e limit m →
      Stage n a c w s0 e (rows_to s (s + 1) (s + 1) limit) m'
  pub judgement :
      (n : ℕ) (a : Triangle) (e : ℕ) (limit : ℕ → ℕ) → c + s < n → s < e → limit s ≡ s → Stage n a c w s0 e limit m → Entered a c w saved →
      before ≡ pivots_to n a (c + s) → answer ≡ pivots_to n a (c + (s + 1))

-- Rows before `to` of the panel of columns s0 .. e − 1 are finished, from row s0 on; the columns of their diagonals are judged by their pivots.
pub record TriangleFinished (c w s0 e to : ℕ) (saved : List Float) (before : Judgement) (m : List Float) (answer : Judgement) (m' : List Float) : Type 0 where
  pub kept : length m' ≡ length m
  pub beyond : (p : ℕ) → row_start w to ≤ p → get_or m' p nan ≡ get_or m p nan
  pub stage :
      (n : ℕ) (a : Triangle) → c + to ≤ n → Stage n a c w s0 e (all_rows s0) m → Stage n a c w s0 e (top_rows s0 e to) m'
  pub judgement :
      (n : ℕ) (a : Triangle) → c + to ≤ n → Stage n a c w s0 e (all_rows s0) m → Entered a c w saved → before ≡ pivots_to n a (c + s0) →
      answer ≡ pivots_to n a (c + to)

-- Rows from `from` to `to` − 1 of a panel are finished after those above them.
pub record BelowFinished (w s0 e from to : ℕ) (m m' : List Float) : Type 0 where
  pub kept : length m' ≡ length m
  pub beyond : (p : ℕ) → row_start w to ≤ p → get_or m' p nan ≡ get_or m p nan
  pub stage :
      (n : ℕ) (a : Triangle) (c : ℕ) → c + to ≤ n → Stage n a c w s0 e (top_rows s0 e from) m → Stage n a c w s0 e (top_rows s0 e to) m'

-- Columns from `from` to `to` − 1 of a block column of h rows are finished, and judged by their pivots.
pub record ColumnsFinished (c w h from to : ℕ) (saved : List Float) (before : Judgement) (m : List Float) (answer : Judgement) (m' : List Float) : Type 0 where
  pub kept : length m' ≡ length m
  pub beyond : (p : ℕ) → row_start w h ≤ p → get_or m' p nan ≡ get_or m p nan
  pub stage :
      (n : ℕ) (a : Triangle) → c + h ≡ n → Stage n a c w from from (all_rows from) m → Stage n a c w to to (all_rows to) m'
  pub judgement :
      (n : ℕ) (a : Triangle) → c + h ≡ n → Stage n a c w from from (all_rows from) m → Entered a c w saved → before ≡ pivots_to n a (c + from) →
      answer ≡ pivots_to n a (c + to)

-- A finished block column is judged, given what the columns up to its end are judged to by their pivots.
abbrev pub BlockColumnJudged : ℕ → ℕ → ℕ → List Float → Judgement → List Float → Judgement → Type 0
BlockColumnJudged c w h saved first m answer =
    (n : ℕ) (a : Triangle) → c + h ≡ n → Stage n a c w w w (all_rows w) m → Entered a c w saved → lowest_refusal (judge_column n a) c ≡ success →
    first ≡ pivots_to n a (c + w) → answer ≡ columns_to n a (c + w)

-- A block column holds what `cholesky` gives, and is judged, `before` being what the accepted columns before it are judged to.
pub record BlockColumnFactored (c w h : ℕ) (saved : List Float) (before : Judgement) (m : List Float) (answer : Judgement) (m' : List Float) : Type 0 where
  pub kept : length m' ≡ length m
  pub beyond : (p : ℕ) → row_start w h ≤ p → get_or m' p nan ≡ get_or m p nan
  pub stage : (n : ℕ) (a : Triangle) → c + h ≡ n → Stage n a c w 0 0 (all_rows 0) m → Stage n a c w w w (all_rows w) m'
  pub judgement :
      (n : ℕ) (a : Triangle) → c + h ≡ n → Stage n a c w 0 0 (all_rows 0) m → Entered a c w saved → lowest_refusal (judge_column n a) c ≡ success →
      before ≡ columns_to n a c → answer ≡ columns_to n a (c + w)
