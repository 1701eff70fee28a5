-- What the steps of the blocked factor promise of the whole matrix memory.
use Rattle.std.specs.Prelude.{ℕ, ◌+◌, ◌-◌, ◌≤◌, ◌<◌, ◌≡◌, true, false, List, length, get_or, Float}
use Rattle.std.specs.Float.{nan}
use Rattle.shape.specs.Bounds.{max_order, max_block}
use Rattle.shape.specs.Places.{triangle, block_of, block_start, width, blocked_place, block_work}
use Rattle.shape.specs.Layouts.{Entry}
use Rattle.calls.specs.declared.Judgement.{Judgement}
use Rattle.calls.specs.Triangles.{Triangle, entry, height, load, store}
use Rattle.calls.specs.Arithmetic.{cholesky}
use Rattle.calls.specs.Refusals.{success, accepted, lowest_refusal}
use Rattle.calls.specs.declared.Layout.TheVariants.{Blocked}
use Rattle.calls.specs.Calls.{judge_column, columns_judged, finished}
use Rattle.blocked_factor.specs.BlockColumns.{row_start}
use Rattle.blocked_factor.specs.BlockStages.{factor_entry, columns_to, Entered}

-- column c begins a block column of a matrix of order n, with a block length above 1, in a memory of its length
pub record BlockAt (n b c len : ℕ) : Type 0 where
  pub order : n ≤ max_order
  pub block : 1 < b
  pub block_high : b ≤ max_block
  pub inside : c < n
  pub first : block_of b c ≡ c
  pub size : len ≡ triangle n

-- row c + r of the matrix
abbrev pub row_of : ℕ → ℕ → ℕ → List Float → ℕ → ℕ → Float
row_of n b c m r = λ k. get_or m (blocked_place n b (c + r) k) nan

-- columns before c are finished, and the others hold the matrix's entries
pub record FactoredTo (n b : ℕ) (a : Triangle) (c : ℕ) (m : List Float) : Type 0 where
  pub finished : (i j : ℕ) → Entry n i j → j < c → get_or m (blocked_place n b i j) nan ≡ factor_entry n a i j
  pub entries : (i j : ℕ) → Entry n i j → c ≤ j → get_or m (blocked_place n b i j) nan ≡ entry a i j

-- what the columns up to the end of the block column at c are judged to, those before it being accepted
abbrev pub BlockJudged : ℕ → ℕ → ℕ → Judgement → List Float → Judgement → Type 0
BlockJudged n b c before m answer =
    (a : Triangle) → FactoredTo n b a c m → lowest_refusal (judge_column n a) c ≡ success → before ≡ columns_to n a c →
    answer ≡ columns_to n a (c + width n b c)

-- The block column at c is finished, and judged, given its saved entry values. Earlier and later places are as they were.
pub record BlockFactored (n b c : ℕ) (saved : List Float) (before : Judgement) (m : List Float) (answer : Judgement) (m' : List Float) : Type 0 where
  pub kept : length m' ≡ length m
  pub earlier : (p : ℕ) → p < block_start n c → get_or m' p nan ≡ get_or m p nan
  pub later : (p : ℕ) → block_start n c + row_start (width n b c) (n - c) ≤ p → get_or m' p nan ≡ get_or m p nan
  pub finished : (a : Triangle) → FactoredTo n b a c m → FactoredTo n b a (c + width n b c) m'
  pub judged : ((a : Triangle) → FactoredTo n b a c m → Entered a c (width n b c) saved) → BlockJudged n b c before m answer

-- It is judged, and finished where no column is refused; else all memory is as it was.
pub record BlockDone (n b c : ℕ) (before : Judgement) (m : List Float) (answer : Judgement) (m' : List Float) : Type 0 where
  pub kept : length m' ≡ length m
  pub restored : accepted answer.verdict ≡ false → m' ≡ m
  pub finished : accepted answer.verdict ≡ true → (a : Triangle) → FactoredTo n b a c m → FactoredTo n b a (c + width n b c) m'
  pub judged : BlockJudged n b c before m answer

-- a matrix of order n and work memory of the needed lengths, with a block length above 1
pub record Sized (n b matrix_length work_length : ℕ) : Type 0 where
  pub order : n ≤ max_order
  pub block : 1 < b
  pub block_high : b ≤ max_block
  pub matrix : matrix_length ≡ triangle n
  pub work : work_length ≡ block_work n b

-- Every block column before that of the lowest refused column is finished, and the others hold the matrix's entries.
pub record BlocksDone (n b : ℕ) (m : List Float) (answer : Judgement) (m' : List Float) : Type 0 where
  pub kept : length m' ≡ length m
  pub judgement : (a : Triangle) → FactoredTo n b a 0 m → answer ≡ columns_to n a n
  pub columns : (a : Triangle) → FactoredTo n b a 0 m → FactoredTo n b a (finished Blocked n b answer.verdict) m'

-- the same with any block length
pub record Lent (n b matrix_length work_length : ℕ) : Type 0 where
  pub order : n ≤ max_order
  pub block : 1 ≤ b
  pub block_high : b ≤ max_block
  pub matrix : matrix_length ≡ triangle n
  pub work : work_length ≡ block_work n b

-- all columns judged up to the first that is refused, and the block columns before its own written
pub record Factored (n b : ℕ) (m : List Float) (r : Judgement) (m' : List Float) : Type 0 where
  pub result : r ≡ columns_judged n (load (blocked_place n b) (height n) n m)
  pub matrix :
      m' ≡ store (blocked_place n b) (cholesky (height n) (load (blocked_place n b) (height n) n m) (finished Blocked n b r.verdict)) m
