-- The factors with any rules for a column in the place of `column_rules`, for laws that say what a change of these rules changed. Assumes nothing.
use Prim.Native.Nat.{ℕ}
use mathlib.Core.Path.{◌≡◌, refl}
use mathlib.Core.Bool.{Bool, true, false, cond}
use mathlib.Core.List.{List}
use lib.ListN.{length}
use lib.Ieee.{Float}
use Rattle.binary64.specs.Kinds.{finite}
use Rattle.shape.specs.declared.Shape.{Shape}
use Rattle.calls.specs.declared.Verdict.{Verdict}
use Rattle.calls.specs.declared.Layout.{Layout}
use Rattle.calls.specs.declared.Call.TheVariants.{Factor}
use Rattle.calls.specs.Sequences.{all}
use Rattle.calls.specs.Triangles.{Triangle, entry, height, place_of, load, store}
use Rattle.calls.specs.Arithmetic.{pivot, below, cholesky}
use Rattle.calls.specs.Refusals.{accepted, needed_work, lowest_refusal, weak, column_rules, column_verdict}
use Rattle.calls.specs.Judgements.{judgement}
use Rattle.calls.specs.Calls.{Done, result_of, judged_result, clear, factor_checks, columns_verdict, columns_exact, finished, factored, factorize}

-- ---- a column of a, the columns of its factor before it being known

module _ (n : ℕ) (a : Triangle) (j : ℕ) where
  abbrev pub pivot_of : Float
  pivot_of = pivot a (cholesky (height n) a j) j

  abbrev pub finite_below : Bool
  finite_below = all finite (below (height n) a j (cholesky (height n) a j))

  abbrev pub weak_column : Bool
  weak_column = weak (entry a j j) pivot_of

-- ---- a factor

-- rules for a column, on what `column_rules` takes
abbrev pub Rules : Type 0
Rules = ℕ → Float → Float → Bool → Verdict

abbrev pub column_by : Rules → ℕ → Triangle → ℕ → Verdict
column_by rules n a = λ j. rules j (entry a j j) (pivot_of n a j) (finite_below n a j)

abbrev pub verdict_by : Rules → ℕ → Triangle → Verdict
verdict_by rules n a = lowest_refusal (column_by rules n a) n

abbrev pub loaded : Layout → Shape → List Float → Triangle
loaded layout shape matrix = load (place_of layout shape.order shape.block) (height shape.order) shape.order matrix

module _ (layout : Layout) (shape : Shape) (matrix work : List Float) where
  abbrev n : ℕ
  n = shape.order

  abbrev b : ℕ
  b = shape.block

  abbrev a : Triangle
  a = loaded layout shape matrix

  abbrev pub checks : Verdict
  checks = factor_checks layout shape matrix (length work)

  -- what it returns and leaves where a check refuses it, and where its columns have this verdict
  abbrev pub untouched : Done
  untouched = record { result = result_of (Factor layout) shape checks; matrix = matrix; work = work }

  abbrev pub done_with : Verdict → Done
  done_with verdict =
      record {
        result = judged_result (Factor layout) shape (judgement verdict (columns_exact n a));
        matrix = store (place_of layout n b) (cholesky (height n) a (finished layout n b verdict)) matrix;
        work = clear (needed_work (Factor layout) n b) work;
      }

  -- `factorize` with these rules
  abbrev pub factorize_by : Rules → Done
  factorize_by rules = cond (accepted checks) (done_with (verdict_by rules n a)) untouched

  pub factorize_by_lem : factorize layout shape matrix work ≡ factorize_by column_rules
  unfolding factorize factored columns_verdict column_verdict
  factorize_by_lem = refl

  -- two factors are related where their columns' verdicts relate them
  pub factors_related :
      (R : Done → Done → Type 0) (rules rules' : Rules) → (accepted checks ≡ true → R (done_with (verdict_by rules n a)) (done_with (verdict_by rules' n a))) →
      R untouched untouched → R (factorize_by rules) (factorize_by rules')
  factors_related R rules rules' passed refused = go (accepted checks) refl
    where
      go : (c : Bool) → accepted checks ≡ c → R (cond c (done_with (verdict_by rules n a)) untouched) (cond c (done_with (verdict_by rules' n a)) untouched)
      go true e = passed e
      go false e = refused
