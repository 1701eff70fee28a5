-- Laws of how the code says what a call ends with: no refusal is accepted, whatever condition it is of, and a `?` passes a refusal on as it is. Assumes nothing.
use mathlib.Core.Path.{◌≡◌, refl}
use mathlib.Core.Bool.{false}
use mathlib.Core.List.{List, ◌++◌}
use Rattle.std.specs.Prelude.{Result, Err}
use Rattle.std.specs.Result.{IsErrAnd}
use Rattle.std.proofs.lemmas.Result.{err_from_is_err_and}
use Rattle.calls.specs.declared.Verdict.{Verdict}
use Rattle.calls.specs.declared.outcomes.Refusal.{Refusal}
use Rattle.calls.specs.declared.outcomes.Refusal.TheVariants.{Order, BlockLength, MatrixLength, WorkLength, RhsCount, RhsLength, MatrixValue, RhsValue, Diagonal, Pivot, Overflow, Solution, Unknown, Unsuited, Weak, Form, StrikeList}
use Rattle.calls.specs.Refusals.{success, accepted, first_refusal}
use Rattle.calls.specs.Outcomes.{verdict_of_refusal}
use Rattle.calls.proofs.Judging.{first_decided, first_continued}

pub not_accepted : (r : Refusal) → accepted (verdict_of_refusal r) ≡ false
not_accepted Order = refl
not_accepted BlockLength = refl
not_accepted MatrixLength = refl
not_accepted WorkLength = refl
not_accepted RhsCount = refl
not_accepted RhsLength = refl
not_accepted (MatrixValue p) = refl
not_accepted (RhsValue p) = refl
not_accepted (Diagonal j) = refl
not_accepted (Pivot j v) = refl
not_accepted (Overflow j) = refl
not_accepted (Solution q) = refl
not_accepted Unknown = refl
not_accepted Unsuited = refl
not_accepted (Weak j v) = refl
not_accepted Form = refl
not_accepted (StrikeList p) = refl

-- what a `?` returns where it passes a refusal on
pub passed_on : {A : Type 0} → (p : Result A Refusal) (r : Refusal) → IsErrAnd p (λ e. e ≡ r) → p ≡ Err r
passed_on p r h = let q = err_from_is_err_and p h in rw (q.1, q.2) refl

-- rules in two parts: a refusal of the first part decides, else the second part does
module _ (rs ss : List Verdict) where
  pub decided : (r : Refusal) → verdict_of_refusal r ≡ first_refusal rs → verdict_of_refusal r ≡ first_refusal (rs ++ ss)
  decided r e = first_decided rs ss (verdict_of_refusal r) e (not_accepted r)

  pub continued : success ≡ first_refusal rs → first_refusal (rs ++ ss) ≡ first_refusal ss
  continued e = first_continued rs ss success e refl
