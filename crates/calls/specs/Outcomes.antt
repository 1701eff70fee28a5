-- How the code says what a call or a part of it ends with: a refusal, or what it gives. A call's verdict and judgement are told from it.
use Rattle.std.specs.Prelude.{Bool, false, Result, Ok, Err, Float}
use Rattle.binary64.specs.Kinds.{zero64}
use Rattle.calls.specs.declared.outcomes.Refusal.{Refusal}
use Rattle.calls.specs.declared.outcomes.Refusal.TheVariants.{Order, BlockLength, MatrixLength, WorkLength, RhsCount, RhsLength, MatrixValue, RhsValue, Diagonal, Pivot, Overflow, Solution, Unknown, Unsuited, Weak, Form, StrikeList}
use Rattle.calls.specs.declared.Verdict.{Verdict}
use Rattle.calls.specs.declared.Success.{Success}
use Rattle.calls.specs.Refusals.{success, refusal}
use Rattle.calls.specs.declared.Judgement.{Judgement}

abbrev pub verdict_of_refusal : Refusal → Verdict
verdict_of_refusal Order = refusal 1 0 zero64
verdict_of_refusal BlockLength = refusal 2 0 zero64
verdict_of_refusal MatrixLength = refusal 3 0 zero64
verdict_of_refusal WorkLength = refusal 4 0 zero64
verdict_of_refusal RhsCount = refusal 5 0 zero64
verdict_of_refusal RhsLength = refusal 6 0 zero64
verdict_of_refusal (MatrixValue p) = refusal 7 p zero64
verdict_of_refusal (RhsValue p) = refusal 8 p zero64
verdict_of_refusal (Diagonal j) = refusal 9 j zero64
verdict_of_refusal (Pivot j v) = refusal 10 j v
verdict_of_refusal (Overflow j) = refusal 11 j zero64
verdict_of_refusal (Solution q) = refusal 12 q zero64
verdict_of_refusal Unknown = refusal 14 0 zero64
verdict_of_refusal Unsuited = refusal 15 0 zero64
verdict_of_refusal (Weak j v) = refusal 16 j v
verdict_of_refusal Form = refusal 17 0 zero64
verdict_of_refusal (StrikeList p) = refusal 20 p zero64

-- of what gives no value
abbrev pub verdict_of : {A : Type 0} → Result A Refusal → Verdict
verdict_of (Ok x) = success
verdict_of (Err r) = verdict_of_refusal r

-- of what gives a value: the variance
abbrev pub valued : Result Float Refusal → Verdict
valued (Ok v) = record { code = 0; place = 0; value = v }
valued (Err r) = verdict_of_refusal r

-- of columns that are judged, which give whether every root is exact
abbrev pub judgement_of : Result Bool Refusal → Judgement
judgement_of (Ok e) = record { verdict = success; exact = e }
judgement_of (Err r) = record { verdict = verdict_of_refusal r; exact = false }

-- of a whole call
abbrev pub answer_of : Result Success Refusal → Judgement
answer_of (Ok s) = record { verdict = record { code = 0; place = 0; value = s.value }; exact = s.exact }
answer_of (Err r) = record { verdict = verdict_of_refusal r; exact = false }
