-- What is promised of a part of the checks.
use Rattle.std.specs.Prelude.{ℕ, ◌+◌, ◌-◌, not, List, get_or, Float}
use Rattle.std.specs.Float.{nan}
use Rattle.binary64.specs.Kinds.{finite, zero64}
use Rattle.calls.specs.declared.Verdict.{Verdict}
use Rattle.calls.specs.Refusals.{refusal, refuse_if, lowest_refusal}

-- rule 7 on the values from `from` on and before `to`
unfoldable pub finite_part : ℕ → ℕ → List Float → Verdict
finite_part from to matrix =
    lowest_refusal (λ c. let p = from + c in refuse_if (not (finite (get_or matrix p nan))) (refusal 7 p zero64)) (to - from)
