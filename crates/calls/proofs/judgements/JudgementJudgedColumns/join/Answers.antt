-- `join` of judgements meets its contract. Assumes nothing.
use Prim.Native.Nat.{◌+◌}
use native.Mathlib.Omega.{arith}
use mathlib.Core.Path.{sym, ap, ap₂, ◌∙◌}
use mathlib.Core.Bool.{◌&&◌}
use Rattle.calls.specs.Refusals.{accepted}
use Rattle.calls.specs.declared.Judgement.{Judgement}
use Rattle.calls.proofs.Judging.{judged_stays, judged_next}
use Rattle.calls.proofs.judgements.JudgementJudgedColumns.join.Goals as goal

pub returns-then-not-accepted : goal.returns-then-not-accepted
returns-then-not-accepted c =
    λ judge exact k b e.
    b
    ∙ judged_stays judge exact k (k + 1) (omega arith)
    (ap (λ (j : Judgement). accepted j.verdict) (sym b) ∙ sym c.accepted.ensures ∙ c.if-not-accepted.true)

pub returns : goal.returns
returns c =
    λ judge exact k b e.
    ap₂ (λ (j x : Judgement). record { verdict = x.verdict; exact = j.exact && x.exact }) b e
    ∙ judged_next judge exact k (ap (λ (j : Judgement). accepted j.verdict) (sym b) ∙ sym c.accepted.ensures ∙ c.if-not-accepted.false)
