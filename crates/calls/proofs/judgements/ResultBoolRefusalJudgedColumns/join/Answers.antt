-- `join` of columns judged by a `Result` meets its contract. Assumes nothing.
use Prim.Native.Nat.{◌+◌}
use native.Mathlib.Omega.{arith}
use mathlib.Core.Path.{◌≡◌, refl, sym, ap, ap₂, ◌∙◌}
use mathlib.Core.Bool.{Bool, true, false, ◌&&◌}
use Rattle.std.proofs.lemmas.Result.{err_from_is_err_and}
use Rattle.calls.specs.Refusals.{accepted}
use Rattle.calls.specs.declared.Judgement.{Judgement}
use Rattle.calls.proofs.OutcomeLaws.{not_accepted}
use Rattle.calls.proofs.Judging.{judged_stays, judged_next}
use Rattle.calls.proofs.judgements.ResultBoolRefusalJudgedColumns.join.Goals as goal

and_false : (b : Bool) → b && false ≡ false
and_false true = refl
and_false false = refl

pub returns-in_err-self : goal.returns-in_err-self
returns-in_err-self c =
    λ judge exact k b e.
    let p = err_from_is_err_and c.from_residual.result c.from_residual.ensures.1 in
    let before = rw (c.in_err-self.was) at b in
    rw (p.1, p.2)
    (before ∙ judged_stays judge exact k (k + 1) (omega arith) (ap (λ (j : Judgement). accepted j.verdict) (sym before) ∙ not_accepted c.in_err-self.field-0.0))

pub returns-in_err-column : goal.returns-in_err-column
returns-in_err-column c =
    λ judge exact k b e.
    let p = err_from_is_err_and c.from_residual-in_err-column.result c.from_residual-in_err-column.ensures.1 in
    let before = rw (c.in_ok-self.was) at b in
    let column = rw (c.in_err-column.was) at e in
    rw (p.1, p.2, ← and_false c.in_ok-self.field-0)
    (ap₂ (λ (j x : Judgement). record { verdict = x.verdict; exact = j.exact && x.exact }) before column
    ∙ judged_next judge exact k (ap (λ (j : Judgement). accepted j.verdict) (sym before)))

pub returns : goal.returns
returns c =
    λ judge exact k b e.
    let before = rw (c.in_ok-self.was) at b in
    let column = rw (c.in_ok-column.was) at e in
    ap₂ (λ (j x : Judgement). record { verdict = x.verdict; exact = j.exact && x.exact }) before column
    ∙ judged_next judge exact k (ap (λ (j : Judgement). accepted j.verdict) (sym before))
