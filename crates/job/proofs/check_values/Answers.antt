-- `job::check_values` meets its contract. Rule 7 decides, or rule 8 does. Assumes nothing.
use mathlib.Core.Path.{sym, ◌∙◌}
use mathlib.Core.List.{[], ◌∷◌}
use Rattle.calls.specs.Refusals.{rule7, rule8}
use Rattle.calls.proofs.OutcomeLaws.{passed_on, decided, continued}
use Rattle.calls.proofs.CheckLaws.{finite_alone}
use Rattle.job.proofs.check_values.Goals as goal

pub returns-in_err-check_finite : goal.returns-in_err-check_finite
returns-in_err-check_finite c =
    let job = c.args.job.now in
    rw (passed_on c.from_residual.result _ c.from_residual.ensures.1)
    (decided (rule7 job.matrix.now ∷ []) (rule8 job.rhs.now ∷ []) _ (c.in_err-check_finite.ensures ∙ sym (finite_alone 6 job.matrix.now)))

pub returns : goal.returns
returns c =
    let job = c.args.job.now in
    c.check_finite-2.ensures
    ∙ sym (finite_alone 7 job.rhs.now)
    ∙ sym (continued (rule7 job.matrix.now ∷ []) (rule8 job.rhs.now ∷ []) (c.in_ok-check_finite.ensures ∙ sym (finite_alone 6 job.matrix.now)))
