-- `checks::rules::check_factor` meets its contract: the rules of the sizes decide, or rule 7 does. Assumes nothing.
use mathlib.Core.Path.{sym, ◌∙◌}
use mathlib.Core.List.{[], ◌∷◌}
use lib.ListN.{length}
use Rattle.calls.specs.declared.Call.TheVariants.{Factor}
use Rattle.calls.specs.Refusals.{rule7}
use Rattle.calls.specs.Calls.{factor_checks}
use Rattle.calls.proofs.OutcomeLaws.{passed_on, decided, continued}
use Rattle.calls.proofs.Checks.{size_rules}
use Rattle.calls.proofs.CheckLaws.{finite_alone}
use Rattle.checks.proofs.rules.check_factor.Goals as goal

pub returns-in_err-check_sizes : goal.returns-in_err-check_sizes
unfolding factor_checks
returns-in_err-check_sizes c =
    let a = c.args in
    rw (passed_on c.from_residual.result _ c.from_residual.ensures.1)
    (decided (size_rules (Factor a.layout) a.shape (length a.matrix.now) a.work) (rule7 a.matrix.now ∷ []) _ c.in_err-check_sizes.ensures)

pub returns : goal.returns
unfolding factor_checks
returns c =
    let a = c.args in
    c.check_finite.ensures
    ∙ sym (finite_alone 6 a.matrix.now)
    ∙ sym (continued (size_rules (Factor a.layout) a.shape (length a.matrix.now) a.work) (rule7 a.matrix.now ∷ []) c.in_ok-check_sizes.ensures)
