-- `strike::rules::check_strike` meets its contract: the rules on sizes decide, or rule 20 does. Assumes nothing.
use mathlib.Core.Path.{sym, ◌∙◌}
use mathlib.Core.List.{[], ◌∷◌}
use Rattle.calls.specs.declared.Call.TheVariants.{Strike}
use Rattle.calls.specs.Refusals.{rule20}
use Rattle.calls.proofs.OutcomeLaws.{passed_on, decided, continued}
use Rattle.calls.proofs.Checks.{size_rules}
use Rattle.strike.proofs.Strikes.{rule20_alone, strike_sized}
use Rattle.strike.proofs.rules.check_strike.Goals as goal

pub returns-in_err-check_sizes : goal.returns-in_err-check_sizes
returns-in_err-check_sizes c =
    let a = c.args in
    rw (passed_on c.from_residual.result _ c.from_residual.ensures.1)
    (decided (size_rules Strike a.shape a.matrix 0) (rule20 a.shape.order a.list.now ∷ []) _ c.in_err-check_sizes.ensures
    ∙ sym (strike_sized a.shape a.list.now a.matrix))

pub returns : goal.returns
returns c =
    let a = c.args in
    c.check_list.ensures
    ∙ sym (rule20_alone a.shape.order a.list.now)
    ∙ sym (continued (size_rules Strike a.shape a.matrix 0) (rule20 a.shape.order a.list.now ∷ []) c.in_ok-check_sizes.ensures)
    ∙ sym (strike_sized a.shape a.list.now a.matrix)
