-- `checks::columns::refused_below` meets its contract. Assumes nothing.
use mathlib.Core.Path.{ap}
use mathlib.Core.Bool.{false}
use Rattle.calls.specs.declared.Verdict.{Verdict}
use Rattle.calls.specs.Refusals.{rule11}
use Rattle.checks.proofs.columns.refused_below.Goals as goal

pub returns : goal.returns
unfolding rule11
returns c = ap (λ (v : Verdict). record { verdict = v; exact = false }) c.from.ensures
