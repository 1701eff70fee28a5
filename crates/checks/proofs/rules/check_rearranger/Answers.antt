-- `checks::rules::check_rearranger` meets its contract: a rearranger's checks are those of the sizes. Assumes nothing.
use Rattle.calls.specs.Calls.{rearranger_checks}
use Rattle.checks.proofs.rules.check_rearranger.Goals as goal

pub returns : goal.returns
unfolding rearranger_checks
returns c = c.check_sizes.ensures
