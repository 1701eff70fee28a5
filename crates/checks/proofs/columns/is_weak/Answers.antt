-- `checks::columns::is_weak` meets its contract. Assumes nothing.
use mathlib.Core.Path.{refl}
use lib.Ieee.{of_bits}
use Rattle.binary64.specs.Kinds.{positive}
use Rattle.calls.specs.Refusals.{weak}
use Rattle.checks.proofs.columns.is_weak.Goals as goal

pub returns : goal.returns
unfolding weak positive of_bits
returns c = refl
