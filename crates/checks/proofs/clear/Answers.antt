-- `checks::clear` meets its contract. Assumes nothing.
use lib.Ieee.{of_bits}
use Rattle.checks.proofs.clear.Goals as goal

pub returns : goal.returns
unfolding of_bits
returns c = c.fill.ensures.after (λ y e. e)
