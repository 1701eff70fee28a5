-- `job::floats::float_of` meets its contract, by the kind of the pattern. Assumes nothing.
use mathlib.Core.Path.{sym, ◌∙◌}
use native.Mathlib.Omega.{arith}
use Rattle.job.proofs.Patterns.{pattern_nan, pattern_number}
use Rattle.job.proofs.floats.float_of.Goals as goal

pub float_from_bits-result : goal.float_from_bits-result
float_from_bits-result c = pattern_number c.args.bits (omega arith) (λ e. c.in_default.not-NaN (c.kind_of_bits.ensures ∙ e))

pub returns-in-NaN : goal.returns-in-NaN
returns-in-NaN c =
    pattern_nan c.args.bits (omega arith) (sym c.kind_of_bits.ensures ∙ c.in-NaN.is)
