-- `job::floats::bits_of` meets its contract, by the kind of the value. Assumes nothing.
use mathlib.Core.Path.{sym, ◌∙◌, subst}
use lib.Dec.{T}
use Rattle.binary64.proofs.Values.{number_of_kind}
use Rattle.job.proofs.Patterns.{nan_bits_lem}
use Rattle.job.proofs.floats.bits_of.Goals as goal

pub float_to_bits-result : goal.float_to_bits-result
float_to_bits-result c = number_of_kind c.args.v (λ e. c.in_default.not-NaN (c.kind_of.ensures ∙ e))

pub returns-in-NaN : goal.returns-in-NaN
returns-in-NaN c =
    nan_bits_lem c.args.v (subst T (sym c.well_formed.0.1) tt) (sym c.kind_of.ensures ∙ c.in-NaN.is)
