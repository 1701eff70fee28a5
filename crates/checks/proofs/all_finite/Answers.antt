-- `checks::all_finite` meets its contract. Assumes nothing.
use Prim.Native.Nat.{◌+◌, ◌*◌, ◌/◌, ◌-◌}
use native.Mathlib.Omega.{arith}
use mathlib.Core.Path.{sym, ap, ap₂, ◌∙◌}
use mathlib.Core.Bool.{◌&&◌}
use lib.ListN.{length}
use lib.Seq.{take_all}
use Rattle.binary64.specs.Kinds.{finite}
use Rattle.calls.specs.Sequences.{all}
use Rattle.calls.proofs.Sequences.{all_parts}
use Rattle.checks.proofs.all_finite.Goals as goal

pub returns : goal.returns
returns c =
    let values = c.args.values.now in
    let four = 4 * (length values / 4) in
    ap₂ ◌&&◌ c.quarters_finite.ensures c.each_finite-rest.ensures
    ∙ sym (all_parts finite values four (length values - four))
    ∙ ap (all finite) (take_all (four + (length values - four)) values (omega arith))
