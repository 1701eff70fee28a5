-- `checks::each_finite` meets its contract. The loop's invariant: `passed` says whether the values so far are finite. Assumes nothing.
use mathlib.Core.Path.{refl, ap, ◌∙◌}
use lib.Seq.{take_all}
use lib.Ieee.{nan}
use Rattle.binary64.specs.Kinds.{finite}
use Rattle.calls.specs.Sequences.{all}
use Rattle.calls.proofs.Sequences.{all_take}
use Rattle.checks.proofs.each_finite.Goals as goal

pub loop-x-init : goal.loop-x-init
unfolding all
loop-x-init c = refl

pub loop-x-preserved : goal.loop-x-preserved
loop-x-preserved c = cc (all_take finite c.args.values.now c.loop-x.x-index nan c.loop-x-test.true)

pub returns : goal.returns
returns c = c.loop-x.invariant ∙ ap (all finite) (take_all c.loop-x.x-index c.args.values.now c.loop-x-test.false)
