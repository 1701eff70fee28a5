-- `checks::each_finite` meets its contract. The loop's invariant: `passed` says whether the values so far are finite. Assumes nothing.
use mathlib.Core.Path.{◌≡◌}
use lib.ListN.{take}
use Rattle.binary64.specs.Kinds.{finite}
use Rattle.calls.specs.Sequences.{all}
use Rattle.checks.proofs.each_finite.Given as goal

abbrev pub invariant-loop-x : goal.invariant-loop-x
invariant-loop-x l = l.passed ≡ all finite (take l.x-index l.values)
