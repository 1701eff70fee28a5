-- `job::floats::floats_of` meets its contract. The loop's invariant: the first k values are there. Assumes nothing.
use native.Mathlib.Omega.{arith}
use mathlib.Core.Path.{refl, sym, ◌∙◌}
use Rattle.job.proofs.Patterns.{floats_turn, floats_all}
use Rattle.job.proofs.floats.floats_of.Goals as goal

pub loop-k-init : goal.loop-k-init
loop-k-init c = record { kept = sym c.requires; within = omega arith; front = refl }

pub loop-k-preserved : goal.loop-k-preserved
loop-k-preserved c =
    let a = c.args in
    floats_turn a.bits.now c.loop-k.out c.loop-k.k c.float_of.result (omega arith) c.float_of.ensures c.loop-k.invariant

pub shape_of-out : goal.shape_of-out
shape_of-out c = c.loop-k.invariant.kept ∙ c.requires

pub returns : goal.returns
returns c = floats_all c.args.bits.now c.loop-k.out c.loop-k.k (omega arith) c.loop-k.invariant
