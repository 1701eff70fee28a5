-- `engine::run_both` meets its contract, demand 3 among it: the definitions agree, and the values of an f64 slice are those of binary64. Assumes nothing.
use lib.Ieee.{nan, binary64, fits}
use Rattle.calls.proofs.Sequences.{all_of}
use Rattle.engine.specs.Promises.{memory}
use Rattle.engine.proofs.Composition.{both_ran}
use Rattle.engine.proofs.pipelines.run_both.Goals as goal

pub returns : goal.returns
returns c =
    let a = c.args in
    both_ran a.order a.block a.m (memory a.matrix.now a.rhs.now a.work.now)
    (memory a.matrix2.now a.rhs2.now a.work2.now) _ _ _
    (all_of (fits binary64) a.matrix.now nan (λ i p. c.slice_known-1.given i))
    c.plain_pipeline-plain.ensures c.blocked_pipeline-blocked.ensures
