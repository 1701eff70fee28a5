-- `variance::trailing::evaluate_checked` meets its contract: a check refuses, or the variance is found. Assumes nothing.
use Prim.Native.Nat.{◌-◌}
use native.Mathlib.Omega.{arith}
use mathlib.Core.Path.{sym}
use lib.ListN.{take, length-take}
use lib.Ieee.{of_bits}
use Rattle.std.specs.Prelude.{Ok, Err}
use Rattle.calls.specs.Outcomes.{valued}
use Rattle.calls.proofs.OutcomeLaws.{passed_on}
use Rattle.calls.proofs.Variances.{solver_blocks}
use Rattle.variance.proofs.Outcomes.{checks_refused, checks_accepted, part_length, returned_length, found}
use Rattle.variance.proofs.trailing.evaluate_checked.Goals as goal

pub returns-in_err-check_variance : goal.returns-in_err-check_variance
returns-in_err-check_variance c =
    let a = c.args in
    rw (passed_on c.from_residual.result _ c.from_residual.ensures.1)
    (checks_refused a.layout a.shape a.k a.matrix.now a.work.now c.in_err-check_variance.field-0.0 c.in_err-check_variance.ensures)

pub slice_bounds-needed-end : goal.slice_bounds-needed-end
slice_bounds-needed-end c =
    let a = c.args in
    (checks_accepted a.layout a.shape a.k a.matrix.now a.work.now c.in_ok-check_variance.ensures).sizes.work

pub slice_bounds-needed-end-2 : goal.slice_bounds-needed-end-2
slice_bounds-needed-end-2 c =
    let a = c.args in
    sym (part_length a.layout a.shape a.k a.matrix.now a.work.now c.in_ok-check_variance.ensures)

pub invariant_of-factor : goal.invariant_of-factor
invariant_of-factor c =
    let a = c.args in
    let known = checks_accepted a.layout a.shape a.k a.matrix.now a.work.now c.in_ok-check_variance.ensures in
    record {
      order = known.sizes.order;
      block = λ s. known.sizes.block_low (solver_blocks a.layout s);
      before = omega (arith, known.inside);
      inside = λ s. known.inside;
      values = known.sizes.matrix;
    }

pub slice_bounds-evaluate-end : goal.slice_bounds-evaluate-end
slice_bounds-evaluate-end c =
    let a = c.args in
    omega (arith, part_length a.layout a.shape a.k a.matrix.now a.work.now c.in_ok-check_variance.ensures)

pub slice_bounds-evaluate-length : goal.slice_bounds-evaluate-length
slice_bounds-evaluate-length c =
    let a = c.args in
    omega (
      arith,
      length-take (a.shape.order - a.k) (take a.shape.order a.work.now),
      part_length a.layout a.shape a.k a.matrix.now a.work.now c.in_ok-check_variance.ensures,
    )

pub evaluate-outcome-requires : goal.evaluate-outcome-requires
evaluate-outcome-requires c =
    let a = c.args in record {
      first_lt_order = (checks_accepted a.layout a.shape a.k a.matrix.now a.work.now c.in_ok-check_variance.ensures).inside;
      work_len = omega (
        arith,
        length-take (a.shape.order - a.k) (take a.shape.order a.work.now),
        part_length a.layout a.shape a.k a.matrix.now a.work.now c.in_ok-check_variance.ensures,
      );
    }

pub returns-in_err-outcome : goal.returns-in_err-outcome
unfolding of_bits
returns-in_err-outcome c =
    let a = c.args in
    let size =
    returned_length a.shape.order (a.shape.order - a.k) c.evaluate-outcome.new.work (take a.shape.order a.work.now) c.evaluate-outcome.auto.work
    (omega arith) (part_length a.layout a.shape a.k a.matrix.now a.work.now c.in_ok-check_variance.ensures) in
    rw (passed_on c.from_residual-in_err-outcome.result _ c.from_residual-in_err-outcome.ensures.1, c.fill.ensures.after (λ y e. e), size)
    (found a.layout a.shape a.k a.matrix.now a.work.now c.in_ok-check_variance.ensures (valued (Err c.in_err-outcome.field-0.0)) c.in_err-outcome.ensures)

pub returns : goal.returns
unfolding of_bits
returns c =
    let a = c.args in
    let size =
    returned_length a.shape.order (a.shape.order - a.k) c.evaluate-outcome.new.work (take a.shape.order a.work.now) c.evaluate-outcome.auto.work
    (omega arith) (part_length a.layout a.shape a.k a.matrix.now a.work.now c.in_ok-check_variance.ensures) in
    rw (c.fill.ensures.after (λ y e. e), size)
    (found a.layout a.shape a.k a.matrix.now a.work.now c.in_ok-check_variance.ensures (valued (Ok c.in_ok-outcome.field-0)) c.in_ok-outcome.ensures)
