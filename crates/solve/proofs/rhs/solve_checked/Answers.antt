-- `solve::rhs::solve_checked` meets its contract: a check refuses, or all right-hand sides are solved as far as they pass. Assumes nothing.
use native.Mathlib.Omega.{arith}
use mathlib.Core.Path.{◌≡◌, sym, ◌∙◌}
use lib.ListN.{length}
use lib.Ieee.{of_bits}
use Rattle.std.specs.Prelude.{Ok, Err}
use Rattle.calls.proofs.OutcomeLaws.{passed_on}
use Rattle.solve.proofs.Outcomes.{checks_refused, checks_accepted, part_length, all_done}
use Rattle.solve.proofs.rhs.solve_checked.Goals as goal

pub returns-in_err-check_solver : goal.returns-in_err-check_solver
returns-in_err-check_solver c =
    let a = c.args in
    rw (passed_on c.from_residual.result _ c.from_residual.ensures.1)
    (checks_refused a.layout a.shape a.m a.matrix.now a.rhs.now a.work.now c.in_err-check_solver.field-0.0 c.in_err-check_solver.ensures)

pub slice_bounds-needed-end : goal.slice_bounds-needed-end
slice_bounds-needed-end c =
    let a = c.args in
    (checks_accepted a.layout a.shape a.m a.matrix.now a.rhs.now a.work.now c.in_ok-check_solver.ensures).sizes.work

pub slice_bounds-needed-end-2 : goal.slice_bounds-needed-end-2
slice_bounds-needed-end-2 c =
    let a = c.args in
    sym (part_length a.layout a.shape a.m a.matrix.now a.rhs.now a.work.now c.in_ok-check_solver.ensures)

pub invariant_of-factor : goal.invariant_of-factor
invariant_of-factor c =
    let a = c.args in
    let sizes = (checks_accepted a.layout a.shape a.m a.matrix.now a.rhs.now a.work.now c.in_ok-check_solver.ensures).sizes in
    record { order = sizes.order; block = sizes.block_low; before = omega arith; inside = λ h. absurd (omega arith); values = sizes.matrix }

pub solve_all-outcome-requires-clause-rhs_len : goal.solve_all-outcome-requires-clause-rhs_len
solve_all-outcome-requires-clause-rhs_len c =
    let a = c.args in
    (checks_accepted a.layout a.shape a.m a.matrix.now a.rhs.now a.work.now c.in_ok-check_solver.ensures).rhs_length

pub solve_all-outcome-requires-clause-work_len : goal.solve_all-outcome-requires-clause-work_len
solve_all-outcome-requires-clause-work_len c =
    let a = c.args in
    part_length a.layout a.shape a.m a.matrix.now a.rhs.now a.work.now c.in_ok-check_solver.ensures

pub returns-in_err-outcome : goal.returns-in_err-outcome
unfolding of_bits
returns-in_err-outcome c =
    let a = c.args in
    let size : length c.solve_all-outcome.new.work ≡ a.shape.order =
    c.solve_all-outcome.auto.work ∙ part_length a.layout a.shape a.m a.matrix.now a.rhs.now a.work.now c.in_ok-check_solver.ensures in
    rw (passed_on c.from_residual-in_err-outcome.result _ c.from_residual-in_err-outcome.ensures.1, c.fill.ensures.after (λ y e. e), size)
    (all_done a.layout a.shape a.m a.matrix.now a.rhs.now a.work.now c.in_ok-check_solver.ensures (Err c.in_err-outcome.field-0.0)
    c.solve_all-outcome.new.rhs c.in_err-outcome.ensures)

pub returns : goal.returns
unfolding of_bits
returns c =
    let a = c.args in
    let size : length c.solve_all-outcome.new.work ≡ a.shape.order =
    c.solve_all-outcome.auto.work ∙ part_length a.layout a.shape a.m a.matrix.now a.rhs.now a.work.now c.in_ok-check_solver.ensures in
    rw (c.fill.ensures.after (λ y e. e), size)
    (all_done a.layout a.shape a.m a.matrix.now a.rhs.now a.work.now c.in_ok-check_solver.ensures (Ok c.in_ok-outcome.field-0)
    c.solve_all-outcome.new.rhs c.in_ok-outcome.ensures)
