-- `convert::outcome` meets its contract: a refusal leaves the target, and what accepted checks say of the sizes is what the moves require. Assumes nothing.
use lib.Ieee.{of_bits}
use Rattle.calls.proofs.OutcomeLaws.{passed_on}
use Rattle.convert.proofs.Results.{accepted_sizes, refused_done, accepted_done}
use Rattle.convert.proofs.outcome.Goals as goal

pub returns-in_err-check_converter : goal.returns-in_err-check_converter
returns-in_err-check_converter c =
    let a = c.args in
    rw (passed_on c.from_residual.result _ c.from_residual.ensures.1)
    (refused_done a.conversion a.form a.shape a.source.now a.target.now _ c.in_err-check_converter.ensures)

pub invariant_of-route : goal.invariant_of-route
invariant_of-route c =
    let a = c.args in
    record { order = (accepted_sizes a.conversion a.form a.shape a.source.now a.target.now c.in_ok-check_converter.ensures).order }

pub move_halves-requires : goal.move_halves-requires
move_halves-requires c =
    let a = c.args in
    let known = accepted_sizes a.conversion a.form a.shape a.source.now a.target.now c.in_ok-check_converter.ensures in
    (known.source, known.target)

pub returns : goal.returns
unfolding of_bits
returns c =
    let a = c.args in
    accepted_done a.conversion a.form a.shape a.source.now a.target.now c.in_ok-check_converter.ensures c.move_halves.ensures
