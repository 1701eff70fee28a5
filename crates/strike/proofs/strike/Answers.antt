-- `strike::strike` meets its contract, by what the call returns and leaves where its checks refuse and where they pass. Assumes nothing.
use native.Mathlib.Omega.{arith}
use lib.Ieee.{of_bits}
use Rattle.strike.proofs.Strikes.{rule20_passes, length_kept}
use Rattle.strike.proofs.Results.{accepted_sizes, refused_done, accepted_done}
use Rattle.strike.proofs.strike.Goals as goal

pub returns-in-Err : goal.returns-in-Err
returns-in-Err c =
    let a = c.args in
    rw c.result.ensures (refused_done a.shape a.list.now a.matrix.now c.in-Err.refusal c.in-Err.ensures)

-- ---- past the checks

pub strike_list-requires : goal.strike_list-requires
strike_list-requires c =
    let a = c.args in
    let known = accepted_sizes a.shape a.list.now a.matrix.now c.in_default.ensures in
    record { order_le_max_order = (known.order, known.matrix); list_value = rule20_passes a.shape.order a.list.now known.listed }

pub overflow_sub-smaller : goal.overflow_sub-smaller
overflow_sub-smaller c =
    let a = c.args in
    let known = accepted_sizes a.shape a.list.now a.matrix.now c.in_default.ensures in
    omega (arith, length_kept a.shape.order a.list.now known.listed)

pub returns : goal.returns
unfolding of_bits
returns c =
    let a = c.args in
    rw c.result-2.ensures (accepted_done a.shape a.list.now a.matrix.now c.in_default.ensures c.strike_list.ensures)
