-- `blocked_factor::check_and_factor` meets its contract. Assumes nothing.
use mathlib.Core.Path.{refl, sym}
use lib.Ieee.{of_bits}
use lib.Seq.{length-take-le}
use Rattle.calls.specs.declared.Layout.TheVariants.{Blocked}
use Rattle.calls.proofs.CheckLaws.{factor_refused_lem, factor_passed}
use Rattle.calls.proofs.OutcomeLaws.{not_accepted, passed_on}
use Rattle.blocked_factor.proofs.BlockOutcomes.{work_fits, lent, blocks_done}
use Rattle.blocked_factor.proofs.check_and_factor.Goals as goal

pub returns-in_err-check_factor : goal.returns-in_err-check_factor
returns-in_err-check_factor c =
    let a = c.args in
    rw (passed_on c.from_residual.result _ c.from_residual.ensures.1)
    (factor_refused_lem Blocked a.shape a.matrix.now a.work.now _ c.in_err-check_factor.ensures (not_accepted c.in_err-check_factor.field-0.0))

pub block_work-needed-requires : goal.block_work-needed-requires
block_work-needed-requires c =
    (factor_passed Blocked c.args.shape c.args.matrix.now c.args.work.now _ c.in_ok-check_factor.ensures refl).sizes.order

pub slice_bounds-factor_cleared-end : goal.slice_bounds-factor_cleared-end
slice_bounds-factor_cleared-end c = work_fits _ _ _ _ c.in_ok-check_factor.ensures refl _ c.block_work-needed.ensures

pub slice_bounds-factor_cleared-end-2 : goal.slice_bounds-factor_cleared-end-2
slice_bounds-factor_cleared-end-2 c =
    sym (length-take-le _ _ (work_fits _ _ _ _ c.in_ok-check_factor.ensures refl _ c.block_work-needed.ensures))

pub factor_cleared-requires : goal.factor_cleared-requires
factor_cleared-requires c = lent _ _ _ _ c.in_ok-check_factor.ensures refl _ c.block_work-needed.ensures

pub returns-in_err-exact : goal.returns-in_err-exact
returns-in_err-exact c =
    rw (passed_on c.from_residual-in_err-exact.result _ c.from_residual-in_err-exact.ensures.1, c.factor_cleared.ensures.work_after)
    (blocks_done _ _ _ _ c.in_ok-check_factor.ensures refl _ c.block_work-needed.ensures _ _ (rw (c.in_err-exact.was) at c.factor_cleared.ensures.factored))

pub returns : goal.returns
unfolding of_bits
returns c =
    rw (c.factor_cleared.ensures.work_after)
    (blocks_done _ _ _ _ c.in_ok-check_factor.ensures refl _ c.block_work-needed.ensures _ _ (rw (c.in_ok-exact.was) at c.factor_cleared.ensures.factored))
