-- `plain_factor::factor_checked` meets its contract. Assumes nothing.
use mathlib.Core.Path.{refl, sym}
use lib.Ieee.{of_bits}
use lib.Seq.{length-take-le}
use Rattle.calls.specs.declared.Layout.TheVariants.{Packed}
use Rattle.calls.proofs.CheckLaws.{factor_refused_lem, factor_passed}
use Rattle.calls.proofs.OutcomeLaws.{not_accepted, passed_on}
use Rattle.plain_factor.proofs.Outcomes.{columns_done}
use Rattle.plain_factor.proofs.factor_checked.Goals as goal

pub returns-in_err-check_factor : goal.returns-in_err-check_factor
returns-in_err-check_factor c =
    let a = c.args in
    rw (passed_on c.from_residual.result _ c.from_residual.ensures.1)
    (factor_refused_lem Packed a.shape a.matrix.now a.work.now _ c.in_err-check_factor.ensures (not_accepted c.in_err-check_factor.field-0.0))

pub slice_bounds-factor_cleared-end : goal.slice_bounds-factor_cleared-end
slice_bounds-factor_cleared-end c = (factor_passed Packed c.args.shape c.args.matrix.now c.args.work.now _ c.in_ok-check_factor.ensures refl).sizes.work

pub slice_bounds-factor_cleared-end-2 : goal.slice_bounds-factor_cleared-end-2
slice_bounds-factor_cleared-end-2 c =
    let passed = factor_passed Packed c.args.shape c.args.matrix.now c.args.work.now _ c.in_ok-check_factor.ensures refl in
    sym (length-take-le _ _ passed.sizes.work)

pub factor_cleared-requires : goal.factor_cleared-requires
factor_cleared-requires c =
    let sizes = (factor_passed Packed c.args.shape c.args.matrix.now c.args.work.now _ c.in_ok-check_factor.ensures refl).sizes in
    (sizes.order, sizes.matrix, length-take-le _ _ sizes.work)

pub returns-in_err-exact : goal.returns-in_err-exact
returns-in_err-exact c =
    let a = c.args in
    rw (passed_on c.from_residual-in_err-exact.result _ c.from_residual-in_err-exact.ensures.1, c.factor_cleared.ensures.work_after)
    (columns_done a.shape a.matrix.now a.work.now _ _ _ c.in_ok-check_factor.ensures refl (rw (c.in_err-exact.was) at c.factor_cleared.ensures.factored))

pub returns : goal.returns
unfolding of_bits
returns c =
    let a = c.args in
    rw (c.factor_cleared.ensures.work_after)
    (columns_done a.shape a.matrix.now a.work.now _ _ _ c.in_ok-check_factor.ensures refl (rw (c.in_ok-exact.was) at c.factor_cleared.ensures.factored))
