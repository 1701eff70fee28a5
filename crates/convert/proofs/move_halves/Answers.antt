-- `convert::move_halves` meets its contract: the two halves are all columns. Assumes nothing.
use mathlib.Core.Path.{◌≡◌}
use native.Mathlib.Omega.{arith}
use Rattle.kernels.proofs.Transfers.{join_columns}
use Rattle.convert.proofs.Halves.{by_columns_0, by_rows_0, by_rows_1, by_columns_1}
use Rattle.convert.proofs.Results.{moved_all}
use Rattle.convert.proofs.move_halves.Goals as goal

pub copy_columns-requires-clause-by_columns : goal.copy_columns-requires-clause-by_columns
copy_columns-requires-clause-by_columns c =
    let normal : c.args.route.form ≡ 0 = omega arith in
    rw (normal, c.rfp_columns-own.ensures) (by_columns_0 c.args.route.shape.order)

pub invariant_of-half-clause-by_rows : goal.invariant_of-half-clause-by_rows
invariant_of-half-clause-by_rows c =
    let normal : c.args.route.form ≡ 0 = omega arith in
    rw (normal, c.rfp_columns-own.ensures) (by_rows_0 c.args.route.shape.order)

pub invariant_of-half-else-route-eq0-clause-by_rows : goal.invariant_of-half-else-route-eq0-clause-by_rows
invariant_of-half-else-route-eq0-clause-by_rows c =
    rw c.rfp_columns-own.ensures (by_rows_1 c.args.route.shape.order c.args.route.form (λ e. omega arith))

pub copy_columns-requires-else-route-eq0-clause-by_columns : goal.copy_columns-requires-else-route-eq0-clause-by_columns
copy_columns-requires-else-route-eq0-clause-by_columns c =
    rw c.rfp_columns-own.ensures (by_columns_1 c.args.route.shape.order c.args.route.form (λ e. omega arith))

pub returns-then-route-eq0 : goal.returns-then-route-eq0
returns-then-route-eq0 c =
    let route = c.args.route in
    moved_all route.conversion route.form route.shape.order c.args.source.now c.args.target.now _ c.requires
    (omega (arith, c.copy_columns.auto, c.transpose.auto)) (join_columns c.copy_columns.ensures c.transpose.ensures)

pub returns-else-route-eq0 : goal.returns-else-route-eq0
returns-else-route-eq0 c =
    let route = c.args.route in
    moved_all route.conversion route.form route.shape.order c.args.source.now c.args.target.now _ c.requires
    (omega (arith, c.transpose-else-route-eq0.auto, c.copy_columns-else-route-eq0.auto)) (join_columns c.transpose-else-route-eq0.ensures c.copy_columns-else-route-eq0.ensures)
