-- `convert::route::Route::stride` meets its contract, by cases on the form. Assumes nothing.
use mathlib.Core.Path.{◌≡◌, sym, ◌∙◌}
use native.Mathlib.Omega.{arith}
use Rattle.convert.proofs.Halves.{stride_0, stride_1}
use Rattle.convert.proofs.route.Route.stride.Goals as goal

pub returns-then-self-eq0 : goal.returns-then-self-eq0
returns-then-self-eq0 c =
    let normal : c.args.self.form ≡ 0 = omega arith in
    rw normal (c.rfp_rows.ensures ∙ sym (stride_0 c.args.self.shape.order))

pub returns-else-self-eq0 : goal.returns-else-self-eq0
returns-else-self-eq0 c = c.rfp_columns.ensures ∙ sym (stride_1 c.args.self.form c.args.self.shape.order (λ e. omega arith))
