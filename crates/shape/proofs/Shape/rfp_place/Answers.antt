-- `shape::Shape::rfp_place` meets its contract: the place is below triangle n, so it and the product in it fit. Assumes nothing.
use mathlib.Core.Path.{◌≡◌, sym}
use Prim.Native.Nat.{ℕ, ◌≤◌}
use native.Mathlib.Omega.{arith}
use Rattle.shape.specs.Bounds.{max_order}
use Rattle.shape.specs.Places.{rfp_place}
use Rattle.shape.specs.Layouts.{Entry}
use Rattle.shape.proofs.Bounds.{triangle_le}
use Rattle.shape.proofs.Rfp.{form_0, form_1, rfp_bijection}
use Rattle.shape.proofs.Shape.rfp_place.Goals as goal

place_le : (form n i j : ℕ) → n ≤ max_order → Entry n i j → rfp_place form n i j ≤ 8002000
place_le form n i j h e = omega (arith, (rfp_bijection form n).below i j e, triangle_le n h)

pub returns-then-form-eq0 : goal.returns-then-form-eq0
returns-then-form-eq0 c =
    let args = c.args in
    let normal : args.form ≡ 0 = omega arith in
    rw (c.rfp_rows.ensures, c.rfp_column-c.ensures, c.rfp_row-r.ensures, normal)
    (sym (form_0 args.self.order args.i args.j))

pub returns-else-form-eq0 : goal.returns-else-form-eq0
returns-else-form-eq0 c =
    let args = c.args in
    rw (c.rfp_columns.ensures, c.rfp_column-c.ensures, c.rfp_row-r.ensures)
    (sym (form_1 args.self.order args.i args.j args.form (λ e. omega arith)))

pub overflow_mul-result : goal.overflow_mul-result
overflow_mul-result c =
    let args = c.args in
    omega (arith, returns-then-form-eq0 c, place_le args.form args.self.order args.i args.j (omega arith) (omega arith))

pub overflow_add-result : goal.overflow_add-result
overflow_add-result c =
    let args = c.args in
    omega (arith, returns-then-form-eq0 c, place_le args.form args.self.order args.i args.j (omega arith) (omega arith))

pub overflow_mul-result-else-form-eq0 : goal.overflow_mul-result-else-form-eq0
overflow_mul-result-else-form-eq0 c =
    let args = c.args in
    omega (arith, returns-else-form-eq0 c, place_le args.form args.self.order args.i args.j (omega arith) (omega arith))

pub overflow_add-result-else-form-eq0 : goal.overflow_add-result-else-form-eq0
overflow_add-result-else-form-eq0 c =
    let args = c.args in
    omega (arith, returns-else-form-eq0 c, place_le args.form args.self.order args.i args.j (omega arith) (omega arith))
