-- `solve::packed::Packed::backward_columns8` meets its contract: the rows below the eight, if any, and then their triangle. Assumes nothing.
use Prim.Native.Nat.{◌-◌}
use native.Mathlib.Omega.{arith}
use mathlib.Core.Path.{◌≡◌}
use Rattle.solve.specs.Parts.{packed_entries}
use Rattle.solve.specs.Substitution.{ProductsSubtracted}
use Rattle.solve.proofs.Rows.{columns_none}
use Rattle.solve.proofs.Substitution.{backward_done}
use Rattle.solve.proofs.packed.Packed.backward_columns8.Goals as goal
use Rattle.solve.proofs.packed.Packed.backward_columns8.Goals.{then-self-gt8, else-self-gt8}

pub returns : goal.returns
returns c =
    let f = c.args.self.now in
    let v = c.if-self-gt8.work in
    let under : ProductsSubtracted (packed_entries f) f.order 8 c.args.work.now v =
    elim c.if-self-gt8.branch [
      | then-self-gt8 w ↦ rw w.work-is w.subtract_under8.ensures
      | else-self-gt8 w ↦
          let none : f.order - 8 ≡ 0 = omega (arith, w.if-self-gt8.false) in
          rw (w.work-is, none) (columns_none (packed_entries f) f.order 0 8 c.args.work.now)
    ] in
    backward_done _ f.order 8 c.args.work.now v _ (omega arith) under c.backward_triangle.ensures
