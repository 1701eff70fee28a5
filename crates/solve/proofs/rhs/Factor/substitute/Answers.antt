-- `solve::rhs::Factor::substitute` meets its contract. Assumes nothing.
use Prim.Native.Nat.{◌-◌}
use Rattle.solve.specs.Parts.{trailing_of}
use Rattle.solve.proofs.RightSides.{refused_backward, substituted}
use Rattle.solve.proofs.rhs.Factor.substitute.Goals as goal

pub returns-then-not-all_finite-2 : goal.returns-then-not-all_finite-2
returns-then-not-all_finite-2 c =
    let f = c.args.self.now in
    refused_backward (f.shape.order - f.first) (trailing_of f) c.args.q c.args.work.now c.forward.new.work c.backward.new.work c.all_finite.result
    c.all_finite-2.result c.forward.ensures c.all_finite.ensures c.if-not-all_finite.false c.backward.ensures c.all_finite-2.ensures
    c.if-not-all_finite-2.true

pub returns : goal.returns
returns c =
    let f = c.args.self.now in
    substituted (f.shape.order - f.first) (trailing_of f) c.args.q c.args.work.now c.forward.new.work c.backward.new.work c.all_finite.result
    c.all_finite-2.result c.forward.ensures c.all_finite.ensures c.if-not-all_finite.false c.backward.ensures c.all_finite-2.ensures
    c.if-not-all_finite-2.false
