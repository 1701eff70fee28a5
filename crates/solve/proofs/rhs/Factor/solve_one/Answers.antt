-- `solve::rhs::Factor::solve_one` meets its contract. Assumes nothing.
use Prim.Native.Nat.{◌-◌}
use native.Mathlib.Omega.{arith}
use Rattle.solve.specs.Parts.{trailing_of}
use Rattle.solve.proofs.RightSides.{kept_solved}
use Rattle.solve.proofs.rhs.Factor.solve_one.Goals as goal

pub returns : goal.returns
returns c =
    let f = c.args.self.now in
    rw c.copy-2.ensures (kept_solved f.shape.order (trailing_of f) c.args.q c.args.rhs.now (f.shape.order - f.first)
    c.copy.new.to c.substitute.new.work c.in_ok-substitute.field-0 (omega arith) c.copy.ensures c.in_ok-substitute.ensures)
