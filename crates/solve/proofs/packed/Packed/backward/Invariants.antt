-- `solve::packed::Packed::backward` meets its contract. The invariant of its loop: the substitution has come to column 8 q. Assumes nothing.
use Prim.Native.Nat.{◌*◌}
use Rattle.solve.specs.Parts.{packed_factor}
use Rattle.solve.proofs.Substitution.{BackwardTo}
use Rattle.solve.proofs.packed.Packed.backward.Given as goal

abbrev pub invariant-loop-q : goal.invariant-loop-q
invariant-loop-q l = BackwardTo l.self.order (packed_factor l.self) l.fn.work (8 * l.q) l.work
