-- `solve::blocked::Blocked::backward_blocks` meets its contract. The invariant of its loop: the substitution has come to block column q's first, or to the
-- end of the rows. Assumes nothing.
use Prim.Native.Nat.{◌*◌, min}
use Rattle.solve.specs.Parts.{blocked_factor}
use Rattle.solve.proofs.Substitution.{BackwardTo}
use Rattle.solve.proofs.blocked.Blocked.backward_blocks.Given as goal

abbrev pub invariant-loop-q : goal.invariant-loop-q
invariant-loop-q l = BackwardTo l.rows (blocked_factor l.self) l.initial.work (min (l.q * l.b) l.rows) l.work
