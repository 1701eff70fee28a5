-- `solve::blocked::Blocked::backward_runs` meets its contract. The invariant of its loop: the substitution has come to run q's first, or to the end of
-- the rows. Assumes nothing.
use Prim.Native.Nat.{◌*◌, min}
use Rattle.solve.specs.Parts.{blocked_factor}
use Rattle.solve.proofs.Substitution.{BackwardTo}
use Rattle.solve.proofs.blocked.Blocked.backward_runs.Given as goal

abbrev pub invariant-loop-q : goal.invariant-loop-q
invariant-loop-q l =
    BackwardTo l.self.shape.order (blocked_factor l.self) l.initial.work (min (l.q * l.step) l.self.shape.order) l.work
