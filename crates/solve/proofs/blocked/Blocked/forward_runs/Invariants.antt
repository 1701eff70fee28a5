-- `solve::blocked::Blocked::forward_runs` meets its contract. The invariant of its loop: the substitution has come to c, a run's first. Assumes nothing.
use Prim.Native.Nat.{◌-◌, ◌≤◌}
use mathlib.Core.Path.{◌≡◌}
use Rattle.shape.specs.Places.{block_of}
use Rattle.solve.specs.Parts.{blocked_factor}
use Rattle.solve.proofs.Substitution.{ForwardTo}
use Rattle.solve.proofs.blocked.Blocked.forward_runs.Given as goal

abbrev pub invariant-loop-c : goal.invariant-loop-c
invariant-loop-c l =
    (block_of l.step l.c ≡ l.c) × (l.c ≤ l.self.shape.order) × ForwardTo l.self.shape.order (blocked_factor l.self) l.initial.work l.c l.work

abbrev pub decreases-loop-c : goal.decreases-loop-c
decreases-loop-c l = l.self.shape.order - l.c
