-- `solve::blocked::Blocked::forward_blocks` meets its contract. The invariant of its loop: the substitution has come to c, a block column's first.
-- Assumes nothing.
use Prim.Native.Nat.{◌-◌, ◌≤◌}
use mathlib.Core.Path.{◌≡◌}
use Rattle.shape.specs.Places.{block_of}
use Rattle.solve.specs.Parts.{blocked_factor}
use Rattle.solve.proofs.Substitution.{ForwardTo}
use Rattle.solve.proofs.blocked.Blocked.forward_blocks.Given as goal

abbrev pub invariant-loop-c : goal.invariant-loop-c
invariant-loop-c l = (block_of l.b l.c ≡ l.c) × (l.c ≤ l.rows) × ForwardTo l.rows (blocked_factor l.self) l.initial.work l.c l.work

abbrev pub decreases-loop-c : goal.decreases-loop-c
decreases-loop-c l = l.rows - l.c
