-- The digits of what is left, and what stands from p on, are those of t.
use lib.ListN.{length}
use Rattle.acceptance.proofs.Systems.{FilledUp}
use Rattle.acceptance.proofs.fill_system.Given as goal

abbrev pub invariant-loop-p : goal.invariant-loop-p
invariant-loop-p l = FilledUp (length l.initial.matrix) l.t l.matrix l.left l.p
