-- `solve::rhs::Factor::solve_all` meets its contract. The invariant of its loop: the first q right-hand sides pass and hold their solutions, the others are
-- as they were. Assumes nothing.
use mathlib.Core.Path.{◌≡◌}
use lib.ListN.{length}
use Rattle.calls.specs.Refusals.{success, lowest_refusal}
use Rattle.calls.specs.Calls.{solutions}
use Rattle.solve.specs.Parts.{trailing_of}
use Rattle.solve.proofs.RightSides.{judge_rhs}
use Rattle.solve.proofs.rhs.Factor.solve_all.Given as goal

abbrev pub invariant-loop-q : goal.invariant-loop-q
invariant-loop-q l =
    (length l.work ≡ l.self.shape.order) × (l.rhs ≡ solutions l.self.shape.order (trailing_of l.self) l.q l.initial.rhs)
    × (lowest_refusal (judge_rhs l.self.shape.order (trailing_of l.self) l.initial.rhs) l.q ≡ success)
