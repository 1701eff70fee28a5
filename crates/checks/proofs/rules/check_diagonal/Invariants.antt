-- `checks::rules::check_diagonal` meets its contract. The loop's invariant: no column from k on and before j refuses. The measure is the number of columns left.
-- Each place read is below the triangle's length, as both layouts are bijections. Assumes nothing.
use Prim.Native.Nat.{ℕ, ◌+◌, ◌-◌, ◌≤◌}
use mathlib.Core.Path.{◌≡◌}
use mathlib.Core.List.{List}
use lib.Ieee.{Float}
use Rattle.calls.specs.declared.Verdict.{Verdict}
use Rattle.calls.specs.Triangles.{place_of}
use Rattle.calls.specs.Refusals.{success, lowest_refusal}
use Rattle.calls.proofs.CheckLaws.{positive_at}
use Rattle.checks.proofs.rules.check_diagonal.Given as goal

abbrev pub from : (ℕ → ℕ → ℕ) → List Float → ℕ → ℕ → Verdict
from place matrix k c = positive_at place matrix (k + c)

abbrev pub invariant-loop-j : goal.invariant-loop-j
invariant-loop-j l =
    (l.k ≤ l.j) × (l.j ≤ l.shape.order) × (lowest_refusal (from (place_of l.layout l.shape.order l.shape.block) l.matrix l.k) (l.j - l.k) ≡ success)
