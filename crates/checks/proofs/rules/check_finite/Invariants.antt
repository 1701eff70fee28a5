-- `checks::rules::check_finite` meets its contract. The loop's invariant: no position before p refuses. Assumes nothing.
use mathlib.Core.Path.{◌≡◌}
use Rattle.calls.specs.Refusals.{success, lowest_refusal}
use Rattle.calls.proofs.CheckLaws.{finite_at}
use Rattle.checks.specs.Values.{finite_code}
use Rattle.checks.proofs.rules.check_finite.Given as goal

abbrev pub invariant-loop-p : goal.invariant-loop-p
invariant-loop-p l = lowest_refusal (finite_at (finite_code l.values) l.memory) l.p ≡ success
