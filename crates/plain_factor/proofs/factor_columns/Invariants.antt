-- `plain_factor::factor_columns` meets its contract. The loop's invariant: the columns before j are written and accepted, and rows of column j may wait.
-- Assumes nothing.
use mathlib.Core.Path.{◌≡◌}
use Rattle.std.specs.Prelude.{IfSome}
use Rattle.calls.specs.Sequences.{every}
use Rattle.calls.specs.Refusals.{success, lowest_refusal}
use Rattle.plain_factor.specs.Steps.{WaitingFrom}
use Rattle.plain_factor.proofs.Prefixes.{prefix_of, rule_of, exact_of}
use Rattle.plain_factor.proofs.factor_columns.Given as goal

abbrev pub invariant-loop-j : goal.invariant-loop-j
invariant-loop-j l =
    record {
      written : l.matrix ≡ prefix_of l.n l.fn.matrix l.j;
      accepted : lowest_refusal (rule_of l.n l.fn.matrix) l.j ≡ success;
      exact : l.exact ≡ every (exact_of l.n l.fn.matrix) l.j;
      waiting : IfSome l.top (λ top. WaitingFrom l.n l.matrix l.j top l.work);
    }
