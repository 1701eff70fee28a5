-- `plain_factor::factor_columns` meets its contract. Assumes nothing.
use native.Mathlib.Omega.{arith}
use mathlib.Core.Path.{◌≡◌, refl, ap}
use Rattle.calls.specs.Sequences.{every}
use Rattle.calls.specs.Refusals.{lowest_refusal}
use Rattle.calls.specs.Outcomes.{judgement_of}
use Rattle.calls.proofs.OutcomeLaws.{not_accepted, passed_on}
use Rattle.plain_factor.proofs.Verdicts.{rows_wait}
use Rattle.plain_factor.proofs.Prefixes.{prefix_none, joined_refused, joined_continued, judged_all}
use Rattle.plain_factor.proofs.factor_columns.Goals as goal

pub loop-j-init : goal.loop-j-init
unfolding lowest_refusal every
loop-j-init c = record { written = prefix_none c.args.n c.args.matrix.now; accepted = refl; exact = refl; waiting = tt }

pub returns-in_err-exact : goal.returns-in_err-exact
returns-in_err-exact c =
    let here = c.loop-j.invariant in
    let passed = passed_on c.from_residual.result c.in_err-exact.field-0.0 c.from_residual.ensures.1 in
    rw (ap judgement_of passed)
    (joined_refused c.args.n c.args.matrix.now c.requires.1 c.loop-j.j c.loop-j-test.true here.accepted c.loop-j.matrix _ _ here.written
    c.finish_column.ensures.judged _ _ here.exact (rw (c.in_err-exact.was) at c.joined.ensures) (not_accepted c.in_err-exact.field-0.0))

pub loop-j-preserved : goal.loop-j-preserved
loop-j-preserved c =
    let here = c.loop-j.invariant in
    let next =
    joined_continued c.args.n c.args.matrix.now c.requires.1 c.loop-j.j c.loop-j-test.true here.accepted c.loop-j.matrix _ _ here.written
    c.finish_column.ensures.judged _ _ here.exact (rw (c.in_ok-exact.was) at c.joined.ensures) refl
    in
    record {
      written = next.0;
      accepted = next.1;
      exact = next.2;
      waiting =
          rows_wait c.args.n c.loop-j.j c.loop-j.matrix _ _ c.loop-j-test.true c.finish_column.ensures.judged _ _ c.finish_column.ensures.same c.form-top.result
          c.form-top.ensures.next;
    }

pub returns : goal.returns
returns c =
    let e : c.loop-j.j ≡ c.args.n = omega arith in
    let here = c.loop-j.invariant in
    judged_all c.args.n c.args.matrix.now c.loop-j.matrix c.loop-j.exact (rw e at here.accepted) (rw e at here.exact) (rw e at here.written)
