-- `solve::rhs::Factor::solve_all` meets its contract. The invariant of its loop: the first q right-hand sides pass and hold their solutions, the others are
-- as they were. Assumes nothing.
use Prim.Native.Nat.{◌+◌, ◌-◌, ◌*◌}
use native.Mathlib.Omega.{arith}
use mathlib.Core.Path.{◌≡◌, refl, ◌∙◌}
use Rattle.calls.specs.Refusals.{lowest_refusal}
use Rattle.calls.proofs.OutcomeLaws.{passed_on}
use Rattle.solve.specs.Parts.{trailing_of}
use Rattle.solve.proofs.RightSides.{none_solved, turn_refused, turn_solved, all_solved}
use Rattle.solve.proofs.rhs.Factor.solve_all.Goals as goal

pub loop-q-init : goal.loop-q-init
unfolding lowest_refusal
loop-q-init c = (c.requires.work_len, none_solved c.args.self.now.shape.order (trailing_of c.args.self.now) c.args.rhs.now, refl)

pub loop-q-preserved : goal.loop-q-preserved
loop-q-preserved c =
    let a = c.args in
    let n = a.self.now.shape.order in
    let turn =
    turn_solved n a.m (trailing_of a.self.now) a.rhs.now c.loop-q.q (c.loop-q.q * n + n - c.loop-q.q * n) c.loop-q.rhs c.solve_one.new.rhs
    c.solve_one.result (omega arith) c.loop-q.invariant.1 c.loop-q.invariant.2 c.solve_one.ensures c.in_ok-solve_one.field-0 c.in_ok-solve_one.was in
    (c.solve_one.auto.work ∙ c.loop-q.invariant.0, turn.0, turn.1)

pub returns-in_err-solve_one : goal.returns-in_err-solve_one
returns-in_err-solve_one c =
    let a = c.args in
    let n = a.self.now.shape.order in
    turn_refused n a.m (trailing_of a.self.now) a.rhs.now c.loop-q.q (c.loop-q.q * n + n - c.loop-q.q * n) c.loop-q.rhs c.solve_one.new.rhs
    c.solve_one.result (omega arith) c.loop-q.invariant.1 c.loop-q.invariant.2 c.solve_one.ensures c.in_err-solve_one.field-0.0 c.in_err-solve_one.was
    c.loop-q-test.true c.from_residual.result (passed_on c.from_residual.result c.in_err-solve_one.field-0.0 c.from_residual.ensures.1)

pub returns : goal.returns
returns c =
    let f = c.args.self.now in
    let end : c.loop-q.q ≡ c.args.m = omega arith in
    all_solved f.shape.order (trailing_of f) c.args.rhs.now c.args.m c.loop-q.rhs (rw end at c.loop-q.invariant.2) (rw end at c.loop-q.invariant.1)
