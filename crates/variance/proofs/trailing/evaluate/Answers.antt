-- `variance::trailing::evaluate` meets its contract. Assumes nothing.
use Prim.Native.Nat.{ℕ, ◌-◌, ◌<◌}
use native.Mathlib.Omega.{arith}
use mathlib.Core.Path.{◌≡◌, ap, ◌∙◌, subst}
use mathlib.Core.List.{List}
use lib.ListN.{length, set, replicate}
use lib.Ieee.{Float, of_bits}
use Rattle.std.specs.Prelude.{Ok, Err}
use Rattle.binary64.specs.Kinds.{zero64, one64}
use Rattle.calls.specs.Variances.{unit_rhs}
use Rattle.calls.proofs.OutcomeLaws.{passed_on}
use Rattle.solve.specs.Parts.{trailing_of}
use Rattle.solve.specs.Solving.{Substituted}
use Rattle.variance.proofs.Outcomes.{unit_made, verdict_refused, verdict_found}
use Rattle.variance.proofs.trailing.evaluate.Goals as goal

-- the right-hand side that is made
made : (p : ℕ) (v w : List Float) → 0 < p → length w ≡ p → v ≡ replicate (length w) zero64 → set v 0 one64 ≡ unit_rhs p 0
made p v w some size zeros = ap (λ x. set x 0 one64) (zeros ∙ ap (λ n. replicate n zero64) size) ∙ unit_made p some

pub returns-in_err-substitute : goal.returns-in_err-substitute
unfolding of_bits
returns-in_err-substitute c =
    let f = c.args.factor.now in
    let p = f.shape.order - f.first in
    let unit = made p c.fill.new.self c.args.work.now (omega arith) c.requires.work_len (c.fill.ensures.after (λ y e. e)) in
    rw (passed_on c.from_residual.result _ c.from_residual.ensures.1)
    (verdict_refused p (trailing_of f) c.substitute.new.work c.in_err-substitute.field-0.0
    (subst (λ rhs. Substituted p (trailing_of f) 0 rhs (Err c.in_err-substitute.field-0.0) c.substitute.new.work) unit c.in_err-substitute.ensures))

pub returns : goal.returns
unfolding of_bits
returns c =
    let f = c.args.factor.now in
    let p = f.shape.order - f.first in
    let unit = made p c.fill.new.self c.args.work.now (omega arith) c.requires.work_len (c.fill.ensures.after (λ y e. e)) in
    verdict_found p (trailing_of f) c.substitute.new.work c.in_ok-substitute.field-0
    (subst (λ rhs. Substituted p (trailing_of f) 0 rhs (Ok c.in_ok-substitute.field-0) c.substitute.new.work) unit c.in_ok-substitute.ensures)
