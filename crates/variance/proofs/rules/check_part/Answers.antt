-- `variance::rules::check_part` meets its contract: the part as it is lent is judged, and a place in it is one in the matrix. Assumes nothing.
use Prim.Native.Nat.{ℕ, ◌+◌, ◌-◌}
use native.Mathlib.Omega.{arith}
use mathlib.Core.Path.{◌≡◌, sym, ap, ◌∙◌}
use mathlib.Core.Bool.{false}
use mathlib.Core.List.{List}
use lib.ListN.{take, drop}
use lib.Ieee.{Float}
use Rattle.binary64.specs.Kinds.{zero64}
use Rattle.calls.specs.declared.Verdict.{Verdict}
use Rattle.calls.specs.declared.outcomes.Refusal.{Refusal}
use Rattle.calls.specs.Outcomes.{verdict_of_refusal}
use Rattle.calls.specs.Refusals.{accepted, refusal, finite_rule}
use Rattle.calls.proofs.OutcomeLaws.{not_accepted}
use Rattle.variance.proofs.ColumnParts.{part_accepted, refused_inside, part_refused}
use Rattle.variance.proofs.rules.check_part.Goals as goal

pub returns-in-Ok : goal.returns-in-Ok
returns-in-Ok c =
    let a = c.args in
    sym (part_accepted a.matrix.now a.from a.to c.requires.1 (rw (ap accepted (sym c.in-Ok.ensures)) tt))

-- a refused part, and its place
refused :
    (from to : ℕ) (matrix : List Float) (refusal : Refusal) (verdict : Verdict) → verdict ≡ verdict_of_refusal refusal →
    verdict_of_refusal refusal ≡ finite_rule 7 (take (to - from) (drop from matrix)) →
    (accepted (finite_rule 7 (take (to - from) (drop from matrix))) ≡ false) × (verdict.place ≡ (finite_rule 7 (take (to - from) (drop from matrix))).place)
refused from to matrix refusal verdict is same =
    (ap accepted (sym same) ∙ not_accepted refusal, ap (λ (v : Verdict). v.place) (is ∙ same))

pub overflow_add-result : goal.overflow_add-result
overflow_add-result c =
    let a = c.args in
    let no = refused a.from a.to a.matrix.now c.in-Err.refusal c.from.result c.from.ensures c.in-Err.ensures in
    omega (arith, no.1, refused_inside a.matrix.now a.from a.to c.requires.1 no.0)

pub returns-in-Err : goal.returns-in-Err
returns-in-Err c =
    let a = c.args in
    let no = refused a.from a.to a.matrix.now c.in-Err.refusal c.from.result c.from.ensures c.in-Err.ensures in
    ap (λ q. refusal 7 (a.from + q) zero64) no.1 ∙ part_refused a.matrix.now a.from a.to c.requires.1 no.0
