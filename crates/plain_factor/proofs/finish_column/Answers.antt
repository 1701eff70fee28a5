-- `plain_factor::finish_column` meets its contract: its verdict is that of the column's rules, and the matrix changes where it is accepted. Assumes
-- nothing.
use Prim.Native.Nat.{ℕ, ◌+◌}
use native.Mathlib.Omega.{arith}
use mathlib.Core.Path.{◌≡◌, refl, sym, ap, ◌∙◌}
use Rattle.shape.specs.Places.{packed_place}
use Rattle.calls.specs.Outcomes.{judgement_of}
use Rattle.calls.proofs.OutcomeLaws.{not_accepted, passed_on}
use Rattle.plain_factor.proofs.Rows.{row_place_lem}
use Rattle.plain_factor.proofs.Verdicts.{pivot_refused, pivot_not_accepted, column_judged}
use Rattle.plain_factor.proofs.finish_column.Goals as goal
use Rattle.plain_factor.proofs.finish_column.Goals.{in-Root, in-Refused}

-- the diagonal value lies in the matrix
place : (n j start : ℕ) → start ≡ packed_place n 0 j → start + j ≡ packed_place n j j
place n j start e = omega (arith, row_place_lem n j j)

pub returns-in_err-exact-clause-judged : goal.returns-in_err-exact-clause-judged
returns-in_err-exact-clause-judged c =
    let a = c.args in
    let passed = passed_on c.from_residual.result c.in_err-exact.field-0.0 c.from_residual.ensures.1 in
    let same = ap judgement_of (passed ∙ sym c.in_err-exact.was) in
    let judged = rw (place a.n a.j c.row_start.result c.row_start.ensures.place) at (same ∙ c.judge_column.ensures) in
    elim c.match-pivot.branch [
      | in-Root w ↦
          column_judged a.n a.j a.matrix.now a.work.now (omega arith) (omega arith) c.requires.reduced c.match-pivot.pivot
          (w.pivot-is ∙ sym w.in-Root.is ∙ c.judge-pivot.ensures) w.in-Root.diagonal _ w.pivot-is c.match-pivot.work c.match-pivot.finite (omega arith)
          (rw (w.work-is, w.finite-is) w.divide_rows-finite.ensures) judged (rw (passed, not_accepted c.in_err-exact.field-0.0) refl)
      | in-Refused w ↦
          pivot_refused a.n a.j a.matrix.now a.work.now (omega arith) (omega arith) c.requires.reduced c.match-pivot.pivot (w.pivot-is ∙ c.judge-pivot.ensures)
          (w.pivot-is ∙ w.in-Refused.is) (rw w.finite-is at judged)
    ]

pub returns-clause-judged : goal.returns-clause-judged
returns-clause-judged c =
    let a = c.args in
    let judged = rw (place a.n a.j c.row_start.result c.row_start.ensures.place) at (ap judgement_of (sym c.in_ok-exact.was) ∙ c.judge_column.ensures) in
    elim c.match-pivot.branch [
      | in-Root w ↦
          column_judged a.n a.j a.matrix.now a.work.now (omega arith) (omega arith) c.requires.reduced c.match-pivot.pivot
          (w.pivot-is ∙ sym w.in-Root.is ∙ c.judge-pivot.ensures) w.in-Root.diagonal _ w.pivot-is c.match-pivot.work c.match-pivot.finite (omega arith)
          (rw (w.work-is, w.finite-is) w.divide_rows-finite.ensures) judged c.store_column.ensures
      | in-Refused w ↦
          absurd
          (pivot_not_accepted a.n a.j a.matrix.now a.work.now (omega arith) (omega arith) c.requires.reduced c.match-pivot.pivot
          (w.pivot-is ∙ c.judge-pivot.ensures) c.match-pivot.finite (w.pivot-is ∙ w.in-Refused.is) judged)
    ]
