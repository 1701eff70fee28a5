-- `blocked_factor::block_column::BlockColumn::judge` meets its contract. Assumes nothing.
use native.Mathlib.Omega.{arith}
use mathlib.Core.Path.{◌≡◌, refl, ap, ◌∙◌}
use mathlib.Core.Logic.{inl, inr}
use Rattle.calls.specs.declared.Verdict.{Verdict}
use Rattle.calls.specs.Outcomes.{verdict_of_refusal, judgement_of}
use Rattle.calls.proofs.OutcomeLaws.{not_accepted}
use Rattle.blocked_factor.proofs.BlockRows.{row_inside}
use Rattle.blocked_factor.proofs.BlockVerdicts.{judged_first, judged_pivot, judged_again, judged_below}
use Rattle.blocked_factor.proofs.block_column.BlockColumn.judge.Goals as goal

pub returns-in_default : goal.returns-in_default
returns-in_default c =
    λ n a order stage entered before e.
    let block = c.args.self in
    judged_first n a block.first block.width block.rows c.args.part.now order block.tall stage before block.width c.in_default.ensures.none
    (judgement_of c.args.first) e refl

pub returns-then-place-j : goal.returns-then-place-j
returns-then-place-j c =
    λ n a order stage entered before e.
    let block = c.args.self in
    let at : c.from-place.result.place ≡ (verdict_of_refusal c.in-Err.refusal).place = ap (λ (v : Verdict). v.place) c.from-place.ensures in
    judged_pivot n a block.first block.width block.rows c.args.part.now order block.tall stage before c.in-Some.s c.in-Some.ensures.some.1 _
    (rw c.in-Err.is at e) (not_accepted c.in-Err.refusal) (omega arith)

pub bounds-saved-place : goal.bounds-saved-place
bounds-saved-place c =
    let s = c.in-Some.s in
    let narrow = c.in-Some.ensures.some.0 in
    omega (arith, c.place.ensures, row_inside _ _ s _ s c.requires.room.1 (omega (arith, narrow)) (omega arith) narrow)

pub offset_bounds-saved-place : goal.offset_bounds-saved-place
offset_bounds-saved-place c =
    let s = c.in-Some.s in
    let narrow = c.in-Some.ensures.some.0 in
    omega (arith, c.place.ensures, row_inside _ _ s _ s c.requires.room.1 (omega (arith, narrow)) (omega arith) narrow)

pub returns-then-place-j-2 : goal.returns-then-place-j-2
returns-then-place-j-2 c =
    λ n a order stage entered before e.
    let block = c.args.self in
    let narrow = c.in-Some.ensures.some.0 in
    let at : c.from-place.result.place ≡ (verdict_of_refusal c.in-Err.refusal).place = ap (λ (v : Verdict). v.place) c.from-place.ensures in
    c.judge_column.ensures
    ∙ rw c.from-place.ensures
    (judged_again n a block.first block.width block.rows c.args.part.now order block.tall stage before c.in-Some.s c.in-Some.ensures.some.1 _
    (rw c.in-Err.is at e) narrow (not_accepted c.in-Err.refusal) (omega arith) _ (rw c.place.ensures (entered.diagonal c.in-Some.s narrow)) _)

pub returns-else-place-j-2 : goal.returns-else-place-j-2
returns-else-place-j-2 c =
    λ n a order stage entered before e.
    let block = c.args.self in
    let at : c.from-place.result.place ≡ (verdict_of_refusal c.in-Err.refusal).place = ap (λ (v : Verdict). v.place) c.from-place.ensures in
    judged_below n a block.first block.width block.rows c.args.part.now order block.tall stage before c.in-Some.s c.in-Some.ensures.some.1 _
    (rw c.in-Err.is at e) c.in-Some.ensures.some.0 (inr (not_accepted c.in-Err.refusal, omega arith))

pub returns-in_default-first : goal.returns-in_default-first
returns-in_default-first c =
    λ n a order stage entered before e.
    let block = c.args.self in
    judged_below n a block.first block.width block.rows c.args.part.now order block.tall stage before c.in-Some.s c.in-Some.ensures.some.1 _
    (rw c.in_default-first.is at e) c.in-Some.ensures.some.0 (inl refl)
