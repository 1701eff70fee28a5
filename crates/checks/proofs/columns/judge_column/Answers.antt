-- `checks::columns::judge_column` meets its contract, by cases on the pivot, on weakness and on the entries below. Assumes nothing.
use mathlib.Core.Path.{refl}
use Rattle.calls.specs.Refusals.{first_refusal, rule11, rule16, column_rules}
use Rattle.checks.proofs.columns.judge_column.Goals as goal

pub returns-in-Refused : goal.returns-in-Refused
unfolding column_rules first_refusal
returns-in-Refused c = rw (← c.requires, c.in-Refused.is) refl

pub returns-in-Root : goal.returns-in-Root
unfolding column_rules first_refusal rule16
returns-in-Root c = rw (← c.requires, c.in-Root.is, ← c.if-is_weak.ensures) refl

pub returns-in-Root-2 : goal.returns-in-Root-2
unfolding column_rules first_refusal rule11 rule16
returns-in-Root-2 c = rw (← c.requires, c.in-Root.is, ← c.if-is_weak.ensures, c.if-not-finite.true) refl

pub returns-in-Root-3 : goal.returns-in-Root-3
unfolding column_rules first_refusal rule11 rule16
returns-in-Root-3 c = rw (← c.requires, c.in-Root-3.is, ← c.if-is_weak.ensures, c.if-not-finite.false) refl
