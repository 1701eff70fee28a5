-- `calls::state_after` meets its contract. Assumes nothing.
use mathlib.Core.Path.{refl, sym, ◌∙◌}
use Rattle.calls.specs.Calls.{state_after}
use Rattle.calls.proofs.state_after.Goals as goal

pub returns-in-Some : goal.returns-in-Some
unfolding state_after
returns-in-Some c = rw (sym c.accepted.ensures ∙ c.if-accepted.true, ← c.next.ensures, c.in-Some.is) c.from.ensures

pub returns-in-None : goal.returns-in-None
unfolding state_after
returns-in-None c = rw (sym c.accepted.ensures ∙ c.if-accepted.true, ← c.next.ensures, c.in-None.is) refl

pub returns-then-spends : goal.returns-then-spends
unfolding state_after
returns-then-spends c =
    rw (sym c.accepted.ensures ∙ c.if-accepted.false, sym c.spends.ensures ∙ c.if-spends.true) c.from-then-spends.ensures

pub returns : goal.returns
unfolding state_after
returns c = rw (sym c.accepted.ensures ∙ c.if-accepted.false, sym c.spends.ensures ∙ c.if-spends.false) refl
