-- `calls::states::row` meets its contract. Assumes nothing.
use mathlib.Core.Path.{refl}
use borrow.Author.Tests.{eq-eqb, ne_eqb}
use Rattle.calls.specs.States.{look_up}
use Rattle.calls.proofs.states.row.Goals as goal

pub returns-then-state-from : goal.returns-then-state-from
unfolding look_up
returns-then-state-from c = rw (← c.from.ensures, eq-eqb c.args.state c.from.result c.if-state-from.true) refl

pub returns-else-state-from : goal.returns-else-state-from
unfolding look_up
returns-else-state-from c = rw (← c.from.ensures, ne_eqb c.args.state c.from.result c.if-state-from.false) refl
