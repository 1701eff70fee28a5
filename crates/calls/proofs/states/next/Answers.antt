-- `calls::states::next` meets its contract: two rows are looked up as one after the other. Assumes nothing.
use mathlib.Core.Path.{◌≡◌, refl}
use mathlib.Core.Bool.{Bool, true, false, cond}
use Rattle.std.specs.Prelude.{ℕ, Some, None, eqb, [], ◌∷◌}
use Rattle.std.specs.Option.{option_or}
use Rattle.calls.specs.declared.states.State.{State}
use Rattle.calls.specs.States.{state_number, look_up}
use Rattle.calls.proofs.states.next.Goals as goal

two_rows : (p q : State × State) (state : ℕ) → option_or (look_up (p ∷ []) state) (look_up (q ∷ []) state) ≡ look_up (p ∷ q ∷ []) state
unfolding look_up
two_rows p q state = go (eqb state (state_number p.0))
  where
    go : (b : Bool) → option_or (cond b (Some p.1) None) (look_up (q ∷ []) state) ≡ cond b (Some p.1) (look_up (q ∷ []) state)
    go true = refl
    go false = refl

pub returns-in-Rearranger : goal.returns-in-Rearranger
returns-in-Rearranger c = rw (c.in-Rearranger.is, c.or.ensures, c.row-raw.ensures, c.row.ensures) (two_rows _ _ c.args.state)

pub returns-in-Converter : goal.returns-in-Converter
returns-in-Converter c = rw (c.in-Converter.is, c.or-in-Converter.ensures, c.row-raw-in-Converter.ensures, c.row-in-Converter.ensures) (two_rows _ _ c.args.state)
