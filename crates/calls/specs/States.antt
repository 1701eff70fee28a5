-- Document 02, (b): what a matrix memory holds, as its shape says, and what each call wants and gives.
use Rattle.std.specs.Prelude.{ℕ, Bool, true, false, cond, List, [], ◌∷◌, Option, Some, None, eqb}
use Rattle.calls.specs.declared.Layout.TheVariants.{Packed, Blocked}
use Rattle.calls.specs.declared.Call.{Call}
use Rattle.calls.specs.declared.Call.TheVariants.{Rearranger, Factor, Solver, Variance, Converter, Strike}
use Rattle.calls.specs.declared.states.State.{State}
use Rattle.calls.specs.declared.states.State.TheVariants.{Raw, Factored, Spent}

-- the number of a state in a shape; any other number is that of no state
abbrev pub state_number : State → ℕ
state_number (Raw Packed) = 0
state_number (Raw Blocked) = 1
state_number (Factored Packed) = 2
state_number (Factored Blocked) = 3
state_number Spent = 4

-- The table: each state that a call wants, and the one that it gives for it where it succeeds.
abbrev pub transitions : Call → List (State × State)
transitions (Rearranger from to) = (Raw from, Raw to) ∷ (Factored from, Factored to) ∷ []
transitions (Factor layout) = (Raw layout, Factored layout) ∷ []
transitions (Solver layout) = (Factored layout, Factored layout) ∷ []
transitions (Variance layout) = (Factored layout, Factored layout) ∷ []
transitions Converter = (Raw Packed, Raw Packed) ∷ (Factored Packed, Factored Packed) ∷ []
transitions Strike = (Raw Packed, Raw Packed) ∷ []

-- looked up by the number of the wanted state; what has no row does not suit the call
unfoldable pub look_up : List (State × State) → ℕ → Option State
look_up [] state = None
look_up (row ∷ rows) state = cond (eqb state (state_number row.0)) (Some row.1) (look_up rows state)

abbrev pub next : Call → ℕ → Option State
next call state = look_up (transitions call) state

abbrev pub suits : Option State → Bool
suits (Some given) = true
suits None = false

-- the number of the state given; unchanged where none is
abbrev pub given_by : Option State → ℕ → ℕ
given_by (Some given) state = state_number given
given_by None state = state
