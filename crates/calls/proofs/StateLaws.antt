-- Laws of the state that a call returns, and of the verdicts that decide it. Assumes nothing.
use Prim.Native.Nat.{ℕ, ◌≤◌, ◌<◌}
use native.Mathlib.Omega.{arith}
use mathlib.Core.Path.{◌≡◌, refl, sym, ap, ◌∙◌}
use mathlib.Core.Bool.{Bool, true, false, cond}
use mathlib.Core.List.{List, [], ◌∷◌, map}
use borrow.Author.Tests.{ne_eqb}
use lib.Dec.{T, eqb, eqb→eq}
use lib.Ieee.Bits.{is_true}
use Rattle.shape.specs.declared.Shape.{Shape}
use Rattle.calls.specs.declared.Verdict.{Verdict}
use Rattle.calls.specs.declared.Layout.{Layout}
use Rattle.calls.specs.declared.Layout.TheVariants.{Packed, Blocked}
use Rattle.calls.specs.declared.Call.{Call}
use Rattle.calls.specs.declared.Call.TheVariants.{Rearranger, Factor, Solver, Variance, Converter, Strike}
use Rattle.calls.specs.declared.states.State.{State}
use Rattle.calls.specs.declared.states.State.TheVariants.{Raw, Factored, Spent}
use Rattle.std.specs.Prelude.{Option, Some, None}
use Rattle.calls.specs.Triangles.{Triangle}
use Rattle.calls.specs.States.{state_number, look_up, next, given_by}
use Rattle.calls.specs.Refusals.{accepted, column_verdict}
use Rattle.calls.specs.Calls.{spends, state_after, result_of, judge_column, columns_verdict}
use Rattle.calls.proofs.Refusals.{Lowest, lowest_refused}
use Rattle.calls.proofs.ColumnRules.{rules_spend}

-- ---- a number past the last suits no call

number_le : (s : State) → state_number s ≤ 4
number_le (Raw Packed) = omega arith
number_le (Raw Blocked) = omega arith
number_le (Factored Packed) = omega arith
number_le (Factored Blocked) = omega arith
number_le Spent = omega arith

other : (s : State) (state : ℕ) → 4 < state → eqb state (state_number s) ≡ false
other s state h = ne_eqb state (state_number s) (λ e. omega (arith, number_le s))

pub past_last : (call : Call) (state : ℕ) → 4 < state → next call state ≡ None
unfolding look_up
past_last (Rearranger from to) state h = rw (other (Raw from) state h, other (Factored from) state h) refl
past_last (Factor layout) state h = rw (other (Raw layout) state h) refl
past_last (Solver layout) state h = rw (other (Factored layout) state h) refl
past_last (Variance layout) state h = rw (other (Factored layout) state h) refl
past_last Converter state h = rw (other (Raw Packed) state h, other (Factored Packed) state h) refl
past_last Strike state h = rw (other (Raw Packed) state h) refl

-- ---- by the verdict

module _ (call : Call) (state : ℕ) (v : Verdict) where
  pub state_given : T (accepted v) → state_after call state v ≡ given_by (next call state) state
  unfolding state_after
  state_given t = rw (is_true (accepted v) t) refl

  pub state_spent : accepted v ≡ false → spends v ≡ true → state_after call state v ≡ state_number Spent
  unfolding state_after
  state_spent e s = rw (e, s) refl

  pub state_kept : accepted v ≡ false → spends v ≡ false → state_after call state v ≡ state
  unfolding state_after
  state_kept e s = rw (e, s) refl

-- ---- a call that gives each state that it wants returns the shape that it was handed, but where the matrix is spent

pub given_same : (wanted : List State) (state : ℕ) → given_by (look_up (map (λ s. (s, s)) wanted) state) state ≡ state
unfolding look_up
given_same [] state = refl
given_same (s ∷ wanted) state = go (eqb state (state_number s)) refl (given_same wanted state)
  where
    rest : Option State
    rest = look_up (map (λ t. (t, t)) wanted) state

    go : (b : Bool) → eqb state (state_number s) ≡ b → given_by rest state ≡ state → given_by (cond b (Some s) rest) state ≡ state
    go true e ih = sym (eqb→eq state (state_number s) (rw e tt))
    go false e ih = ih

pub shape_same :
    (call : Call) (shape : Shape) (v : Verdict) → given_by (next call shape.state) shape.state ≡ shape.state → spends v ≡ false →
    (result_of call shape v).shape ≡ shape
shape_same call shape v given s = ap (λ state. record { order = shape.order; block = shape.block; state = state }) (go (accepted v) refl)
  where
    go : (b : Bool) → accepted v ≡ b → state_after call shape.state v ≡ shape.state
    go true e = state_given call shape.state v (rw e tt) ∙ given
    go false e = state_kept call shape.state v e s

-- a solver gives the factor that it wants
pub solver_keeps : (layout : Layout) (v : Verdict) → spends v ≡ false → state_after (Solver layout) (state_number (Factored layout)) v ≡ state_number (Factored layout)
unfolding look_up
solver_keeps layout v s = go (accepted v) refl
  where
    given : (l : Layout) → given_by (next (Solver l) (state_number (Factored l))) (state_number (Factored l)) ≡ state_number (Factored l)
    given Packed = refl
    given Blocked = refl

    go : (b : Bool) → accepted v ≡ b → state_after (Solver layout) (state_number (Factored layout)) v ≡ state_number (Factored layout)
    go true e = state_given (Solver layout) (state_number (Factored layout)) v (rw e tt) ∙ given layout
    go false e = state_kept (Solver layout) (state_number (Factored layout)) v e s

-- ---- a factor's columns

pub columns_spend : (n : ℕ) (a : Triangle) → accepted (columns_verdict n a) ≡ false → spends (columns_verdict n a) ≡ true
unfolding columns_verdict column_verdict
columns_spend n a e =
    let found : Lowest (judge_column n a) n (columns_verdict n a) = lowest_refused (judge_column n a) n (rw e tt) in
    ap spends found.there ∙ rules_spend found.at _ _ _ (ap accepted (sym found.there) ∙ e)

pub factor_state :
    (layout : Layout) (n : ℕ) (a : Triangle) → T (accepted (columns_verdict n a)) →
    state_after (Factor layout) (state_number (Raw layout)) (columns_verdict n a) ≡ state_number (Factored layout)
unfolding look_up
factor_state Packed n a t = state_given (Factor Packed) 0 (columns_verdict n a) t
factor_state Blocked n a t = state_given (Factor Blocked) 1 (columns_verdict n a) t
