-- `convert::rules::check_converter` meets its contract: the tests that led to each return decide the rules. Assumes nothing.
use mathlib.Core.Path.{◌≡◌, refl, sym, ◌∙◌}
use mathlib.Core.Bool.{Bool, true, false, true≢false, not}
use Prim.Native.Nat.{ℕ}
use borrow.Author.Tests.{lt-ltb, le-ltb, eq-eqb, ne_eqb}
use lib.Dec.{ltb, leb, eqb}
use Rattle.std.specs.Prelude.{Option, Some, None}
use Rattle.std.specs.Option.{is_some}
use Rattle.shape.specs.Bounds.{max_order}
use Rattle.shape.specs.Places.{triangle}
use Rattle.calls.specs.declared.Call.TheVariants.{Converter}
use Rattle.calls.specs.declared.states.State.{State}
use Rattle.calls.specs.States.{next, suits}
use Rattle.calls.specs.Refusals.{first_refusal, rule1, rule2, rule17, rule15, rule3}
use Rattle.calls.specs.Conversions.{converter_checks}
use Rattle.calls.proofs.Judging.{not_leb}
use Rattle.convert.proofs.rules.check_converter.Goals as goal
use Rattle.convert.proofs.rules.check_converter.Goals.{After-is_none, then-source-triangle-via-then-source-triangle, then-source-triangle-via-else-source-triangle+then-target-triangle}

-- ---- what each test decides

past_order : (n : ℕ) {in_bounds : Bool} → in_bounds ≡ leb n max_order → in_bounds ≡ true → ltb max_order n ≡ false
past_order n e h = cc (not_leb n max_order)

unsuited : (o : Option State) (b : Bool) → is_some o ≡ not b → not (suits o) ≡ b
unsuited (Some given) true e = absurd (true≢false e)
unsuited (Some given) false e = refl
unsuited None true e = refl
unsuited None false e = absurd (true≢false (sym e))

state_test : (c : After-is_none) → not (suits (next Converter c.args.shape.state)) ≡ c.is_none.result
state_test c = rw (← c.next.ensures) (unsuited c.next.result c.is_none.result c.is_none.ensures)

length_test : {n m : ℕ} {r : ℕ} → r ≡ m → n ≡ r → eqb n m ≡ true
length_test {n = n} {m = m} e h = eq-eqb n m (h ∙ e)

-- ---- the goals

pub returns-then-not-order_in_bounds : goal.returns-then-not-order_in_bounds
unfolding converter_checks first_refusal rule1
returns-then-not-order_in_bounds c =
    let args = c.args in
    let e1 : ltb max_order args.shape.order ≡ true = cc (not_leb args.shape.order max_order) in
    rw e1 refl

pub returns-then-form-gt1 : goal.returns-then-form-gt1
unfolding converter_checks first_refusal rule1 rule2 rule17
returns-then-form-gt1 c =
    let args = c.args in
    rw (past_order args.shape.order c.order_in_bounds.ensures c.if-not-order_in_bounds.false, lt-ltb 1 args.form c.if-form-gt1.true) refl

pub returns-then-is_none : goal.returns-then-is_none
unfolding converter_checks first_refusal rule1 rule2 rule17 rule15
returns-then-is_none c =
    let args = c.args in
    rw (
      past_order args.shape.order c.order_in_bounds.ensures c.if-not-order_in_bounds.false,
      le-ltb 1 args.form c.if-form-gt1.false,
      state_test (goal.at.returns-then-is_none c).After-is_none ∙ c.if-is_none.true,
    ) refl

pub returns-then-source-triangle : goal.returns-then-source-triangle
unfolding converter_checks first_refusal rule1 rule2 rule17 rule15 rule3
returns-then-source-triangle c =
    let args = c.args in
    let e1 = past_order args.shape.order c.order_in_bounds.ensures c.if-not-order_in_bounds.false in
    let e17 = le-ltb 1 args.form c.if-form-gt1.false in
    let e15 = state_test (goal.at.returns-then-source-triangle c).After-is_none ∙ c.if-is_none.false in
    elim c.then-source-triangle.branch [
      | then-source-triangle-via-then-source-triangle w ↦
          let e3 : eqb args.source (triangle args.shape.order) ≡ false = rw (← c.triangle.ensures) (ne_eqb args.source c.triangle.result w.if-source-triangle.true) in
          rw (e1, e17, e15, e3) refl
      | then-source-triangle-via-else-source-triangle+then-target-triangle w ↦
          let r = w.triangle-else-source-triangle in
          let e3 : eqb args.target (triangle args.shape.order) ≡ false = rw (← r.ensures) (ne_eqb args.target r.result w.if-target-triangle.true) in
          rw (e1, e17, e15, length_test c.triangle.ensures w.if-source-triangle.false, e3) refl
    ]

pub returns : goal.returns
unfolding converter_checks first_refusal rule1 rule2 rule17 rule15 rule3
returns c =
    let args = c.args in
    rw (
      past_order args.shape.order c.order_in_bounds.ensures c.if-not-order_in_bounds.false,
      le-ltb 1 args.form c.if-form-gt1.false,
      state_test (goal.at.returns c).After-is_none ∙ c.if-is_none.false,
      length_test c.triangle.ensures c.if-source-triangle.false,
      length_test c.triangle-else-source-triangle.ensures c.if-target-triangle.false,
    ) refl
