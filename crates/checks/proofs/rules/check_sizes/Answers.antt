-- `checks::rules::check_sizes` meets its contract: the tests that led to each return decide the rules. Assumes nothing.
use Prim.Native.Nat.{ℕ, zero, suc}
use native.Mathlib.Omega.{arith}
use mathlib.Core.Path.{◌≡◌, refl, sym, ◌∙◌}
use mathlib.Core.Bool.{Bool, true, false, true≢false, cond, not, ◌&&◌, ◌||◌}
use borrow.Author.Tests.{ltb-false, lt-ltb, le-ltb, eq-eqb, ne_eqb}
use lib.Dec.{leb, ltb, eqb}
use Rattle.binary64.specs.Kinds.{zero64}
use Rattle.shape.specs.Bounds.{max_order, max_block}
use Rattle.shape.specs.Places.{triangle}
use Rattle.calls.specs.declared.Call.{Call}
use Rattle.shape.specs.declared.Shape.{Shape}
use Rattle.std.specs.Prelude.{Option, Some, None}
use Rattle.std.specs.Option.{is_some}
use Rattle.calls.specs.declared.states.State.{State}
use Rattle.calls.specs.States.{next, suits}
use Rattle.calls.specs.Refusals.{success, accepted, refusal, refuse_if, first_refusal, by_blocks, needed_work, rule1, rule2, rule15, rule3, rule4}
use Rattle.calls.proofs.Judging.{not_leb}
use Rattle.calls.proofs.Checks.{size_rules}
use Rattle.checks.proofs.rules.check_sizes.Goals as goal

block_test : (b : ℕ) → not (ltb 0 b && leb b max_block) ≡ eqb b 0 || ltb max_block b
block_test zero = refl
block_test (suc b) = rw (lt-ltb 0 (suc b) (omega arith), ne_eqb (suc b) 0 (λ e. omega arith)) (not_leb (suc b) max_block)

unsuited : (o : Option State) (b : Bool) → is_some o ≡ not b → not (suits o) ≡ b
unsuited (Some given) true e = absurd (true≢false e)
unsuited (Some given) false e = refl
unsuited None true e = refl
unsuited None false e = absurd (true≢false (sym e))

-- ---- what each test that was passed decides

module _ (call : Call) (shape : Shape) (matrix work : ℕ) where
  past_sizes :
      (short : Bool) →
      ltb max_order shape.order ≡ false →
      by_blocks call && (eqb shape.block 0 || ltb max_block shape.block) ≡ false →
      not (suits (next call shape.state)) ≡ false →
      eqb matrix (triangle shape.order) ≡ true →
      ltb work (needed_work call shape.order shape.block) ≡ short →
      first_refusal (size_rules call shape matrix work) ≡ refuse_if short (refusal 4 0 zero64)
  unfolding first_refusal rule1 rule2 rule15 rule3 rule4
  past_sizes short e1 e2 e15 e3 e4 = rw (e1, e2, e15, e3, e4) (last short)
    where
      last : (b : Bool) → cond (accepted (refuse_if b (refusal 4 0 zero64))) success (refuse_if b (refusal 4 0 zero64)) ≡ refuse_if b (refusal 4 0 zero64)
      last true = refl
      last false = refl

-- ---- the needs

pub returns-then-not-order_in_bounds : goal.returns-then-not-order_in_bounds
unfolding first_refusal rule1
returns-then-not-order_in_bounds c =
    let args = c.args in
    let e1 : ltb max_order args.shape.order ≡ true = cc (not_leb args.shape.order max_order) in
    rw e1 refl

pub returns-then-by_blocks-block_in_bounds : goal.returns-then-by_blocks-block_in_bounds
unfolding first_refusal rule1 rule2
returns-then-by_blocks-block_in_bounds c =
    let args = c.args in
    let e1 : ltb max_order args.shape.order ≡ false = cc (not_leb args.shape.order max_order) in
    let e2 : by_blocks args.call && (eqb args.shape.block 0 || ltb max_block args.shape.block) ≡ true = cc (block_test args.shape.block) in
    rw (e1, e2) refl

pub returns-then-is_none : goal.returns-then-is_none
unfolding first_refusal rule1 rule2 rule15
returns-then-is_none c =
    let args = c.args in
    let e1 : ltb max_order args.shape.order ≡ false = cc (not_leb args.shape.order max_order) in
    let e2 : by_blocks args.call && (eqb args.shape.block 0 || ltb max_block args.shape.block) ≡ false = cc (block_test args.shape.block) in
    let e15 : not (suits (next args.call args.shape.state)) ≡ true = rw (← c.next.ensures) (unsuited c.next.result c.is_none.result c.is_none.ensures ∙ c.if-is_none.true) in
    rw (e1, e2, e15) refl

pub triangle-requires : goal.triangle-requires
triangle-requires c = let args = c.args in ltb-false max_order args.shape.order (cc (not_leb args.shape.order max_order))

pub returns-then-matrix-triangle : goal.returns-then-matrix-triangle
unfolding first_refusal rule1 rule2 rule15 rule3
returns-then-matrix-triangle c =
    let args = c.args in
    let e1 : ltb max_order args.shape.order ≡ false = cc (not_leb args.shape.order max_order) in
    let e2 : by_blocks args.call && (eqb args.shape.block 0 || ltb max_block args.shape.block) ≡ false = cc (block_test args.shape.block) in
    let e15 : not (suits (next args.call args.shape.state)) ≡ false = rw (← c.next.ensures) (unsuited c.next.result c.is_none.result c.is_none.ensures ∙ c.if-is_none.false) in
    let e3 : eqb args.matrix (triangle args.shape.order) ≡ false =
    rw (← c.triangle.ensures) (ne_eqb args.matrix c.triangle.result c.if-matrix-triangle.true)
    in
    rw (e1, e2, e15, e3) refl

pub needed_work-requires : goal.needed_work-requires
needed_work-requires c = let args = c.args in ltb-false max_order args.shape.order (cc (not_leb args.shape.order max_order))

pub returns-then-work-needed_work : goal.returns-then-work-needed_work
returns-then-work-needed_work c =
    let args = c.args in
    let e1 : ltb max_order args.shape.order ≡ false = cc (not_leb args.shape.order max_order) in
    let e2 : by_blocks args.call && (eqb args.shape.block 0 || ltb max_block args.shape.block) ≡ false = cc (block_test args.shape.block) in
    let e15 : not (suits (next args.call args.shape.state)) ≡ false = rw (← c.next.ensures) (unsuited c.next.result c.is_none.result c.is_none.ensures ∙ c.if-is_none.false) in
    let e3 : eqb args.matrix (triangle args.shape.order) ≡ true = rw (← c.triangle.ensures) (eq-eqb args.matrix c.triangle.result c.if-matrix-triangle.false) in
    sym (past_sizes args.call args.shape args.matrix args.work true e1 e2 e15 e3 (rw (← c.needed_work.ensures) (lt-ltb _ c.needed_work.result c.if-work-needed_work.true)))

pub returns : goal.returns
returns c =
    let args = c.args in
    let e1 : ltb max_order args.shape.order ≡ false = cc (not_leb args.shape.order max_order) in
    let e2 : by_blocks args.call && (eqb args.shape.block 0 || ltb max_block args.shape.block) ≡ false = cc (block_test args.shape.block) in
    let e15 : not (suits (next args.call args.shape.state)) ≡ false = rw (← c.next.ensures) (unsuited c.next.result c.is_none.result c.is_none.ensures ∙ c.if-is_none.false) in
    let e3 : eqb args.matrix (triangle args.shape.order) ≡ true = rw (← c.triangle.ensures) (eq-eqb args.matrix c.triangle.result c.if-matrix-triangle.false) in
    sym (past_sizes args.call args.shape args.matrix args.work false e1 e2 e15 e3 (rw (← c.needed_work.ensures) (le-ltb _ c.needed_work.result c.if-work-needed_work.false)))
