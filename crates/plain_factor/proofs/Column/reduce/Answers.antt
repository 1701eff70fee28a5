-- `plain_factor::Column::reduce` meets its contract. Assumes nothing.
use Prim.Native.Nat.{◌+◌}
use native.Mathlib.Omega.{arith}
use mathlib.Core.Path.{◌≡◌, refl, ◌∙◌}
use Rattle.plain_factor.proofs.Rows.{reduced_more}
use Rattle.plain_factor.proofs.Column.reduce.Goals as goal

pub loop-k-init : goal.loop-k-init
loop-k-init c =
    record { high = omega arith; rows = c.requires.loaded; before = λ p low h. refl; after = λ p low h. refl }

pub loop-k-preserved : goal.loop-k-preserved
loop-k-preserved c =
    let s = c.args.self.now in
    let more = rw (c.group.ensures.memory.0, c.group.ensures.memory.1, c.group.ensures.columns.0) at c.reduce.ensures in
    let here : c.loop-k.k + c.group.result.count ≡ c.loop-k.k + 8 = omega arith in
    record {
      high = omega arith;
      rows = λ i low h. rw here at (more.rows i low h ∙ reduced_more s.n s.matrix.now s.j c.loop-k.k c.group.result.count i _ (c.loop-k.invariant.rows i low h));
      before = λ p low h. more.before p low h ∙ c.loop-k.invariant.before p low h;
      after = λ p low h. more.after p low h ∙ c.loop-k.invariant.after p low h;
    }

pub returns : goal.returns
returns c =
    let e : c.loop-k.k ≡ c.args.self.now.j = omega arith in
    record { reduced = rw e at c.loop-k.invariant.rows; above = c.loop-k.invariant.before; below = c.loop-k.invariant.after }

pub returns-2 : goal.returns-2
returns-2 c =
    let s = c.args.self.now in
    let more = rw (c.group.ensures.memory.0, c.group.ensures.memory.1, c.group.ensures.columns.0) at c.reduce.ensures in
    let here : c.loop-k.k + c.group.result.count ≡ s.j = omega arith in
    record {
      reduced = λ i low h. rw here at (more.rows i low h ∙ reduced_more s.n s.matrix.now s.j c.loop-k.k c.group.result.count i _ (c.loop-k.invariant.rows i low h));
      above = λ p low h. more.before p low h ∙ c.loop-k.invariant.before p low h;
      below = λ p low h. more.after p low h ∙ c.loop-k.invariant.after p low h;
    }
