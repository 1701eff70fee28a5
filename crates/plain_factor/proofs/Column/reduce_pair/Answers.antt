-- `plain_factor::Column::reduce_pair` meets its contract. Assumes nothing.
use Prim.Native.Nat.{◌+◌}
use native.Mathlib.Omega.{arith}
use mathlib.Core.Path.{◌≡◌, refl, ◌∙◌}
use Rattle.plain_factor.proofs.Rows.{reduced_more}
use Rattle.plain_factor.proofs.Column.reduce_pair.Goals as goal

pub loop-k-init : goal.loop-k-init
loop-k-init c = record { high = omega arith; rows = c.requires.loaded; waiting = c.requires.waiting; between = λ p low h. refl }

pub loop-k-preserved : goal.loop-k-preserved
loop-k-preserved c =
    let s = c.args.self.now in
    let count = c.group.result.count in
    let more = rw (c.group.ensures.memory.0, c.group.ensures.memory.1, c.group.ensures.columns.0) at c.reduce_pair.ensures in
    let here : c.loop-k.k + count ≡ c.loop-k.k + 8 = omega arith in
    record {
      high = omega arith;
      rows = λ i low h. rw here at (more.column i low (omega arith) ∙ reduced_more s.n s.matrix.now s.j c.loop-k.k count i _ (c.loop-k.invariant.rows i low h));
      waiting = λ r h.
          rw here at
          (more.front r (omega arith) ∙ reduced_more s.n s.matrix.now (s.j + 1) c.loop-k.k count (c.args.top + r) _ (c.loop-k.invariant.waiting r h));
      between = λ p low h. more.between p low h ∙ c.loop-k.invariant.between p low h;
    }

pub returns : goal.returns
returns c =
    let e : c.loop-k.k ≡ c.args.self.now.j = omega arith in
    record { reduced = rw e at c.loop-k.invariant.rows; next = rw e at c.loop-k.invariant.waiting; between = c.loop-k.invariant.between }

pub returns-2 : goal.returns-2
returns-2 c =
    let s = c.args.self.now in
    let count = c.group.result.count in
    let more = rw (c.group.ensures.memory.0, c.group.ensures.memory.1, c.group.ensures.columns.0) at c.reduce_pair.ensures in
    let here : c.loop-k.k + count ≡ s.j = omega arith in
    record {
      reduced = λ i low h.
          rw here at (more.column i low (omega arith) ∙ reduced_more s.n s.matrix.now s.j c.loop-k.k count i _ (c.loop-k.invariant.rows i low h));
      next = λ r h.
          rw here at
          (more.front r (omega arith) ∙ reduced_more s.n s.matrix.now (s.j + 1) c.loop-k.k count (c.args.top + r) _ (c.loop-k.invariant.waiting r h));
      between = λ p low h. more.between p low h ∙ c.loop-k.invariant.between p low h;
    }
