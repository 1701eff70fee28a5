-- `plain_factor::Group::reduce` meets its contract. Assumes nothing.
use Prim.Native.Nat.{◌+◌}
use native.Mathlib.Omega.{arith}
use native.Mathlib.Decide.{dec_lt}
use mathlib.Core.Path.{◌≡◌, refl, ◌∙◌}
use Rattle.plain_factor.proofs.Rows.{row_stored, group_none, group_next}
use Rattle.plain_factor.proofs.Group.reduce.Goals as goal

pub loop-i-init : goal.loop-i-init
loop-i-init c =
    let s = c.args.self.now in
    record { high = omega arith; above = λ p low h. refl; rows = group_none s.n s.matrix.now c.args.j s.k s.count c.args.work.now }

pub loop-i-preserved : goal.loop-i-preserved
loop-i-preserved c =
    let s = c.args.self.now in
    let i = c.loop-i.i in
    let stored = row_stored s.n s.matrix.now c.args.j s.k s.count i c.loop-i.work _ (omega arith) (c.reduce_tile.ensures 0 (omega arith)) in
    record {
      high = omega arith;
      above = λ p low h. stored.before p (omega arith) ∙ c.loop-i.invariant.above p low h;
      rows = group_next s.n s.matrix.now c.args.j s.k s.count i 1 _ _ _ (omega arith) (omega arith) c.loop-i.invariant.rows stored;
    }

pub loop-i-2-init : goal.loop-i-2-init
loop-i-2-init c =
    let i = c.loop-i.i in
    let rows = c.loop-i.invariant.rows in
    record {
      low = omega arith;
      high = omega arith;
      tiles = omega arith;
      rows = record {
        rows = λ q low h. rows.rows q low (omega arith);
        before = rows.before;
        after = λ p low h. elim (dec_lt p i) [ yes q ↦ c.loop-i.invariant.above p (omega arith) (omega arith) | no q ↦ rows.after p (omega arith) h ];
      };
    }

pub loop-i-2-preserved : goal.loop-i-2-preserved
loop-i-2-preserved c =
    let s = c.args.self.now in
    record {
      low = omega arith;
      high = omega arith;
      tiles = omega arith;
      rows =
          group_next s.n s.matrix.now c.args.j s.k s.count c.loop-i-2.i 16 _ _ _ (omega arith) (omega arith) c.loop-i-2.invariant.rows c.reduce_part.ensures;
    }

pub returns : goal.returns
returns c =
    let e : c.loop-i-2.i ≡ c.args.to = omega arith in
    rw e at c.loop-i-2.invariant.rows

pub returns-2 : goal.returns-2
returns-2 c =
    let s = c.args.self.now in
    let e : c.loop-i-2.i + 16 ≡ c.args.to = omega arith in
    rw e at (group_next s.n s.matrix.now c.args.j s.k s.count c.loop-i-2.i 16 _ _ _ (omega arith) (omega arith) c.loop-i-2.invariant.rows c.reduce_part.ensures)
