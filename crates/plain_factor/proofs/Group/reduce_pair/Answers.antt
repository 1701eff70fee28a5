-- `plain_factor::Group::reduce_pair` meets its contract. Assumes nothing.
use Prim.Native.Nat.{◌+◌}
use native.Mathlib.Nat.{sub_self}
use native.Mathlib.Omega.{arith}
use mathlib.Core.Path.{◌≡◌}
use Rattle.plain_factor.proofs.Rows.{pair_none, pair_next}
use Rattle.plain_factor.proofs.Group.reduce_pair.Goals as goal

pub loop-i-init : goal.loop-i-init
loop-i-init c =
    let s = c.args.self.now in
    let room = c.requires.room in
    record {
      low = omega arith;
      high = omega (arith, room.inside);
      tiles = room.tiles;
      rows = rw sub_self (pair_none s.n s.matrix.now c.args.j s.k s.count c.args.top c.args.work.now);
    }

pub loop-i-preserved : goal.loop-i-preserved
loop-i-preserved c =
    let s = c.args.self.now in
    let room = c.requires.room in
    record {
      low = omega arith;
      high = omega arith;
      tiles = omega arith;
      rows =
          pair_next s.n s.matrix.now c.args.j s.k s.count c.args.top c.loop-i.i _ _ _ _ (omega arith) (omega arith) (omega (arith, room.low, room.room))
          c.loop-i.invariant.rows c.reduce_part.ensures c.reduce_part-in-loop-i.ensures;
    }

pub returns : goal.returns
returns c =
    let e : c.loop-i.i ≡ c.args.self.now.n = omega arith in
    rw e at c.loop-i.invariant.rows

pub returns-2 : goal.returns-2
returns-2 c =
    let s = c.args.self.now in
    let room = c.requires.room in
    let e : c.loop-i.i + 16 ≡ s.n = omega arith in
    rw e at
    (pair_next s.n s.matrix.now c.args.j s.k s.count c.args.top c.loop-i.i _ _ _ _ (omega arith) (omega arith) (omega (arith, room.low, room.room))
    c.loop-i.invariant.rows c.reduce_part.ensures c.reduce_part-in-loop-i.ensures)
