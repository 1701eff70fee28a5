-- `plain_factor::Group::reduce_tile` meets its contract. Assumes nothing.
use Prim.Native.Nat.{◌+◌}
use native.Mathlib.Nat.{add-zero}
use native.Mathlib.Omega.{arith}
use lib.ListN.{get_or}
use lib.Ieee.{nan}
use Rattle.plain_factor.proofs.Rows.{column_fits, start_next, less_none, tile_next}
use Rattle.plain_factor.proofs.Group.reduce_tile.Goals as goal

pub loop-c-init : goal.loop-c-init
loop-c-init g c =
    let s = c.args.self.now in
    record {
      start = rw add-zero s.start;
      fits = λ h. column_fits s.k s.base s.memory s.start (omega arith);
      rows = λ r h. less_none s.n s.matrix.now c.args.j s.k (c.args.i + r) (get_or c.args.rows r nan);
    }

pub loop-c-preserved : goal.loop-c-preserved
loop-c-preserved g c =
    let s = c.args.self.now in
    let start = start_next s.n s.k c.loop-c.c c.loop-c.start (omega arith) c.loop-c.invariant.start in
    record {
      start = start;
      fits = λ h. column_fits (s.k + (c.loop-c.c + 1)) _ s.memory start h;
      rows =
          tile_next s.n s.matrix.now c.args.j s.k g.row.W c.loop-c.c c.args.i c.loop-c.start c.args.rows c.loop-c.reduced c.step-reduced.result
          c.loop-c.invariant.start c.loop-c.invariant.rows c.step-reduced.ensures;
    }
