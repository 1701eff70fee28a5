-- `plain_factor::Group::reduce_tile` meets its contract. The loop's invariant: column k + c, if there is one, stands in the memory, and the rows are less their
-- products in c columns. Assumes nothing.
use Prim.Native.Nat.{◌+◌, ◌≤◌, ◌<◌}
use mathlib.Core.Path.{◌≡◌}
use lib.ListN.{length}
use Rattle.shape.specs.Places.{packed_place}
use Rattle.plain_factor.specs.Steps.{TileReduced}
use Rattle.plain_factor.proofs.Group.reduce_tile.Given as goal

abbrev pub invariant-loop-c : goal.invariant-loop-c
invariant-loop-c g l =
    record {
      start : l.start ≡ packed_place l.self.n 0 (l.self.k + l.c);
      fits : l.self.k + l.c < l.self.n → l.start + l.self.n ≤ length l.self.matrix.now;
      rows : TileReduced g.row.W l.self.n l.self.matrix.now l.j l.self.k l.c l.i l.fn.rows l.reduced;
    }
