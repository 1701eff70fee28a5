-- `solve::blocked::Blocked::trailing` meets its contract. Assumes nothing.
use native.Mathlib.Omega.{arith}
use mathlib.Core.Path.{ap}
use lib.ListN.{length-take, length-drop}
use Rattle.shape.specs.Places.{triangle}
use Rattle.shape.proofs.Columns.{triangle_rest}
use Rattle.solve.proofs.BlockPlaces.{start_room}
use Rattle.solve.proofs.blocked.Blocked.trailing.Goals as goal

-- the part begins in the matrix
pub offset_bounds-self-at : goal.offset_bounds-self-at
offset_bounds-self-at c =
    let f = c.args.self.now in
    omega (arith, start_room f.shape.order c.args.c c.block_start-at.result (omega arith) (omega arith) c.block_start-at.ensures)

pub slice_bounds-result-count : goal.slice_bounds-result-count
slice_bounds-result-count c =
    let f = c.args.self.now in
    omega (arith, start_room f.shape.order c.args.c c.block_start-at.result (omega arith) (omega arith) c.block_start-at.ensures)

pub slice_bounds-result-start : goal.slice_bounds-result-start
slice_bounds-result-start c =
    let f = c.args.self.now in
    omega (arith, start_room f.shape.order c.args.c c.block_start-at.result (omega arith) (omega arith) c.block_start-at.ensures)

pub invariant_of-result : goal.invariant_of-result
invariant_of-result c =
    let f = c.args.self.now in
    record {
      order = omega arith;
      block = omega arith;
      values = simp (length-take, length-drop)
          (omega (arith, triangle_rest f.shape.order c.args.c (omega arith), ap triangle c.new.ensures.0));
    }
