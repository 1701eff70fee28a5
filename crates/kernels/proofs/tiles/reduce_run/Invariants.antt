-- `kernels::tiles::reduce_run` meets its contract. The invariant of its loop: every value is less the products of the first k columns, whole block
-- columns, and x is the place of row i in the next one. Assumes nothing.
use Prim.Native.Nat.{◌+◌, ◌-◌, ◌*◌, ◌≤◌, ◌<◌}
use mathlib.Core.Path.{◌≡◌}
use Rattle.shape.specs.Places.{block_of}
use Rattle.calls.specs.Arithmetic.{minus_products}
use Rattle.kernels.specs.Kernels.{TileIs, tile_at, run_at, lane_at}
use Rattle.kernels.proofs.Runs.{row_place}
use Rattle.kernels.proofs.tiles.reduce_run.Given as goal

abbrev pub invariant-loop-k : goal.invariant-loop-k
invariant-loop-k g l =
    (l.k ≤ l.run.columns)
    × (block_of l.run.block l.k ≡ l.k)
    × (l.k < l.run.columns → l.x ≡ l.run.start + row_place l.run.order l.run.block l.i l.k)
    × (l.step ≡ 2 * l.run.block * l.run.block - l.run.corner)
    × (l.b ≡ l.run.block)
    × TileIs g.row.ROWS g.row.LANES
    (λ r s. minus_products (run_at l.m l.run.start l.run.order l.run.block (l.i + r)) (lane_at g.row.LANES l.panel s) l.k (tile_at l.initial.next r s)) l.next

abbrev pub decreases-loop-k : goal.decreases-loop-k
decreases-loop-k g l = l.run.columns - l.k
