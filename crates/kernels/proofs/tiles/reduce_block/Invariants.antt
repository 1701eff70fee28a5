-- `kernels::tiles::reduce_block` meets its contract. The invariant of its loop: every value is less its first k products. Assumes nothing.
use Prim.Native.Nat.{◌+◌, ◌*◌, ◌≤◌}
use lib.ListN.{get_or}
use lib.Ieee.{nan}
use Rattle.calls.specs.Arithmetic.{minus_products}
use Rattle.kernels.specs.Kernels.{TileIs, tile_at, row_at}
use Rattle.kernels.proofs.tiles.reduce_block.Given as goal

abbrev pub invariant-loop-k : goal.invariant-loop-k
invariant-loop-k g l =
    (l.k ≤ l.count) × TileIs g.row.ROWS g.row.LANES
    (λ r s. minus_products (row_at l.m (l.x + r * l.stride)) (λ q. get_or l.panel (l.at + g.row.LANES * q + s) nan) l.k (tile_at l.initial.next r s)) l.next
