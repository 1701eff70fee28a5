-- `kernels::tiles::store_tile` meets its contract. The invariant of its loop: the first r rows are stored. Assumes nothing.
use Prim.Native.Nat.{◌≤◌}
use Rattle.kernels.specs.Kernels.{GridFilled, tile_at}
use Rattle.kernels.proofs.tiles.store_tile.Given as goal

abbrev pub invariant-loop-r : goal.invariant-loop-r
invariant-loop-r g l = (l.r ≤ g.row.ROWS) × GridFilled l.y l.stride l.r l.len (λ q s. tile_at l.tile q s) l.initial.m l.m
