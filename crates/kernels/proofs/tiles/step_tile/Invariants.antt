-- `kernels::tiles::step_tile` meets its contract. The invariant of its loop: the first r rows have their product subtracted. Assumes nothing.
use Prim.Native.Nat.{◌+◌, ◌*◌, ◌≤◌}
use mathlib.Core.Path.{◌≡◌}
use lib.ListN.{length, get_or}
use lib.Ieee.{nan, binary64, sub, mul}
use Rattle.kernels.specs.Kernels.{tile_at}
use Rattle.kernels.proofs.Grids.{RowsSet}
use Rattle.kernels.proofs.tiles.step_tile.Given as goal

abbrev pub invariant-loop-r : goal.invariant-loop-r
invariant-loop-r g l =
    (l.r ≤ g.row.ROWS) × (length l.fn.tile ≡ g.row.ROWS)
    × RowsSet g.row.LANES (λ q s. sub binary64 (tile_at l.fn.tile q s) (mul binary64 (get_or l.m (l.x + q * l.stride) nan) (get_or l.panel (l.at + s) nan))) l.fn.tile l.r l.row-items
