-- `kernels::tiles::load_tile` meets its contract. The invariant of its loop: the first r rows are loaded. Assumes nothing.
use Prim.Native.Nat.{◌+◌, ◌*◌, ◌≤◌}
use mathlib.Core.Path.{◌≡◌}
use lib.ListN.{length, get_or}
use lib.Ieee.{nan}
use Rattle.kernels.proofs.Grids.{RowsSet}
use Rattle.kernels.proofs.tiles.load_tile.Given as goal

abbrev pub invariant-loop-r : goal.invariant-loop-r
invariant-loop-r g l =
    (l.r ≤ g.row.ROWS) × (length l.initial.tile ≡ g.row.ROWS) × RowsSet l.len (λ q s. get_or l.m (l.y + q * l.stride + s) nan) l.initial.tile l.r l.tile
