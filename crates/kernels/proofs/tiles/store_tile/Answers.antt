-- `kernels::tiles::store_tile` meets its contract. The invariant of its loop: the first r rows are stored. Assumes nothing.
use native.Mathlib.Omega.{arith}
use mathlib.Core.Path.{◌≡◌}
use Rattle.kernels.proofs.Grids.{grid_next}
use Rattle.kernels.proofs.tiles.store_tile.Goals as goal

pub loop-r-preserved : goal.loop-r-preserved
loop-r-preserved g c =
    let a = c.args in
    (omega arith, grid_next a.y a.stride a.len c.loop-r.r _ _ c.loop-r.m _ (omega (arith, c.requires.lanes_bound)) c.loop-r.invariant.1 c.store_part.ensures)

pub returns : goal.returns
returns g c =
    let e : c.loop-r.r ≡ g.row.ROWS = omega arith in
    rw e at c.loop-r.invariant.1
