-- `kernels::tiles::reduce_block` meets its contract. The invariant of its loop: every value is less its first k products. Assumes nothing.
use Prim.Native.Nat.{◌+◌, ◌*◌}
use native.Mathlib.Omega.{arith}
use mathlib.Core.Path.{◌≡◌, sym}
use lib.ListN.{get_or}
use lib.Ieee.{nan}
use Rattle.kernels.specs.Kernels.{row_at}
use Rattle.kernels.proofs.Grids.{tile_next}
use Rattle.kernels.proofs.Products.{minus_none}
use Rattle.kernels.proofs.tiles.reduce_block.Goals as goal

pub loop-k-init : goal.loop-k-init
loop-k-init g c = (omega arith, λ r s h p. sym (minus_none _ _ _))

pub loop-k-preserved : goal.loop-k-preserved
loop-k-preserved g c =
    let a = c.args in (
      omega arith,
      tile_next g.row.ROWS g.row.LANES c.loop-k.k (λ r. row_at a.m.now (a.x + r * a.stride)) (λ s q. get_or a.panel.now (a.at + g.row.LANES * q + s) nan)
          a.tile c.loop-k.next c.step_tile-step.result c.loop-k.invariant.1
          (λ r s h p.
          let row : a.x + c.loop-k.k + r * a.stride ≡ a.x + r * a.stride + c.loop-k.k = omega arith in
          rw row at (c.step_tile-step.ensures r s h p)),
    )
