-- `kernels::tiles::step_tile` meets its contract. The invariant of its loop: the first r rows have their product subtracted. Assumes nothing.
use Prim.Native.Nat.{◌+◌, ◌-◌, ◌*◌}
use native.Mathlib.Nat.{le_refl}
use native.Mathlib.Omega.{arith}
use mathlib.Core.Path.{◌≡◌, ap₂, ◌∙◌}
use mathlib.Core.List.{List, []}
use lib.ListN.{length, get_or}
use lib.Ieee.{Float, nan, binary64, sub, mul}
use Rattle.kernels.specs.Kernels.{tile_at}
use Rattle.kernels.proofs.Grids.{rows_next, step_row}
use Rattle.kernels.proofs.Parts.{get_d_part}
use Rattle.kernels.proofs.tiles.step_tile.Goals as goal

pub loop-r-preserved : goal.loop-r-preserved
loop-r-preserved g c =
    let a = c.args in
    let y = get_or a.m.now (a.x + c.loop-r.r * a.stride) nan in (
      omega arith,
      c.loop-r.invariant.1,
      rows_next _ _ _ c.loop-r.r c.subtract_multiple.new.v c.loop-r.row-items (omega arith) c.loop-r.invariant.2
          (λ s h.
          let long : length (get_or c.loop-r.row-items c.loop-r.r []) ≡ g.row.LANES = omega arith in
          let part : a.at + g.row.LANES - a.at ≡ g.row.LANES = omega arith in
          c.subtract_multiple.ensures.value s (omega (arith, long))
          ∙ ap₂ (λ (v : List Float) (x : Float). sub binary64 (get_or v s nan) (mul binary64 x y)) (c.loop-r.invariant.2.rest c.loop-r.r (le_refl _))
          (get_d_part nan a.at _ a.panel.now s (omega (arith, part)))
          ∙ step_row (tile_at a.tile c.loop-r.r s) (get_or a.panel.now (a.at + s) nan) y),
    )
