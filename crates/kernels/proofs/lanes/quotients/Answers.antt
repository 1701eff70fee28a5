-- `kernels::lanes::quotients` meets its contract. Assumes nothing.
use native.Mathlib.Omega.{arith}
use Prim.Native.Nat.{◌+◌, ◌-◌}
use mathlib.Core.Path.{◌≡◌, ap, ap₂, ◌∙◌}
use lib.ListN.{get_or}
use lib.Ieee.{Float, nan, binary64, div}
use Rattle.calls.specs.Arithmetic.{minus_products}
use Rattle.kernels.proofs.Products.{rising_part}
use Rattle.kernels.specs.Kernels.{row_at}
use Rattle.kernels.proofs.lanes.quotients.Goals as goal

pub returns : goal.returns
returns g c =
    let a = c.args in
    let count : a.y + a.count - a.y ≡ a.count = omega arith in (
      c.divide.ensures.0,
      λ k h.
          let row = row_at a.part.now (get_or a.at k 0) in
          let t = get_or c.gather-start.result k nan in
          c.divide.ensures.1 k h
          ∙ ap (λ (v : Float). div binary64 v a.root)
          (c.subtract_rising-reduced.ensures k h
          ∙ rising_part a.part.now a.part.now (get_or a.at k 0) a.y (a.y + a.count - a.y) t (omega (arith, c.requires.count_in_bounds))
          ∙ ap₂ (minus_products row (row_at a.part.now a.y)) count (c.gather-start.ensures k h)),
    )
