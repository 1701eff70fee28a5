-- `kernels::columns::reduce_columns` meets its contract. The invariant of its loop: the products of the last k rows are subtracted. Assumes nothing.
use Prim.Native.Nat.{◌-◌}
use native.Mathlib.Omega.{arith}
use mathlib.Core.Path.{sym, ap, ◌∙◌}
use lib.ListN.{get_or}
use lib.Ieee.{Float, nan, binary64, sub, mul}
use Rattle.shape.specs.Places.{blocked_place}
use Rattle.kernels.proofs.Products.{minus_none, minus_next}
use Rattle.kernels.proofs.columns.reduce_columns.Goals as goal

pub loop-k-init : goal.loop-k-init
loop-k-init g c = (omega arith, λ j p. sym (minus_none _ _ _))

pub loop-k-preserved : goal.loop-k-preserved
loop-k-preserved g c =
    let a = c.args in
    let i = a.h - 1 - c.loop-k.k in (
      omega arith,
      λ j p.
          c.step_columns-step.ensures j p
          ∙ ap (λ (t : Float). sub binary64 t (mul binary64 (get_or a.part.now (blocked_place a.h g.row.B i j) nan) (get_or a.v.now i nan)))
          (c.loop-k.invariant.1 j p)
          ∙ sym
          (minus_next (λ q. get_or a.part.now (blocked_place a.h g.row.B (a.h - 1 - q) j) nan) (λ q. get_or a.v.now (a.h - 1 - q) nan) c.loop-k.k
          (get_or a.tile j nan)),
    )
