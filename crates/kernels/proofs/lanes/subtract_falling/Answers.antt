-- `kernels::lanes::subtract_falling` meets its contract. The invariant of its loop: the products from k on are subtracted from each value. Assumes nothing.
use Prim.Native.Nat.{◌-◌}
use native.Mathlib.Nat.{zero-add}
use native.Mathlib.Omega.{arith}
use mathlib.Core.Path.{◌≡◌, sym, ◌∙◌}
use lib.ListN.{length, get_or}
use Rattle.kernels.proofs.Products.{minus_none, falling_next}
use Rattle.kernels.proofs.lanes.subtract_falling.Goals as goal

pub loop-k-init : goal.loop-k-init
loop-k-init g c =
    let y = c.args.y.now in
    let none : length y - length y ≡ 0 = omega arith in
    (omega arith, λ s h. rw none (sym (minus_none _ _ _)))

pub loop-k-preserved : goal.loop-k-preserved
loop-k-preserved g c =
    let a = c.args in (
      omega arith,
      λ s h.
          c.step-next.ensures s h
          ∙ rw (zero-add, c.gather.ensures s h)
          (falling_next a.x.now a.y.now (get_or a.at s 0) c.loop-k.k _ _ (omega arith) c.loop-k.invariant.0 (c.loop-k.invariant.1 s h)),
    )
