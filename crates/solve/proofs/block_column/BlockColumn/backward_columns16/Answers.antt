-- `solve::block_column::BlockColumn::backward_columns16` meets its contract. The invariant of its loop: the products of the rows from r on are subtracted,
-- and row r has its entry in column s at `at`. Assumes nothing.
use Prim.Native.Nat.{◌+◌, ◌-◌}
use native.Mathlib.Omega.{arith}
use mathlib.Core.Path.{◌≡◌, sym, ◌∙◌}
use Rattle.kernels.proofs.Products.{minus_none}
use Rattle.solve.proofs.BlockPlaces.{room_part, next_up}
use Rattle.solve.proofs.BlockColumns.{less16_next, columns16_done}
use Rattle.solve.proofs.block_column.BlockColumn.backward_columns16.Goals as goal

pub loop-r-init : goal.loop-r-init
loop-r-init c =
    let none : c.args.end - c.args.end ≡ 0 = omega arith in
    (omega arith, c.place-at.ensures, rw none (λ i p. c.load-values.ensures i p ∙ sym (minus_none _ _ _)))

-- the row before
pub overflow_sub-at : goal.overflow_sub-at
overflow_sub-at c =
    let a = c.args in
    omega (arith, next_up a.self.now c.loop-r.r (a.self.now.skip + a.s) c.loop-r.at (omega arith) c.loop-r.invariant.1)

pub step-next-requires : goal.step-next-requires
step-next-requires c =
    let a = c.args in
    omega (
      arith,
      next_up a.self.now c.loop-r.r (a.self.now.skip + a.s) c.loop-r.at (omega arith) c.loop-r.invariant.1,
      room_part a.self.now (c.loop-r.r - 1) a.s 16 (omega arith) (omega arith) (omega arith),
    )

pub loop-r-preserved : goal.loop-r-preserved
loop-r-preserved c =
    let a = c.args in
    let start = (next_up a.self.now c.loop-r.r (a.self.now.skip + a.s) c.loop-r.at (omega arith) c.loop-r.invariant.1).1 in
    let row : a.end - 1 - (a.end - c.loop-r.r) ≡ c.loop-r.r - 1 = omega arith in
    let count : a.end - c.loop-r.r + 1 ≡ a.end - (c.loop-r.r - 1) = omega arith in (
      omega arith,
      start,
      rw count at (less16_next a.self.now a.end (a.end - c.loop-r.r) a.s a.work.now c.loop-r.values c.loop-r.invariant.2
          (c.loop-r.at - (a.self.now.skip + a.self.now.w)) c.step-next.result (rw row start)
          (rw row c.step-next.ensures)),
    )

pub returns : goal.returns
returns c =
    let a = c.args in
    let all : c.loop-r.r ≡ a.first = omega arith in
    columns16_done a.self.now a.end (a.end - a.first) a.s a.work.now c.loop-r.values (rw all at c.loop-r.invariant.2) _ c.store.ensures
