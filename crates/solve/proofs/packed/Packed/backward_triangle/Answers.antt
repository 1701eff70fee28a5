-- `solve::packed::Packed::backward_triangle` meets its contract. The invariant of its loop: the rows from r on are finished, the others as before. Assumes
-- nothing.
use Prim.Native.Nat.{ℕ, ◌+◌, ◌-◌, ◌≤◌, ◌<◌}
use native.Mathlib.Omega.{arith}
use mathlib.Core.Path.{◌≡◌}
use lib.Ieee.{nan}
use lib.ListN.{get_or, length-take, length-drop}
use Rattle.shape.specs.Places.{triangle, packed_place}
use Rattle.solve.proofs.PackedTurns.{column_room, triangle_turn}
use Rattle.solve.proofs.Triangles.{backward_none, backward_all}
use Rattle.solve.proofs.packed.Packed.backward_triangle.Goals as goal

pub loop-r-init : goal.loop-r-init
loop-r-init c = backward_none _ c.args.w c.args.work.now

pub packed_place-at-requires : goal.packed_place-at-requires
packed_place-at-requires c = record { order_le_max_order = omega arith; entry = record { lower = omega arith; inside = omega arith } }

-- in a turn the column begins at its diagonal's place, and lies in the matrix
inside :
    (h r at : ℕ) → 0 < r → r ≤ h → at ≡ packed_place h (r - 1) (r - 1) → at + (h - (r - 1)) ≤ triangle h
inside h r at some le place = omega (arith, place, column_room h r some le)

pub overflow_add-at : goal.overflow_add-at
overflow_add-at c =
    omega (
      arith,
      inside c.args.self.now.order c.loop-r.r c.packed_place-at.result c.loop-r-test.true (omega arith)
          (rw c.new-shape.ensures.0 at c.packed_place-at.ensures),
    )

pub subtract_falling-requires : goal.subtract_falling-requires
subtract_falling-requires c = (
  omega arith,
  (
    omega arith,
    λ s few. let first : s ≡ 0 = omega arith in rw first (simp (length-take, length-drop) (omega (
      arith,
      inside c.args.self.now.order c.loop-r.r c.packed_place-at.result c.loop-r-test.true (omega arith)
          (rw c.new-shape.ensures.0 at c.packed_place-at.ensures),
    ))),
  ),
)

pub offset_bounds-part-at : goal.offset_bounds-part-at
offset_bounds-part-at c =
    omega (
      arith,
      inside c.args.self.now.order c.loop-r.r c.packed_place-at.result c.loop-r-test.true (omega arith)
          (rw c.new-shape.ensures.0 at c.packed_place-at.ensures),
    )

pub bounds-part-at : goal.bounds-part-at
bounds-part-at c =
    omega (
      arith,
      inside c.args.self.now.order c.loop-r.r c.packed_place-at.result c.loop-r-test.true (omega arith)
          (rw c.new-shape.ensures.0 at c.packed_place-at.ensures),
    )

pub loop-r-preserved : goal.loop-r-preserved
loop-r-preserved c =
    let a = c.args in
    let row : c.loop-r.r - 1 + 1 ≡ c.loop-r.r = omega arith in
    triangle_turn a.self.now.order a.w c.loop-r.r c.packed_place-at.result a.self.now.matrix.now a.work.now c.loop-r.work
    (get_or c.subtract_falling.result 0 nan) c.loop-r-test.true (omega arith) (omega arith) (omega arith) (rw c.new-shape.ensures.0 at c.packed_place-at.ensures)
    (rw row at (c.subtract_falling.ensures 0 (omega arith))) c.loop-r.invariant

pub shape_of-work : goal.shape_of-work
shape_of-work c = c.loop-r.invariant.size

pub returns : goal.returns
returns c =
    let a = c.args in
    let end : c.loop-r.r ≡ 0 = omega arith in
    backward_all _ a.w a.work.now c.loop-r.work (rw end at c.loop-r.invariant)
