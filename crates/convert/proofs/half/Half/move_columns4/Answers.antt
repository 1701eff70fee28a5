-- `convert::half::Half::move_columns4` meets its contract. Assumes nothing.
use mathlib.Core.Path.{◌≡◌, ap, ◌∙◌}
use Prim.Native.Nat.{ℕ, ◌+◌, ◌-◌, ◌≤◌, ◌<◌}
use native.Mathlib.Omega.{arith}
use lib.ListN.{get_or}
use lib.Ieee.{nan}
use Rattle.shape.specs.Places.{triangle, packed_place, rfp_place}
use Rattle.shape.specs.Layouts.{Entry}
use Rattle.shape.proofs.Bounds.{triangle_le}
use Rattle.shape.proofs.Columns.{packed_place_rows}
use Rattle.shape.proofs.Rfp.{rfp_bijection}
use Rattle.kernels.proofs.Transfers.{join_rows, moved_columns}
use Rattle.convert.proofs.Halves.{stride_le, rfp_place_below, packed_place_below, next_row, along_row}
use Rattle.convert.proofs.half.Half.move_columns4.Goals as goal
use Rattle.convert.proofs.half.Half.move_columns4.Goals.{In-loop-i}

-- in a turn the four places in the source are those of row i, and the four in the target are in the triangle
packed_at : (c : In-loop-i) (k : ℕ) → k < 4 →
    get_or c.packed_places-columns.result k 0 + (c.loop-i.i - c.args.first) ≡ packed_place c.args.self.route.shape.order c.loop-i.i (c.args.j + k)
packed_at c k h = omega (arith, c.packed_places-columns.ensures k h, packed_place_rows c.args.self.route.shape.order c.args.first c.loop-i.i (c.args.j + k) (omega arith))

inside : (c : In-loop-i) →
    let n = c.args.self.route.shape.order in
    (c.loop-i.to + 4 ≤ triangle n) × (triangle n ≤ 8002000)
inside c =
    let self = c.args.self in
    let n : ℕ = self.route.shape.order in (
      omega (
        arith,
        along_row self.route.form n self.left self.right self.by_rows c.loop-i.i c.args.j 3 (omega arith) (omega arith) (omega arith),
        rfp_place_below self.route.form n c.loop-i.i (c.args.j + 3) (omega arith),
      ),
      triangle_le n self.route.order,
    )

pub gather-values-requires : goal.gather-values-requires
gather-values-requires c =
    let n : ℕ = c.args.self.route.shape.order in (
      omega arith,
      (
        omega arith,
        λ k h.
            omega (arith, packed_at (goal.at.gather-values-requires c).In-loop-i k h, packed_place_below n c.loop-i.i (c.args.j + k) (omega arith)),
      ),
    )

pub store-requires : goal.store-requires
store-requires c = omega (arith, inside (goal.at.store-requires c).In-loop-i)

pub overflow_add-to : goal.overflow_add-to
overflow_add-to c =
    let self = c.args.self in
    omega (arith, inside (goal.at.overflow_add-to c).In-loop-i, c.stride-step.ensures, stride_le self.route.form self.route.shape.order)

pub loop-i-preserved : goal.loop-i-preserved
loop-i-preserved c =
    let self = c.args.self in
    let n : ℕ = self.route.shape.order in
    let i : ℕ = c.loop-i.i in
    let j : ℕ = c.args.j in (
      omega arith,
      omega (arith, c.stride-step.ensures, next_row self.route.form n self.left self.right self.by_rows i j (omega arith) (omega arith) (omega arith)),
      rw c.requires.to_rfp
          (join_rows (rw c.requires.to_rfp at c.loop-i.invariant.2)
          (moved_columns (packed_place n) (rfp_place self.route.form n) (Entry n) (rfp_bijection self.route.form n).apart c.args.source.now c.loop-i.target c.loop-i.to 4
          _ _ c.store.ensures i j (λ k h. omega arith)
          (λ k h. omega (arith, along_row self.route.form n self.left self.right self.by_rows i j k (omega arith) (omega arith) (omega arith)))
          (λ k h. c.gather-values.ensures k h ∙ ap (λ (p : ℕ). get_or c.args.source.now p nan) (packed_at (goal.at.loop-i-preserved c).In-loop-i k h)))),
    )
