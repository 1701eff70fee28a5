-- `convert::half::Half::move_rows` meets its contract. Assumes nothing.
use mathlib.Core.Path.{◌≡◌, ap, ◌∙◌}
use Prim.Native.Nat.{ℕ, ◌+◌, ◌-◌, ◌≤◌, ◌<◌}
use native.Mathlib.Omega.{arith}
use lib.ListN.{get_or}
use lib.Ieee.{nan}
use Rattle.shape.specs.Places.{triangle, packed_place, rfp_place}
use Rattle.shape.specs.Layouts.{Entry}
use Rattle.shape.proofs.Bounds.{triangle_le}
use Rattle.shape.proofs.Columns.{packed_place_rows, packed_place_next_column}
use Rattle.shape.proofs.Bijections.{packed_bijection}
use Rattle.kernels.proofs.Transfers.{join_columns, moved_rows}
use Rattle.convert.proofs.Halves.{rfp_place_below, packed_place_below, place_from_left}
use Rattle.convert.proofs.half.Half.move_rows.Given.{Over}
use Rattle.convert.proofs.half.Half.move_rows.Goals as goal
use Rattle.convert.proofs.half.Half.move_rows.Goals.{In-loop-j}

-- in a turn the places in the source are those of column j, and those in the target are in the triangle
rows_at : (g : Over) (c : In-loop-j g) (k : ℕ) → k < g.row.N →
    get_or c.rows-rows.result k 0 + (c.loop-j.j - c.args.self.left) ≡ rfp_place c.args.self.route.form c.args.self.route.shape.order (c.args.i + k) c.loop-j.j
rows_at g c k h =
    let self = c.args.self in
    omega (
      arith,
      c.rows-rows.ensures k h,
      place_from_left self.route.form self.route.shape.order self.left self.right self.by_rows c.args.i c.loop-j.j k (omega arith) (omega arith) (omega arith),
    )

inside : (g : Over) (c : In-loop-j g) →
    let n = c.args.self.route.shape.order in
    (c.loop-j.to + g.row.N ≤ triangle n) × (triangle n ≤ 8002000)
inside g c =
    let self = c.args.self in
    let n : ℕ = self.route.shape.order in (
      omega (
        arith,
        packed_place_rows n c.args.i (c.args.i + (g.row.N - 1)) c.loop-j.j (omega arith),
        packed_place_below n (c.args.i + (g.row.N - 1)) c.loop-j.j (omega arith),
      ),
      triangle_le n self.route.order,
    )

pub gather-values-requires : goal.gather-values-requires
gather-values-requires g c =
    let self = c.args.self in (
      omega arith,
      (
        omega arith,
        λ k h.
            omega (
              arith,
              rows_at g (goal.at.gather-values-requires g c).In-loop-j k h,
              rfp_place_below self.route.form self.route.shape.order (c.args.i + k) c.loop-j.j (omega arith),
            ),
      ),
    )

pub store-requires : goal.store-requires
store-requires g c = omega (arith, inside g (goal.at.store-requires g c).In-loop-j)

pub overflow_add-to : goal.overflow_add-to
overflow_add-to g c = omega (arith, inside g (goal.at.overflow_add-to g c).In-loop-j)

pub loop-j-preserved : goal.loop-j-preserved
loop-j-preserved g c =
    let self = c.args.self in
    let n : ℕ = self.route.shape.order in
    let i : ℕ = c.args.i in
    let j : ℕ = c.loop-j.j in (
      omega arith,
      omega (arith, packed_place_next_column n i j (omega arith)),
      rw c.requires.to_packed
          (join_columns (rw c.requires.to_packed at c.loop-j.invariant.2)
          (moved_rows (rfp_place self.route.form n) (packed_place n) (Entry n) (packed_bijection n).apart c.args.source.now c.loop-j.target c.loop-j.to g.row.N
          _ _ c.store.ensures i j (λ k h. omega arith)
          (λ k h. omega (arith, packed_place_rows n i (i + k) j (omega arith)))
          (λ k h. c.gather-values.ensures k h ∙ ap (λ (p : ℕ). get_or c.args.source.now p nan) (rows_at g (goal.at.loop-j-preserved g c).In-loop-j k h)))),
    )
