-- `solve::block_column::BlockColumn::forward_rows8` meets its contract: eight rows are gathered, reduced and scattered. Assumes nothing.
use Prim.Native.Nat.{ℕ, ◌+◌, ◌*◌, ◌≤◌, ◌<◌}
use native.Mathlib.Nat.{add-zero}
use native.Mathlib.Omega.{arith}
use mathlib.Core.Path.{◌≡◌, ◌∙◌}
use lib.ListN.{get_or, length-take}
use Rattle.solve.specs.declared.block_column.BlockColumn.{BlockColumn}
use Rattle.solve.proofs.BlockPlaces.{row_place, room_under, values_le}
use Rattle.solve.proofs.Apart.{apart_inside, step_le, place_apart8, apart8_done}
use Rattle.solve.proofs.block_column.BlockColumn.forward_rows8.Goals as goal

-- the bounds of the eight places
bounds :
    (block : BlockColumn) (q t from : ℕ) → t < q → block.w + 8 * q ≤ block.h → from ≡ row_place block (block.w + t) →
    (from ≤ 8002000) × (q * (block.skip + block.w) ≤ 8002000)
bounds block q t from less fits start =
    let most = values_le block in (
      omega (arith, most, start, room_under block (block.w + t) (omega arith) (omega arith)),
      omega (arith, most, step_le block q (omega arith)),
    )

pub apart-places-requires : goal.apart-places-requires
apart-places-requires c =
    let a = c.args in
    let inside = bounds a.self.now a.q a.t c.place-from.result (omega arith) (omega arith) (rw (add-zero a.self.now.skip) at c.place-from.ensures) in
    (omega arith, (inside.0, inside.1, omega arith))

pub subtract_rising-values-requires : goal.subtract_rising-values-requires
subtract_rising-values-requires c =
    let a = c.args in
    let from = rw (add-zero a.self.now.skip) at c.place-from.ensures in (
      omega arith,
      (
        omega arith,
        λ s few.
            let inside = apart_inside a.q s a.t few c.requires.t_lt_q.0 in
            simp length-take (omega (
              arith,
              c.apart-places.ensures s few ∙ place_apart8 a.self.now a.q a.t s _ from,
              inside,
              room_under a.self.now (a.self.now.w + a.t + s * a.q) (omega arith) (omega (arith, inside)),
            )),
      ),
    )

pub returns : goal.returns
returns c =
    let a = c.args in
    let from = rw (add-zero a.self.now.skip) at c.place-from.ensures in
    apart8_done a.self.now a.q a.t a.work.now c.gather.result c.subtract_rising-values.result _
    (λ (s : ℕ). get_or c.apart-places.result s 0)
    (λ (s : ℕ). get_or c.apart-rows.result s 0) (omega arith) c.apart-rows.ensures c.gather.ensures
    (λ s few. c.apart-places.ensures s few ∙ place_apart8 a.self.now a.q a.t s _ from) c.subtract_rising-values.ensures
    c.scatter.ensures
