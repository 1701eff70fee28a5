-- `blocked_factor::block_column::Panel::divide_rows` meets its contract. Assumes nothing.
use native.Mathlib.Omega.{arith}
use Prim.Native.Nat.{◌-◌, ◌<◌, ◌≤◌, ℕ, ◌+◌}
use mathlib.Core.Path.{◌≡◌}
use mathlib.Core.List.{List}
use lib.ListN.{get_or}
use Rattle.blocked_factor.specs.BlockColumns.{row_start}
use Rattle.blocked_factor.proofs.BlockRows.{row_inside, row_mono}
use Rattle.blocked_factor.proofs.Finishing.{rows_inside, rows_apart, rows_divided}
use Rattle.blocked_factor.proofs.block_column.Panel.divide_rows.Goals as goal

-- the rows' entries lie in the memory
within :
    {w h s0 s r n len : ℕ} (at : List ℕ) → (s0 ≤ s) × (s < w) × (s < r) × (r + n ≤ h) × (row_start w h ≤ len) →
    ((k : ℕ) → k < n → get_or at k 0 ≡ row_start w (r + k) + s0) → (k : ℕ) → k < n → get_or at k 0 + (s - s0) < len
within {w} {h} {s0} {s} {r} {n} at pre places k few =
    omega (arith, pre, row_mono w (r + n) h pre.3, rows_inside w s0 s r n pre.0 pre.1 pre.2 (λ (q : ℕ). get_or at q 0) places k few)

-- and so does the diagonal
diagonal : {w h s len : ℕ} → s < w → s < h → row_start w h ≤ len → row_start w s + s < len
diagonal {w} {h} {s} narrow inside room = row_inside w _ s h s room inside (omega arith) narrow

pub offset_bounds-part-d : goal.offset_bounds-part-d
offset_bounds-part-d g c = omega (arith, c.place-d.ensures, diagonal c.requires.in_panel.1 (omega arith) c.requires.in_panel.4)

pub slice_reshared_read-quotients : goal.slice_reshared_read-quotients
slice_reshared_read-quotients g c = omega (arith, c.place-d.ensures, diagonal c.requires.in_panel.1 (omega arith) c.requires.in_panel.4)

pub quotients-quotients-requires : goal.quotients-quotients-requires
quotients-quotients-requires g c = (
  omega arith,
  (omega arith, (omega (arith, c.place-y.ensures, diagonal c.requires.in_panel.1 (omega arith) c.requires.in_panel.4), within c.args.at c.requires.in_panel c.requires.by_index)),
)

pub scatter-requires : goal.scatter-requires
scatter-requires g c =
    let a = c.args in
    let pre = c.requires.in_panel in (
      omega arith,
      (
        omega arith,
        (
          within a.at pre c.requires.by_index,
          rows_apart a.self.now.column.width a.self.now.s0 a.s a.r g.row.N pre.0 pre.1 pre.2 (λ (q : ℕ). get_or a.at q 0) c.requires.by_index,
        ),
      ),
    )

pub returns : goal.returns
returns g c =
    let a = c.args in
    let pre = c.requires.in_panel in
    rows_divided a.self.now.column.width a.self.now.s0 a.s a.r g.row.N pre.0 pre.1 pre.2 (λ (q : ℕ). get_or a.at q 0) c.requires.by_index a.part.now _
    c.quotients-quotients.result
    (rw (c.place-y.ensures, c.place-d.ensures) at c.quotients-quotients.ensures.1) c.scatter.ensures
