-- `blocked_factor::runs::RunPanel::update` meets its contract. Assumes nothing.
use native.Mathlib.Omega.{arith}
use mathlib.Core.Path.{◌≡◌}
use Prim.Native.Nat.{ℕ, ◌+◌, ◌-◌, ◌%◌, ◌≤◌}
use native.Mathlib.Nat.{mod-le}
use Rattle.blocked_factor.specs.BlockColumns.{row_start}
use Rattle.blocked_factor.specs.Runs.{lanes_of, rows_of}
use native.Mathlib.Decide.{dec_lt}
use Prim.Native.Nat.{◌<◌}
use Rattle.blocked_factor.proofs.RunPanels.{tiles_first, tiles_next, tiles_last, tile_rows, single_row, rows_room, row_high, rows_updated}
use Rattle.blocked_factor.proofs.runs.RunPanel.update.Goals.{else-loop-r-2-test, then-loop-r-2-test+else-tile-whole}
use Rattle.blocked_factor.proofs.runs.RunPanel.update.Goals as goal

-- where a tile begins, all its rows are left
tile_fits : {rows whole r tile size : ℕ} → whole ≤ rows → (whole - r) % tile ≡ 0 → r < whole → tile ≡ size → r + size ≤ rows
tile_fits {rows} {whole} {r} {tile} inside multiple more e =
    elim (dec_lt (whole - r) tile) [
      | yes p ↦ absurd (omega (arith, tiles_last (whole - r) tile (omega arith) (omega arith) multiple))
      | no p ↦ omega arith
    ]

pub overflow_add-left-in-loop-r : goal.overflow_add-left-in-loop-r
overflow_add-left-in-loop-r c =
    omega (arith, c.row.ensures, row_high c.requires.run_before c.loop-r.r c.args.self.now.panel.s0 (omega arith), c.well_formed)

pub update_row-requires-clause-in_bounds : goal.update_row-requires-clause-in_bounds
update_row-requires-clause-in_bounds c =
    let panel = c.args.self.now.panel in
    let room = rows_room c.requires.run_before (single_row panel.column.width panel.s0 panel.g c.loop-r.r 0 c.columns_in-len.result c.columns_in-len.ensures)
    panel.wide (omega arith) (omega arith) 0 (omega arith)
    in
    omega (arith, room, c.row.ensures, c.loop-r.invariant.kept, c.columns_in-len.ensures)

pub loop-r-preserved : goal.loop-r-preserved
loop-r-preserved c =
    let panel = c.args.self.now.panel in
    let column = panel.column in
    let place : column.start + panel.s0 + c.row.result ≡ column.start + row_start column.width c.loop-r.r + panel.s0 = omega (arith, c.row.ensures) in
    rows_updated c.args.self.now.lanes.now (lanes_of panel.g) c.requires.run_before panel.wide c.requires.run_packed c.loop-r.r 1 column.width
    c.columns_in-len.result (omega arith) (omega arith) c.loop-r.invariant
    (single_row column.width panel.s0 panel.g c.loop-r.r column.width c.columns_in-len.result c.columns_in-len.ensures)
    (rw place at c.update_row.ensures)

pub loop-r-2-init : goal.loop-r-2-init
loop-r-2-init c =
    let column = c.args.self.now.panel.column in
    let tile = c.rows_of-tile.result in
    let e : c.loop-r.r ≡ column.width = omega arith in
    let whole : column.rows - (column.rows - column.width) % tile - column.width ≡ column.rows - column.width - (column.rows - column.width) % tile =
    omega arith
    in (
      omega arith,
      omega (arith, mod-le (column.rows - column.width) tile),
      rw whole (tiles_first (column.rows - column.width) tile),
      rw e at c.loop-r.invariant,
    )

pub overflow_add-left-in-loop-r-2 : goal.overflow_add-left-in-loop-r-2
overflow_add-left-in-loop-r-2 c =
    omega (arith, c.row-in-loop-r-2.ensures, row_high c.requires.run_before c.loop-r-2.r c.args.self.now.panel.s0 (omega arith), c.well_formed)

-- a whole tile is left
pub update_whole_tile-requires-clause-by_index : goal.update_whole_tile-requires-clause-by_index
update_whole_tile-requires-clause-by_index c =
    let panel = c.args.self.now.panel in
    let column = panel.column in
    let place : column.start + panel.s0 + c.row-in-loop-r-2.result ≡ column.start + row_start column.width c.loop-r-2.r + panel.s0 =
    omega (arith, c.row-in-loop-r-2.ensures)
    in
    rw (place, c.loop-r-2.invariant.3.kept)
    (rows_room c.requires.run_before (tile_rows column.width panel.s0 panel.g c.loop-r-2.r (rows_of panel.g) panel.wide c.loop-r-2.invariant.0) panel.wide
    (omega (arith, panel.wide)) (tile_fits (omega arith) c.loop-r-2.invariant.2 c.loop-r-2-test.true c.rows_of-tile.ensures))

pub loop-r-2-preserved : goal.loop-r-2-preserved
loop-r-2-preserved c =
    let panel = c.args.self.now.panel in
    let column = panel.column in
    let tile : c.rows_of-tile.result ≡ rows_of panel.g = c.rows_of-tile.ensures in
    let fit : c.loop-r-2.r + rows_of panel.g ≤ column.rows = tile_fits (omega arith) c.loop-r-2.invariant.2 c.loop-r-2-test.true c.rows_of-tile.ensures in
    let place : column.start + panel.s0 + c.row-in-loop-r-2.result ≡ column.start + row_start column.width c.loop-r-2.r + panel.s0 =
    omega (arith, c.row-in-loop-r-2.ensures)
    in
    let low : panel.s0 ≤ c.loop-r-2.r = omega (arith, panel.wide) in
    let whole : ℕ = column.rows - (column.rows - column.width) % c.rows_of-tile.result in
    let next : whole - (c.loop-r-2.r + c.rows_of-tile.result) ≡ whole - c.loop-r-2.r - c.rows_of-tile.result = omega arith in (
      omega arith,
      omega arith,
      rw next (tiles_next (whole - c.loop-r-2.r) c.rows_of-tile.result (omega arith) c.loop-r-2.invariant.2),
      rw tile
          (rows_updated c.args.self.now.lanes.now (lanes_of panel.g) c.requires.run_before panel.wide c.requires.run_packed c.loop-r-2.r (rows_of panel.g) column.width
          panel.g low fit c.loop-r-2.invariant.3
          (tile_rows column.width panel.s0 panel.g c.loop-r-2.r (rows_of panel.g) panel.wide c.loop-r-2.invariant.0)
          (rw place at c.update_whole_tile.ensures)),
    )

-- where the whole tiles end
pub loop-r-3-init : goal.loop-r-3-init
loop-r-3-init c =
    let panel = c.args.self.now.panel in
    let column = panel.column in
    let low : panel.s0 ≤ c.loop-r-2.r = omega (arith, panel.wide) in
    let whole : ℕ = column.rows - (column.rows - column.width) % c.rows_of-tile.result in
    elim c.loop-r-2-test.branch [
      | else-loop-r-2-test w ↦
          let e : c.loop-r-2.r ≡ whole = omega arith in
          rw (w.m-is, ← e) c.loop-r-2.invariant.3
      | then-loop-r-2-test+else-tile-whole w ↦
          let tile : c.rows_of-tile.result ≡ rows_of panel.g = c.rows_of-tile.ensures in
          let fit : c.loop-r-2.r + rows_of panel.g ≤ column.rows = tile_fits (omega arith) c.loop-r-2.invariant.2 w.loop-r-2-test.true c.rows_of-tile.ensures in
          let place : column.start + panel.s0 + w.row-in-loop-r-2.result ≡ column.start + row_start column.width c.loop-r-2.r + panel.s0 =
          omega (arith, w.row-in-loop-r-2.ensures)
          in
          let last : whole - c.loop-r-2.r ≡ c.rows_of-tile.result =
          tiles_last (whole - c.loop-r-2.r) c.rows_of-tile.result (omega arith) (omega arith) c.loop-r-2.invariant.2
          in
          let e : c.loop-r-2.r + rows_of panel.g ≡ whole = omega arith in
          rw (w.m-is, ← e)
          (rows_updated c.args.self.now.lanes.now (lanes_of panel.g) c.requires.run_before panel.wide c.requires.run_packed c.loop-r-2.r (rows_of panel.g) column.width
          panel.g low fit c.loop-r-2.invariant.3
          (tile_rows column.width panel.s0 panel.g c.loop-r-2.r (rows_of panel.g) panel.wide c.loop-r-2.invariant.0)
          (rw place at w.update_whole_tile.ensures))
    ]

pub overflow_add-left-in-loop-r-3 : goal.overflow_add-left-in-loop-r-3
overflow_add-left-in-loop-r-3 c =
    omega (arith, c.row-in-loop-r-3.ensures, row_high c.requires.run_before c.loop-r-3.r c.args.self.now.panel.s0 (omega arith), c.well_formed)

pub update_row-requires-in-loop-r-3-clause-in_bounds : goal.update_row-requires-in-loop-r-3-clause-in_bounds
update_row-requires-in-loop-r-3-clause-in_bounds c =
    let panel = c.args.self.now.panel in
    let column = panel.column in
    let room = rows_room c.requires.run_before (single_row column.width panel.s0 panel.g c.loop-r-3.r 0 panel.g (omega (arith, panel.wide)))
    panel.wide (omega (arith, panel.wide)) (omega arith) 0 (omega arith)
    in
    omega (arith, room, c.row-in-loop-r-3.ensures, c.loop-r-3.invariant.kept)

pub loop-r-3-preserved : goal.loop-r-3-preserved
loop-r-3-preserved c =
    let panel = c.args.self.now.panel in
    let column = panel.column in
    let place : column.start + panel.s0 + c.row-in-loop-r-3.result ≡ column.start + row_start column.width c.loop-r-3.r + panel.s0 =
    omega (arith, c.row-in-loop-r-3.ensures)
    in
    rows_updated c.args.self.now.lanes.now (lanes_of panel.g) c.requires.run_before panel.wide c.requires.run_packed c.loop-r-3.r 1 column.width
    panel.g (omega (arith, panel.wide)) (omega arith) c.loop-r-3.invariant
    (single_row column.width panel.s0 panel.g c.loop-r-3.r column.width panel.g (omega (arith, panel.wide)))
    (rw place at c.update_row-in-loop-r-3.ensures)

pub returns : goal.returns
returns c =
    let e : c.loop-r-3.r ≡ c.args.self.now.panel.column.rows = omega arith in
    rw e at c.loop-r-3.invariant
