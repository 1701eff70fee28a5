-- `solve::runs::ColumnRun::forward_tile` meets its contract. The invariant of its loop: the first s rows are stored. Assumes nothing.
use native.Mathlib.Omega.{arith}
use mathlib.Core.Path.{◌≡◌}
use Rattle.solve.proofs.RunTurns.{run_rows, tile_rows}
use Rattle.solve.proofs.runs.ColumnRun.forward_tile.Goals as goal

pub reduce_run-less-requires : goal.reduce_run-less-requires
reduce_run-less-requires g c =
    let run = c.args.self.now in
    let rows = run_rows run c.numbers.result c.args.r g.row.ROWS c.numbers.ensures (omega arith) c.requires.tile.0 c.requires.tile.1 in
    (omega (arith, run.memory.order), (omega arith, (omega (arith, c.numbers.ensures.columns, c.requires.work_rows), rows)))

pub returns : goal.returns
returns g c =
    let a = c.args in
    let end : c.loop-s.s ≡ a.len = omega arith in
    tile_rows a.self.now c.numbers.result c.numbers.ensures a.r g.row.ROWS a.len a.work.now c.load_tile-tile.result
    c.reduce_run-less.result _ (omega arith) c.load_tile-tile.ensures c.reduce_run-less.ensures (rw end at c.loop-s.invariant.1)
