-- `solve::runs::ColumnRun::backward_rows` meets its contract. Assumes nothing.
use native.Mathlib.Omega.{arith}
use Rattle.solve.specs.Parts.{blocked_entries}
use Rattle.solve.proofs.RunTurns.{run_le, tile_columns}
use Rattle.solve.proofs.runs.ColumnRun.backward_rows.Goals as goal

pub load_part-tile-requires : goal.load_part-tile-requires
load_part-tile-requires c = omega (arith, run_le c.args.self.now)

pub store_part-requires : goal.store_part-requires
store_part-requires c = omega (arith, run_le c.args.self.now)

pub returns : goal.returns
returns c =
    let run = c.args.self.now in
    tile_columns (blocked_entries run.memory) run.memory.shape.order run.w c.args.work.now c.load_part-tile.result c.columns-less.result _
    c.load_part-tile.ensures c.columns-less.ensures c.store_part.ensures
