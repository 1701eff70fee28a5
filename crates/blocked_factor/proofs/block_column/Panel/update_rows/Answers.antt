-- `blocked_factor::block_column::Panel::update_rows` meets its contract. Assumes nothing.
use native.Mathlib.Omega.{arith}
use mathlib.Core.Path.{◌≡◌}
use Rattle.blocked_factor.proofs.Panels.{lanes_kept, panel_next}
use Rattle.blocked_factor.proofs.block_column.Panel.update_rows.Goals as goal

pub update_row-requires-clause-packed : goal.update_row-requires-clause-packed
update_row-requires-clause-packed c =
    λ panel is.
    let ready = c.requires.packed panel is in (
      ready.0,
      lanes_kept (record { wide = c.args.self.wide; tall = c.args.self.column.tall; room = c.requires.room }) c.loop-r.r (omega arith) (omega arith) c.loop-r.invariant _ ready.1,
    )

pub loop-r-preserved : goal.loop-r-preserved
loop-r-preserved c =
    panel_next (record { wide = c.args.self.wide; tall = c.args.self.column.tall; room = c.requires.room }) c.loop-r.r (omega arith) (omega arith)
    c.loop-r.invariant c.update_row.ensures

pub returns : goal.returns
returns c =
    let e : c.loop-r.r ≡ c.args.self.column.rows = omega arith in
    rw e at c.loop-r.invariant
