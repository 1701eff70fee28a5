-- `blocked_factor::block_column::BlockColumn::column_finite` meets its contract. Assumes nothing.
use native.Mathlib.Omega.{arith}
use mathlib.Core.Path.{ap₂, ◌∙◌}
use mathlib.Core.Bool.{◌&&◌}
use Rattle.blocked_factor.proofs.BlockRows.{row_inside}
use Rattle.blocked_factor.proofs.BlockVerdicts.{column_none, column_next}
use Rattle.blocked_factor.proofs.block_column.BlockColumn.column_finite.Goals as goal

pub loop-r-init : goal.loop-r-init
loop-r-init c = column_none c.args.self.width c.args.s c.args.part.now

pub offset_bounds-part-place : goal.offset_bounds-part-place
offset_bounds-part-place c =
    omega (arith, c.place.ensures, row_inside _ _ c.loop-r.r _ c.args.s c.requires.1 c.loop-r-test.true (omega arith) c.requires.0)

pub bounds-part-place : goal.bounds-part-place
bounds-part-place c =
    omega (arith, c.place.ensures, row_inside _ _ c.loop-r.r _ c.args.s c.requires.1 c.loop-r-test.true (omega arith) c.requires.0)

pub loop-r-preserved : goal.loop-r-preserved
loop-r-preserved c =
    let a = c.args in
    ap₂ ◌&&◌ c.loop-r.invariant (rw c.place.ensures at c.is_finite-finite.ensures) ∙ column_next a.self.width c.loop-r.r a.s a.part.now (omega arith)
