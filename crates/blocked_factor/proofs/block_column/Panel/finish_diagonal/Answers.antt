-- `blocked_factor::block_column::Panel::finish_diagonal` meets its contract. Assumes nothing.
use native.Mathlib.Omega.{arith}
use mathlib.Core.Path.{ap, ◌∙◌}
use Rattle.calls.specs.Outcomes.{judgement_of}
use Rattle.blocked_factor.proofs.BlockRows.{row_inside}
use Rattle.blocked_factor.proofs.Finishing.{diagonal_finished}
use Rattle.calls.specs.Outcomes.{judgement_of}
use Rattle.blocked_factor.proofs.BlockRows.{row_mono}
use lib.ListN.{get_or}
use lib.Ieee.{nan}
use Prim.Native.Nat.{◌+◌}
use Rattle.blocked_factor.proofs.block_column.Panel.finish_diagonal.Goals as goal

-- the diagonal lies in both memories
pub offset_bounds-part-d : goal.offset_bounds-part-d
offset_bounds-part-d c =
    omega (arith, c.place-d.ensures, row_inside _ _ c.args.s _ c.args.s c.requires.room.0 (omega arith) (omega arith) c.requires.in_panel.1)

pub slice_reshared_read-minus_products : goal.slice_reshared_read-minus_products
slice_reshared_read-minus_products c =
    omega (arith, c.place-d.ensures, row_inside _ _ c.args.s _ c.args.s c.requires.room.0 (omega arith) (omega arith) c.requires.in_panel.1)

pub minus_products-value-requires : goal.minus_products-value-requires
minus_products-value-requires c =
    omega (arith, c.place-y.ensures, row_inside _ _ c.args.s _ c.args.s c.requires.room.0 (omega arith) (omega arith) c.requires.in_panel.1)

pub offset_bounds-part-d-2 : goal.offset_bounds-part-d-2
offset_bounds-part-d-2 c =
    omega (arith, c.place-d.ensures, row_inside _ _ c.args.s _ c.args.s c.requires.room.0 (omega arith) (omega arith) c.requires.in_panel.1)

pub bounds-part-d : goal.bounds-part-d
bounds-part-d c =
    omega (arith, c.place-d.ensures, row_inside _ _ c.args.s _ c.args.s c.requires.room.0 (omega arith) (omega arith) c.requires.in_panel.1)

pub offset_bounds-saved-d : goal.offset_bounds-saved-d
offset_bounds-saved-d c =
    omega (arith, c.place-d.ensures, row_inside _ _ c.args.s _ c.args.s c.requires.room.1 (omega arith) (omega arith) c.requires.in_panel.1)

pub bounds-saved-d : goal.bounds-saved-d
bounds-saved-d c =
    omega (arith, c.place-d.ensures, row_inside _ _ c.args.s _ c.args.s c.requires.room.1 (omega arith) (omega arith) c.requires.in_panel.1)

pub returns : goal.returns
returns c =
    let a = c.args in
    let column = a.self.column in
    rw (c.place-d.ensures, c.diagonal_of.ensures)
    (diagonal_finished column.first column.width a.self.s0 a.s a.saved.now (judgement_of a.before) (judgement_of c.joined.result) a.part.now c.requires.in_panel.0
    c.requires.in_panel.1 (omega (arith, c.requires.room.0, row_mono column.width (a.s + 1) column.rows (omega (arith, c.requires.in_panel.1)))) _
    c.minus_products-value.result c.judge-pivot.result
    (ap (λ p. get_or a.saved.now p nan) c.place-d.ensures) (rw (c.place-y.ensures, c.place-d.ensures) at c.minus_products-value.ensures)
    c.judge-pivot.ensures
    (λ rules exact k before column. c.joined.ensures rules exact k before (c.judge_column.ensures ∙ column)))
