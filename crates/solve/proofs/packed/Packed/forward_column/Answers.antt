-- `solve::packed::Packed::forward_column` meets its contract: the first row is finished, and its products are subtracted from the others. Assumes nothing.
use mathlib.Core.Path.{refl}
use Rattle.solve.proofs.PackedTurns.{column_done}
use Rattle.solve.proofs.packed.Packed.forward_column.Goals as goal

pub returns : goal.returns
returns c =
    let a = c.args in
    column_done a.column.now a.work.now c.subtract_multiple.new.v _ c.requires.work_nonzero c.requires.column_len refl c.subtract_multiple.ensures
