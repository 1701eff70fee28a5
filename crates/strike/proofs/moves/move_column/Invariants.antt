-- `strike::moves::move_column` meets its contract. The loop's invariant: the values of the rows of the chunks before are moved, and `to` is where the next one
-- goes. Assumes nothing.
use Prim.Native.Nat.{◌+◌, ◌*◌}
use mathlib.Core.Path.{◌≡◌}
use lib.Ieee.{nan}
use Rattle.kernels.specs.Kernels.{Filled}
use Rattle.strike.specs.Rows.{rows_at}
use Rattle.strike.proofs.moves.move_column.Given as goal

abbrev pub invariant-loop-chunk : goal.invariant-loop-chunk
invariant-loop-chunk l =
    (l.to ≡ l.initial.to + 16 * l.chunk-index) × Filled nan l.initial.to (16 * l.chunk-index) (rows_at l.initial.m l.rows l.base) l.initial.m l.m
