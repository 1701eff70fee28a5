-- `strike::move_columns` meets its contract. The loop's invariant: the columns before c stand where they go, the others where they stood, and `to` is where column
-- c goes. The measure is the number of columns left. Assumes nothing.
use Prim.Native.Nat.{◌≤◌}
use mathlib.Core.Path.{◌≡◌}
use lib.ListN.{length}
use Rattle.shape.specs.Places.{block_start}
use Rattle.strike.proofs.Columns.{ColumnsMoved}
use Rattle.strike.proofs.move_columns.Given as goal

abbrev pub invariant-loop-c : goal.invariant-loop-c
invariant-loop-c l =
    (l.c ≤ length l.unknowns) × (l.to ≡ block_start (length l.unknowns) l.c) × (length l.matrix ≡ length l.initial.matrix) × ColumnsMoved l.shape.order l.unknowns l.initial.matrix l.c l.matrix
