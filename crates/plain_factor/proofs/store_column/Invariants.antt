-- `plain_factor::store_column` meets its contract. The loop's invariant: the rows before i are written. Assumes nothing.
use mathlib.Core.Path.{◌≡◌}
use Rattle.plain_factor.proofs.Columns.{rows_stored}
use Rattle.plain_factor.proofs.store_column.Given as goal

abbrev pub invariant-loop-i : goal.invariant-loop-i
invariant-loop-i l = l.matrix ≡ rows_stored l.n l.j l.work l.fn.matrix l.i
