-- `variance::rules::check_blocks_from` meets its contract. The invariant of its loop: the rows before i pass, and row i has its entry in column k at `from`.
-- Assumes nothing.
use Rattle.variance.proofs.ColumnParts.{RowsPassed}
use Rattle.variance.proofs.rules.check_blocks_from.Given as goal

abbrev pub invariant-loop-i : goal.invariant-loop-i
invariant-loop-i l = RowsPassed l.shape.order l.shape.block l.k l.matrix l.i l.from
