-- `solve::block_column::BlockColumn::backward_rows` meets its contract. The invariant of its loop: the products of the last `done` rows are subtracted.
-- Assumes nothing.
use Prim.Native.Nat.{◌-◌, ◌≤◌}
use Rattle.solve.specs.Parts.{block_entries}
use Rattle.solve.specs.Substitution.{ColumnsSubtracted}
use Rattle.solve.proofs.block_column.BlockColumn.backward_rows.Given as goal

abbrev pub invariant-loop-done : goal.invariant-loop-done
invariant-loop-done l =
    (l.done ≤ l.self.h - l.self.w) × ColumnsSubtracted (block_entries l.self) l.self.h l.done 0 l.self.w l.initial.work l.work

abbrev pub decreases-loop-done : goal.decreases-loop-done
decreases-loop-done l = l.self.h - l.done
