-- `solve::block_column::BlockColumn::forward_rows` meets its contract. The invariant of its loop: the first t rows of each eighth are done. Assumes nothing.
use Prim.Native.Nat.{◌-◌, ◌/◌, ◌≤◌}
use Rattle.solve.specs.Parts.{block_entries}
use Rattle.solve.proofs.Apart.{EighthsDone}
use Rattle.solve.proofs.block_column.BlockColumn.forward_rows.Given as goal

abbrev pub invariant-loop-t : goal.invariant-loop-t
invariant-loop-t l =
    (l.t ≤ (l.self.h - l.self.w) / 8) × EighthsDone (block_entries l.self) l.self.w ((l.self.h - l.self.w) / 8) l.t l.initial.work l.work
