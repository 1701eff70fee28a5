-- `solve::packed::Packed::backward_triangle` meets its contract. The invariant of its loop: the rows from r on are finished, the others as before. Assumes
-- nothing.
use Rattle.solve.specs.Parts.{packed_entries}
use Rattle.solve.proofs.Triangles.{BackwardRows}
use Rattle.solve.proofs.packed.Packed.backward_triangle.Given as goal

abbrev pub invariant-loop-r : goal.invariant-loop-r
invariant-loop-r l = BackwardRows (packed_entries l.self) l.w l.r l.initial.work l.work
