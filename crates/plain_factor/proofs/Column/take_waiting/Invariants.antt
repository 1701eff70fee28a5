-- `plain_factor::Column::take_waiting` meets its contract. The loop's invariant: the rows before i are in place, and nothing above them is changed. Assumes nothing.
use Rattle.plain_factor.specs.Steps.{Reduced, Same}
use Rattle.plain_factor.proofs.Column.take_waiting.Given as goal

abbrev pub invariant-loop-i : goal.invariant-loop-i
invariant-loop-i l =
    record {
      rows : Reduced l.self.n l.self.matrix.now l.self.j l.self.j l.top l.i l.work;
      front : Same 0 l.top l.fn.work l.work;
    }
