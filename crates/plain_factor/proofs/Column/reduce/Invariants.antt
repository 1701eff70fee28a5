-- `plain_factor::Column::reduce` meets its contract. The loop's invariant: the rows are reduced by k columns. Assumes nothing.
use Prim.Native.Nat.{◌-◌, ◌≤◌}
use Rattle.plain_factor.specs.Steps.{Reduced, Same}
use Rattle.plain_factor.proofs.Column.reduce.Given as goal

abbrev pub invariant-loop-k : goal.invariant-loop-k
invariant-loop-k l =
    record {
      high : l.k ≤ l.self.j;
      rows : Reduced l.self.n l.self.matrix.now l.self.j l.k l.self.j l.to l.work;
      before : Same 0 (l.self.j - 15) l.fn.work l.work;
      after : Same l.to l.self.n l.fn.work l.work;
    }
