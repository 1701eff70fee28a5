-- `plain_factor::Column::reduce_pair` meets its contract. The loop's invariant: the rows of both are reduced by k columns. Assumes nothing.
use Prim.Native.Nat.{◌+◌, ◌-◌, ◌≤◌}
use Rattle.plain_factor.specs.Steps.{Reduced, Waiting, Same}
use Rattle.plain_factor.proofs.Column.reduce_pair.Given as goal

abbrev pub invariant-loop-k : goal.invariant-loop-k
invariant-loop-k l =
    record {
      high : l.k ≤ l.self.j;
      rows : Reduced l.self.n l.self.matrix.now l.self.j l.k l.top l.self.n l.work;
      waiting : Waiting l.self.n l.self.matrix.now (l.self.j + 1) l.k l.top l.work;
      between : Same (l.self.n - l.top) l.top l.fn.work l.work;
    }
