-- `plain_factor::Group::reduce_pair` meets its contract. The loop's invariant: the rows before i are reduced, and whole tiles are left. Assumes nothing.
use Prim.Native.Nat.{◌-◌, ◌%◌, ◌≤◌}
use mathlib.Core.Path.{◌≡◌}
use Rattle.plain_factor.specs.Steps.{PairReduced}
use Rattle.plain_factor.proofs.Group.reduce_pair.Given as goal

abbrev pub invariant-loop-i : goal.invariant-loop-i
invariant-loop-i l =
    record {
      low : l.top ≤ l.i;
      high : l.i ≤ l.self.n;
      tiles : (l.self.n - l.i) % 16 ≡ 0;
      rows : PairReduced l.self.n l.self.matrix.now l.j l.self.k l.self.count l.top (l.i - l.top) l.fn.work l.work;
    }
