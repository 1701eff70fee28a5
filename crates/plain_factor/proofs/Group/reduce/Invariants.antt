-- `plain_factor::Group::reduce` meets its contract. The loops' invariants: the rows before i are reduced, and in the second whole tiles are left. Assumes
-- nothing.
use Prim.Native.Nat.{◌-◌, ◌%◌, ◌≤◌}
use mathlib.Core.Path.{◌≡◌}
use Rattle.std.specs.Prelude.{max}
use Rattle.plain_factor.specs.Steps.{Same, GroupReduced}
use Rattle.plain_factor.proofs.Group.reduce.Given as goal

abbrev pub invariant-loop-i : goal.invariant-loop-i
invariant-loop-i l =
    record {
      high : l.i ≤ max l.j l.first;
      above : Same 0 l.j l.fn.work l.work;
      rows : GroupReduced l.self.n l.self.matrix.now l.j l.self.k l.self.count l.i l.fn.work l.work;
    }

abbrev pub invariant-loop-i-2 : goal.invariant-loop-i-2
invariant-loop-i-2 l =
    record {
      low : l.first ≤ l.i;
      high : l.i ≤ l.to;
      tiles : (l.to - l.i) % 16 ≡ 0;
      rows : GroupReduced l.self.n l.self.matrix.now l.j l.self.k l.self.count l.i l.fn.work l.work;
    }
