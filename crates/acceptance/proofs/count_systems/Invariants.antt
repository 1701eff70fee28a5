-- The first t systems are counted.
use Prim.Native.Nat.{◌≤◌}
use mathlib.Core.Path.{◌≡◌}
use Rattle.acceptance.specs.Promises.{counts_to}
use Rattle.acceptance.proofs.count_systems.Given as goal

abbrev pub invariant-loop-t : goal.invariant-loop-t
invariant-loop-t l = (l.t ≤ l.count) × (l.counts ≡ counts_to l.run l.n l.t)
