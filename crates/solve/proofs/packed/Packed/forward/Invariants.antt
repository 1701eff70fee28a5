-- `solve::packed::Packed::forward` meets its contract. The invariant of its loop: the substitution has come to k; column k begins at `at`. Assumes nothing.
use Prim.Native.Nat.{◌≤◌}
use mathlib.Core.Path.{◌≡◌}
use Rattle.shape.specs.Places.{block_start}
use Rattle.solve.specs.Parts.{packed_factor}
use Rattle.solve.proofs.Substitution.{ForwardTo}
use Rattle.solve.proofs.packed.Packed.forward.Given as goal

abbrev pub invariant-loop-k : goal.invariant-loop-k
invariant-loop-k l =
    (l.k ≤ l.n) × (l.at ≡ block_start l.n l.k) × ForwardTo l.n (packed_factor l.self) l.initial.work l.k l.work
