-- `strike::keep` meets its contract. The loop's invariant: q unknowns of the list are below u, and the others below u stand in front. The measure is the number
-- of unknowns left. Assumes nothing.
use Prim.Native.Nat.{◌-◌, ◌≤◌}
use mathlib.Core.Path.{◌≡◌}
use lib.ListN.{length, take}
use Rattle.calls.specs.Strikes.{kept}
use Rattle.strike.proofs.Strikes.{Between}
use Rattle.strike.proofs.keep.Given as goal

abbrev pub invariant-loop-u : goal.invariant-loop-u
invariant-loop-u l =
    (l.u-counter ≤ l.n) × (length l.memory ≡ length l.initial.memory) × Between l.list l.n l.q l.u-counter
    × (take (l.u-counter - l.q) l.memory ≡ kept l.list l.u-counter)
