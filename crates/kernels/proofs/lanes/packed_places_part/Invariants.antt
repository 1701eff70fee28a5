-- `kernels::lanes::packed_places_part` meets its contract. The invariant of its loop: the first k places are stored. Assumes nothing.
use Prim.Native.Nat.{ℕ, ◌+◌, ◌≤◌, ◌<◌}
use mathlib.Core.Path.{◌≡◌}
use lib.ListN.{length, get_or}
use Rattle.shape.specs.Places.{packed_place}
use Rattle.kernels.proofs.lanes.packed_places_part.Given as goal

abbrev pub invariant-loop-k : goal.invariant-loop-k
invariant-loop-k g l =
    (l.k ≤ l.count) × (length l.places ≡ g.row.N) × ((q : ℕ) → q < l.k → get_or l.places q 0 ≡ packed_place l.shape.order l.r (l.s + q))
