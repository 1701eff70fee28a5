-- `kernels::lanes::apart` meets its contract. The invariant of its loop: the first s positions are stored. Assumes nothing.
use Prim.Native.Nat.{ℕ, ◌+◌, ◌*◌, ◌≤◌, ◌<◌}
use mathlib.Core.Path.{◌≡◌}
use lib.ListN.{length, get_or}
use Rattle.kernels.proofs.lanes.apart.Given as goal

abbrev pub invariant-loop-s : goal.invariant-loop-s
invariant-loop-s g l =
    (l.s ≤ g.row.N) × (length l.places ≡ g.row.N) × ((q : ℕ) → q < l.s → get_or l.places q 0 ≡ l.from + q * l.step)
