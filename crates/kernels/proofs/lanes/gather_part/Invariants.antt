-- `kernels::lanes::gather_part` meets its contract. The invariant of its loop: the first s values are taken. Assumes nothing.
use Prim.Native.Nat.{ℕ, ◌+◌, ◌≤◌, ◌<◌}
use mathlib.Core.Path.{◌≡◌}
use lib.ListN.{length, get_or}
use lib.Ieee.{nan}
use Rattle.kernels.proofs.lanes.gather_part.Given as goal

abbrev pub invariant-loop-s : goal.invariant-loop-s
invariant-loop-s g l =
    (l.s ≤ l.count) × (length l.values ≡ g.row.N) × ((q : ℕ) → q < l.s → get_or l.values q nan ≡ get_or l.x (get_or l.at q 0 + l.k) nan)
