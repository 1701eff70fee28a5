-- `kernels::lanes::load_part` meets its contract. The invariant of its loop: of the first s values those before count are taken. Assumes nothing.
use Prim.Native.Nat.{ℕ, ◌+◌, ◌≤◌, ◌<◌}
use mathlib.Core.Path.{◌≡◌}
use lib.ListN.{length, get_or}
use lib.Ieee.{nan}
use Rattle.kernels.proofs.lanes.load_part.Given as goal

abbrev pub invariant-loop-s : goal.invariant-loop-s
invariant-loop-s g l =
    (l.s ≤ g.row.N) × (length l.values ≡ g.row.N) × ((q : ℕ) → q < l.s → q < l.count → get_or l.values q nan ≡ get_or l.v (l.at + q) nan)
