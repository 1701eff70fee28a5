-- `kernels::lanes::step` meets its contract. The invariant of its loop: the first s values are reduced, and the others as they were. Assumes nothing.
use Prim.Native.Nat.{ℕ, ◌+◌, ◌≤◌, ◌<◌}
use mathlib.Core.Path.{◌≡◌}
use lib.ListN.{length, get_or}
use lib.Ieee.{nan, binary64, sub, mul}
use Rattle.kernels.proofs.lanes.step.Given as goal

abbrev pub invariant-loop-s : goal.invariant-loop-s
invariant-loop-s g l =
    (l.s ≤ g.row.N) × (length l.value-items ≡ g.row.N)
    × ((q : ℕ) → q < l.s → get_or l.value-items q nan ≡ sub binary64 (get_or l.fn.t q nan) (mul binary64 (get_or l.x (l.at + q) nan) l.y))
    × ((q : ℕ) → l.s ≤ q → get_or l.value-items q nan ≡ get_or l.fn.t q nan)
