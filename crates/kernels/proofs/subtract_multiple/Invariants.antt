-- `kernels::subtract_multiple` meets its contract. The invariant of its loop: the first r values are reduced, and the others as they were. Assumes nothing.
use Prim.Native.Nat.{ℕ, ◌≤◌, ◌<◌}
use mathlib.Core.Path.{◌≡◌}
use lib.ListN.{length, get_or}
use lib.Ieee.{nan, binary64, sub, mul}
use Rattle.kernels.proofs.subtract_multiple.Given as goal

abbrev pub invariant-loop-r : goal.invariant-loop-r
invariant-loop-r l =
    (length l.v ≡ length l.initial.v)
    × ((q : ℕ) → q < l.r → get_or l.v q nan ≡ sub binary64 (get_or l.initial.v q nan) (mul binary64 (get_or l.x q nan) l.y))
    × ((q : ℕ) → l.r ≤ q → get_or l.v q nan ≡ get_or l.initial.v q nan)
