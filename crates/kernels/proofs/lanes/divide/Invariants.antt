-- `kernels::lanes::divide` meets its contract. The invariant of its loop: the values before the index are divided, and the others as they were. Assumes
-- nothing.
use Prim.Native.Nat.{ℕ, ◌≤◌, ◌<◌}
use mathlib.Core.Path.{◌≡◌}
use lib.ListN.{length, get_or}
use lib.Ieee.{nan, binary64, div}
use Rattle.kernels.proofs.lanes.divide.Given as goal

abbrev pub invariant-loop-value : goal.invariant-loop-value
invariant-loop-value g l =
    (l.value-index ≤ g.row.N) × (length l.value-items ≡ g.row.N)
    × ((q : ℕ) → q < l.value-index → get_or l.value-items q nan ≡ div binary64 (get_or l.fn.t q nan) l.y)
    × ((q : ℕ) → l.value-index ≤ q → get_or l.value-items q nan ≡ get_or l.fn.t q nan)
