-- `kernels::lanes::subtract_rising` meets its contract. The invariant of its loop: the first k products are subtracted from each value. Assumes nothing.
use Prim.Native.Nat.{ℕ, ◌≤◌, ◌<◌}
use mathlib.Core.Path.{◌≡◌}
use lib.ListN.{length, get_or}
use lib.Ieee.{nan}
use Rattle.kernels.specs.Kernels.{rising_from}
use Rattle.kernels.proofs.lanes.subtract_rising.Given as goal

abbrev pub invariant-loop-k : goal.invariant-loop-k
invariant-loop-k g l = (l.k ≤ length l.y) × ((s : ℕ) → s < g.row.N → get_or l.values s nan ≡ rising_from l.x (get_or l.at s 0) l.y l.k (get_or l.initial.values s nan))
