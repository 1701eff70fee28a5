-- `kernels::lanes::subtract_falling` meets its contract. The invariant of its loop: the products from k on are subtracted from each value. Assumes nothing.
use Prim.Native.Nat.{ℕ, ◌-◌, ◌≤◌, ◌<◌}
use mathlib.Core.Path.{◌≡◌}
use lib.ListN.{length, get_or}
use lib.Ieee.{nan}
use Rattle.kernels.specs.Kernels.{falling_from}
use Rattle.kernels.proofs.lanes.subtract_falling.Given as goal

abbrev pub invariant-loop-k : goal.invariant-loop-k
invariant-loop-k g l =
    (l.k ≤ length l.y) × ((s : ℕ) → s < g.row.N → get_or l.values s nan ≡ falling_from l.x (get_or l.at s 0) l.y (length l.y - l.k) (get_or l.initial.values s nan))
