-- `kernels::columns::reduce_columns` meets its contract. The invariant of its loop: the products of the last k rows are subtracted. Assumes nothing.
use Prim.Native.Nat.{ℕ, ◌-◌, ◌≤◌, ◌<◌}
use mathlib.Core.Path.{◌≡◌}
use lib.ListN.{get_or}
use lib.Ieee.{nan}
use Rattle.shape.specs.Places.{blocked_place}
use Rattle.calls.specs.Arithmetic.{minus_products}
use Rattle.kernels.proofs.columns.reduce_columns.Given as goal

abbrev pub invariant-loop-k : goal.invariant-loop-k
invariant-loop-k g l =
    (l.k ≤ l.count)
    × ((j : ℕ) → j < g.row.W →
    get_or l.next j nan
    ≡ minus_products (λ q. get_or l.part (blocked_place l.h g.row.B (l.h - 1 - q) j) nan) (λ q. get_or l.v (l.h - 1 - q) nan) l.k (get_or l.initial.next j nan))
