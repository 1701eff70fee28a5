-- `kernels::minus_products` meets its contract. The invariant of its loop: the first k products are subtracted. Assumes nothing.
use Prim.Native.Nat.{◌≤◌}
use mathlib.Core.Path.{◌≡◌}
use Rattle.calls.specs.Arithmetic.{minus_products}
use Rattle.kernels.specs.Kernels.{row_at}
use Rattle.kernels.proofs.minus_products.Given as goal

abbrev pub invariant-loop-k : goal.invariant-loop-k
invariant-loop-k l = (l.k ≤ l.count) × (l.s ≡ minus_products (row_at l.m l.x) (row_at l.m l.y) l.k l.t)
