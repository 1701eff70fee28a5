-- `blocked_factor::block_column::Panel::update_entries` meets its contract. The invariant: the first t entries are updated. Assumes nothing.
use Prim.Native.Nat.{◌+◌}
use lib.ListN.{get_or}
use lib.Ieee.{nan}
use Rattle.calls.specs.Arithmetic.{minus_products}
use Rattle.blocked_factor.specs.BlockColumns.{row_start}
use Rattle.kernels.specs.Kernels.{Filled, row_at}
use Rattle.blocked_factor.proofs.block_column.Panel.update_entries.Given as goal

abbrev pub invariant-loop-t : goal.invariant-loop-t
invariant-loop-t l =
    Filled nan (l.x + l.self.s0) l.t
    (λ u.
    minus_products (row_at l.initial.part l.x) (row_at l.initial.part (row_start l.self.column.width (l.self.s0 + u))) l.self.s0
    (get_or l.initial.part (l.x + l.self.s0 + u) nan))
    l.initial.part l.part
