-- `blocked_factor::block_column::Panel::update_entries` meets its contract. Assumes nothing.
use Prim.Native.Nat.{◌+◌}
use native.Mathlib.Omega.{arith}
use native.Mathlib.Nat.{le_refl}
use Rattle.blocked_factor.proofs.Panels.{entries_next}
use Rattle.blocked_factor.proofs.block_column.Panel.update_entries.Goals as goal

pub loop-t-preserved : goal.loop-t-preserved
loop-t-preserved c =
    let a = c.args in
    entries_next a.part.now c.loop-t.part a.self.column.width a.self.s0 a.x (a.x + a.self.s0) a.self.s0 c.loop-t.t c.minus_products.result
    (le_refl _) (omega (arith, c.requires.by_index c.loop-t.t (omega arith))) (omega arith) c.loop-t.invariant
    (rw c.row.ensures at c.minus_products.ensures)
