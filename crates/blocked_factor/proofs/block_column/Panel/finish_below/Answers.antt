-- `blocked_factor::block_column::Panel::finish_below` meets its contract. Assumes nothing.
use Prim.Native.Nat.{◌+◌, ◌-◌, ◌%◌, ◌≤◌, ℕ, min}
use native.Mathlib.Omega.{arith}
use mathlib.Core.Path.{◌≡◌}
use Rattle.blocked_factor.proofs.Finishing.{below_next}
use Rattle.blocked_factor.proofs.block_column.Panel.finish_below.Goals as goal
use Rattle.blocked_factor.proofs.block_column.Panel.finish_below.Goals.{else-loop-r-test, then-loop-r-test+else-whole-r-gt8}

-- below the diagonals a row has all the panel's columns
end : {e r : ℕ} → e ≤ r → min e r ≡ e
end low = omega arith

pub loop-r-preserved : goal.loop-r-preserved
loop-r-preserved c = (
  omega arith,
  omega arith,
  omega arith,
  below_next 8 c.loop-r.invariant.0 c.loop-r.invariant.3 (rw (end c.loop-r.invariant.0) at c.finish_rows.ensures),
)

-- where the eights end
pub loop-r-2-init : goal.loop-r-2-init
loop-r-2-init c =
    let rows = c.args.self.column.rows in
    elim c.loop-r-test.branch [
      | else-loop-r-test w ↦
          let e : c.loop-r.r ≡ rows - (rows - c.end-end.result) % 8 = omega arith in
          rw (w.part-is, ← e) c.loop-r.invariant.3
      | then-loop-r-test+else-whole-r-gt8 w ↦
          let e : c.loop-r.r + 8 ≡ rows - (rows - c.end-end.result) % 8 = omega arith in
          rw (w.part-is, ← e) (below_next 8 c.loop-r.invariant.0 c.loop-r.invariant.3 (rw (end c.loop-r.invariant.0) at w.finish_rows.ensures))
    ]

pub loop-r-2-preserved : goal.loop-r-2-preserved
loop-r-2-preserved c =
    let low : c.args.self.s0 + c.args.self.g ≤ c.loop-r-2.r = omega arith in
    below_next 1 low c.loop-r-2.invariant (rw (end low) at c.finish_rows-in-loop-r-2.ensures)
