-- `plain_factor::Column::load` meets its contract. The loop's invariant: the rows before r are loaded. Assumes nothing.
use Prim.Native.Nat.{ℕ, ◌+◌, ◌<◌}
use mathlib.Core.Path.{◌≡◌}
use lib.ListN.{get_or}
use lib.Ieee.{nan}
use Rattle.plain_factor.proofs.Column.load.Given as goal

abbrev pub invariant-loop-r : goal.invariant-loop-r
invariant-loop-r l = (p : ℕ) → p < l.r → get_or l.rows p nan ≡ get_or l.self.matrix.now (l.start + p) nan
