-- `plain_factor::divide` meets its contract. The loop's invariant: the rows so far are divided, and the rest are as they were. Assumes nothing.
use Prim.Native.Nat.{ℕ, ◌≤◌, ◌<◌}
use mathlib.Core.Path.{◌≡◌}
use lib.ListN.{get_or}
use lib.Ieee.{nan, binary64, div}
use Rattle.plain_factor.proofs.divide.Given as goal

abbrev pub invariant-loop-row : goal.invariant-loop-row
invariant-loop-row l =
    record {
      divided : (r : ℕ) → r < l.row-index → get_or l.rows r nan ≡ div binary64 (get_or l.fn.rows r nan) l.diagonal;
      rest : (r : ℕ) → l.row-index ≤ r → get_or l.rows r nan ≡ get_or l.fn.rows r nan;
    }
