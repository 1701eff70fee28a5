-- `binary64::root::integer_root` meets its contract. The invariant of its loop: i digits are found, and i is at most 54. The measure is how many are not.
-- Assumes nothing.
use Prim.Native.Nat.{◌≤◌}
use Rattle.binary64.proofs.IntegerRoots.{Digits}
use Rattle.binary64.proofs.root.integer_root.Given as goal

abbrev pub invariant-loop-i : goal.invariant-loop-i
invariant-loop-i l = (l.i ≤ 54) × Digits l.s l.i l.rest l.root l.remainder
