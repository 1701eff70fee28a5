-- `binary64::root::integer_root` meets its contract. The invariant of its loop: i digits are found, and i is at most 54. The measure is how many are not.
-- Assumes nothing.
use mathlib.Core.Path.{◌≡◌, subst}
use Prim.Native.Nat.{ℕ, ◌^◌, ◌<◌}
use native.Mathlib.Omega.{arith}
use Rattle.binary64.proofs.IntegerRoots.{Digits, digit_zero, digit_one, digits_none, digits_all, digits_lt}
use Rattle.binary64.proofs.root.integer_root.Goals as goal
use Rattle.binary64.proofs.root.integer_root.Goals.{then-remainder-root, else-remainder-root}

root_lt : (c : goal.In-loop-i) → c.loop-i.root < 2 ^ 53
root_lt c =
    digits_lt c.args.s c.loop-i.i c.loop-i.rest c.loop-i.root c.loop-i.remainder
    (omega arith) c.loop-i.invariant.1

pub loop-i-init : goal.loop-i-init
loop-i-init c = (omega arith, digits_none c.args.s c.requires)

pub overflow_mul-remainder : goal.overflow_mul-remainder
overflow_mul-remainder c = omega (arith, root_lt c)

pub overflow_add-remainder : goal.overflow_add-remainder
overflow_add-remainder c = omega (arith, root_lt c)

pub overflow_mul-root : goal.overflow_mul-root
overflow_mul-root c = omega (arith, root_lt c)

pub overflow_mul-root-in-loop-i : goal.overflow_mul-root-in-loop-i
overflow_mul-root-in-loop-i c = omega (arith, root_lt c)

pub overflow_mul-remainder-then-remainder-root : goal.overflow_mul-remainder-then-remainder-root
overflow_mul-remainder-then-remainder-root c = omega (arith, root_lt c.before)

pub overflow_add-remainder-then-remainder-root : goal.overflow_add-remainder-then-remainder-root
overflow_add-remainder-then-remainder-root c = omega (arith, root_lt c.before)

pub overflow_add-root : goal.overflow_add-root
overflow_add-root c = omega (arith, root_lt c.before)

pub loop-i-preserved : goal.loop-i-preserved
loop-i-preserved c =
    let s = c.args.s in
    elim c.if-remainder-root.branch [
      | then-remainder-root w ↦ (omega arith, rw (w.root-is, w.remainder-is) (digit_one s c.loop-i.i c.loop-i.rest c.loop-i.root c.loop-i.remainder c.loop-i.invariant.1 w.if-remainder-root.true))
      | else-remainder-root w ↦ (omega arith, rw (w.root-is, w.remainder-is) (digit_zero s c.loop-i.i c.loop-i.rest c.loop-i.root c.loop-i.remainder c.loop-i.invariant.1 w.if-remainder-root.false))
    ]

pub returns : goal.returns
returns c =
    let s = c.args.s in
    let all : c.loop-i.i ≡ 54 = omega arith in
    digits_all s c.loop-i.rest c.loop-i.root c.loop-i.remainder (subst (λ (i : ℕ). Digits s i c.loop-i.rest c.loop-i.root c.loop-i.remainder) all c.loop-i.invariant.1)
