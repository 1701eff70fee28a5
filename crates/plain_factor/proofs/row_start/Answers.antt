-- `plain_factor::row_start` meets its contract. Assumes nothing.
use Prim.Native.Nat.{◌-◌}
use native.Mathlib.Omega.{arith}
use Rattle.shape.specs.Places.{packed_place}
use borrow.Author.Rules.{rules}
use Rattle.plain_factor.proofs.Rows.{row_place_lt}
use Rattle.plain_factor.proofs.row_start.Goals as goal

pub returns-clause-place : goal.returns-clause-place
unfolding packed_place
returns-clause-place c = search rules

pub returns-clause-fits : goal.returns-clause-fits
unfolding packed_place
returns-clause-fits c = omega (arith, row_place_lt c.args.n (c.args.n - 1) c.args.k (omega arith) (omega arith))
