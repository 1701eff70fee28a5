-- `strike::moves::move16` meets its contract: rows that rise and are fifteen apart from the first to the sixteenth follow one another. Assumes nothing.
use Prim.Native.Nat.{◌+◌}
use native.Mathlib.Omega.{arith}
use mathlib.Core.Path.{◌≡◌, ap, ◌∙◌}
use lib.ListN.{length, get_or}
use lib.Ieee.{nan}
use Rattle.kernels.proofs.Parts.{filled_same}
use Rattle.strike.specs.Rows.{rows_at}
use Rattle.strike.proofs.Rows.{rows_follow}
use Rattle.strike.proofs.moves.move16.Goals as goal

pub returns-then-last-first-eq15 : goal.returns-then-last-first-eq15
returns-then-last-first-eq15 c =
    let a = c.args in
    let count : length a.rows.now ≡ 16 = c.told-rows in
    let follow = rows_follow a.rows.now c.requires.rising 15 (omega arith) (omega arith) in
    filled_same nan a.to 16 _ (rows_at a.m.now a.rows.now a.base) a.m.now _
    (λ k h.
    let place : a.base + get_or a.rows.now 0 0 + k ≡ a.base + get_or a.rows.now k 0 = omega (arith, follow k (omega arith)) in
    c.load.ensures k h ∙ ap (λ p. get_or a.m.now p nan) place)
    c.store.ensures
