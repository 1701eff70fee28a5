-- `strike::rules::check_list` meets its contract. The loop's invariant: no position before p refuses, and `next` is one more than the unknown before p, or 0. The
-- measure is the number of positions left. Assumes nothing.
use Prim.Native.Nat.{ℕ, ◌+◌, ◌≤◌}
use mathlib.Core.Path.{◌≡◌}
use mathlib.Core.List.{List}
use lib.ListN.{length, get_or}
use Rattle.calls.specs.Refusals.{success, lowest_refusal}
use Rattle.strike.proofs.Strikes.{listed_at}
use Rattle.strike.proofs.rules.check_list.Given as goal

-- one more than the unknown before position p, or 0
pub record Following (list : List ℕ) (p next : ℕ) : Type 0 where
  pub first : p ≡ 0 → next ≡ 0
  pub later : (x : ℕ) → x + 1 ≡ p → next ≡ get_or list x 0 + 1

abbrev pub invariant-loop-p : goal.invariant-loop-p
invariant-loop-p l = (l.p ≤ length l.list) × (lowest_refusal (listed_at l.n l.list) l.p ≡ success) × Following l.list l.p l.next
