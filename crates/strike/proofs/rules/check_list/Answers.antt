-- `strike::rules::check_list` meets its contract. Assumes nothing.
use Prim.Native.Nat.{ℕ, zero, suc, ◌+◌, ◌≤◌, ◌<◌}
use native.Mathlib.Numerals.{add-one}
use native.Mathlib.Omega.{arith}
use mathlib.Core.Path.{◌≡◌, refl, sym, ap, ◌∙◌}
use mathlib.Core.Bool.{true, false}
use mathlib.Core.List.{List}
use borrow.Author.Tests.{lt-ltb, le-ltb}
use lib.ListN.{length, get_or}
use Rattle.binary64.specs.Kinds.{zero64}
use Rattle.calls.specs.Refusals.{success, accepted, refusal, lowest_refusal, rises_at, rule20}
use Rattle.calls.proofs.Judging.{lowest_next, lowest_found}
use Rattle.strike.proofs.Strikes.{listed_at}
use Rattle.strike.proofs.rules.check_list.Invariants.{Following}
use Rattle.strike.proofs.rules.check_list.Goals as goal
use Rattle.strike.proofs.rules.check_list.Goals.{then-n-u-via-then-n-u, then-n-u-via-else-n-u+then-u-next}

-- ---- the test of one position

module _ (n : ℕ) (list : List ℕ) where
  passes : (p next : ℕ) → Following list p next → get_or list p 0 < n → next ≤ get_or list p 0 → rises_at n list p ≡ true
  unfolding rises_at
  passes zero next f below above = lt-ltb (get_or list 0 0) n below
  passes (suc p) next f below above =
      let at = f.later p (add-one p) in
      rw (lt-ltb (get_or list (suc p) 0) n below) (lt-ltb (get_or list p 0) (get_or list (suc p) 0) (omega arith))

  too_large : (p : ℕ) → n ≤ get_or list p 0 → rises_at n list p ≡ false
  unfolding rises_at
  too_large zero h = le-ltb (get_or list 0 0) n h
  too_large (suc p) h = rw (le-ltb (get_or list (suc p) 0) n h) refl

  too_small : (p next : ℕ) → Following list p next → get_or list p 0 < n → get_or list p 0 < next → rises_at n list p ≡ false
  unfolding rises_at
  too_small zero next f below h = let none = f.first refl in absurd (omega arith)
  too_small (suc p) next f below h =
      let at = f.later p (add-one p) in
      rw (lt-ltb (get_or list (suc p) 0) n below) (le-ltb (get_or list p 0) (get_or list (suc p) 0) (omega arith))

  module _ (p : ℕ) (before : lowest_refusal (listed_at n list) p ≡ success) where
    rises_next : rises_at n list p ≡ true → lowest_refusal (listed_at n list) (p + 1) ≡ success
    rises_next rises = let judged : listed_at n list p ≡ success = rw rises refl in lowest_next (listed_at n list) p before ∙ judged

    rises_found : p < length list → rises_at n list p ≡ false → rule20 n list ≡ refusal 20 p zero64
    unfolding rule20
    rises_found h rises =
        let judged : listed_at n list p ≡ refusal 20 p zero64 = rw rises refl in
        lowest_found (listed_at n list) p (length list) h before (ap accepted judged) ∙ judged

-- ---- the loop

pub loop-p-init : goal.loop-p-init
unfolding lowest_refusal
loop-p-init c = (omega arith, refl, record { first = λ e. refl; later = λ x e. absurd (omega arith) })

pub returns-then-n-u : goal.returns-then-n-u
returns-then-n-u c =
    let a = c.args in
    let at = c.loop-p in
    let found = λ (fails : rises_at a.n a.list.now at.p ≡ false). sym (rises_found a.n a.list.now at.p at.invariant.1 c.loop-p-test.true fails) in
    elim c.then-n-u.branch [
      | then-n-u-via-then-n-u w ↦ found (too_large a.n a.list.now at.p w.if-n-u.true)
      | then-n-u-via-else-n-u+then-u-next w ↦ found (too_small a.n a.list.now at.p at.next at.invariant.2 w.if-n-u.false w.if-u-next.true)
    ]

pub loop-p-preserved : goal.loop-p-preserved
loop-p-preserved c =
    let a = c.args in
    let at = c.loop-p in (
      omega arith,
      rises_next a.n a.list.now at.p at.invariant.1 (passes a.n a.list.now at.p at.next at.invariant.2 c.if-n-u.false c.if-u-next.false),
      record { first = λ e. absurd (omega arith); later = λ x e. let same : at.p ≡ x = omega arith in ap (λ y. get_or a.list.now y 0 + 1) same },
    )

pub returns : goal.returns
unfolding rule20
returns c =
    let end : c.loop-p.p ≡ length c.args.list.now = omega arith in
    sym (rw end at c.loop-p.invariant.1)
