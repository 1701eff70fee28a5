-- `strike::keep` meets its contract. Assumes nothing.
use Prim.Native.Nat.{ℕ, ◌+◌, ◌-◌, ◌≤◌, ◌<◌}
use native.Mathlib.Numerals.{add-one}
use native.Mathlib.Omega.{arith}
use native.Mathlib.Decide.{dec_lt}
use mathlib.Core.Path.{◌≡◌, refl, sym, ap, ◌∙◌}
use mathlib.Core.Logic.{◌≢◌}
use mathlib.Core.Bool.{true, false, not}
use mathlib.Core.List.{List, [], ◌∷◌, ◌++◌}
use borrow.Author.Tests.{eqb-true, eqb-false}
use denote.Ref.{Bor}
use lib.Dec.{eqb}
use Rattle.std.specs.Prelude.{Option, None, Some}
use Rattle.std.specs.Option.{option_map, option_eq, unwrap_or}
use lib.ListN.{length, get_or, set, take, length-set, get_or-eq_default}
use lib.Seq.{take-suc-set}
use Rattle.calls.specs.Sequences.{contains, passing}
use Rattle.calls.specs.Refusals.{success, rule20}
use Rattle.calls.specs.Strikes.{kept}
use Rattle.strike.proofs.Selections.{contains_at, passing_pass, passing_fail}
use Rattle.strike.proofs.Strikes.{Listed, rule20_accepted, Between, get_d_any, not_listed, kept_count}
use Rattle.strike.proofs.keep.Goals as goal
use Rattle.strike.proofs.keep.Goals.{then-eq, else-eq}

-- ---- a turn

module _ (n : ℕ) (list : List ℕ) (l : Listed n list) (q u : ℕ) (b : Between list n q u) (inside : u < n) where
  -- u is struck
  module _ (here : get_or list q n ≡ u) where
    named : q < length list
    named =
        elim (dec_lt q (length list)) [
          | yes h ↦ h
          | no h ↦ let past : get_or list q n ≡ n = get_or-eq_default list n (omega arith) in absurd (omega arith)
        ]

    there : get_or list q 0 ≡ u
    there = get_d_any list q 0 n named ∙ here

    between_struck : Between list n (q + 1) (u + 1)
    between_struck =
        record {
          index = omega (arith, named);
          above = λ x e. let same : x ≡ q = omega arith in rw same (omega (arith, there));
          below =
              elim (dec_lt (q + 1) (length list)) [
                | yes h ↦ omega (arith, l.rising q (q + 1) (omega arith) h, there, get_d_any list (q + 1) n 0 h)
                | no h ↦ let past : get_or list (q + 1) n ≡ n = get_or-eq_default list n (omega arith) in omega arith
              ];
        }

    kept_struck : kept list (u + 1) ≡ kept list u
    unfolding kept
    kept_struck = rw (add-one u) (passing_fail (λ v. not (contains list v)) u (ap not (ap (contains list) (sym there) ∙ contains_at list q named)))

  -- u is kept
  module _ (here : get_or list q n ≢ u) where
    above_u : u < get_or list q n
    above_u = elim (dec_lt u (get_or list q n)) [
      | yes h ↦ h
      | no h ↦ absurd (here (omega (arith, b.below)))
    ]

    between_kept : Between list n q (u + 1)
    between_kept = record { index = b.index; above = λ x e. omega (arith, b.above x e); below = omega (arith, above_u) }

    kept_kept : kept list (u + 1) ≡ kept list u ++ (u ∷ [])
    unfolding kept
    kept_kept = rw (add-one u) (passing_pass (λ v. not (contains list v)) u (ap not (not_listed n list l q u b above_u)))

    written : (unknowns : List ℕ) → u < length unknowns + q → take (u - q) unknowns ≡ kept list u → take (u + 1 - q) (set unknowns (u - q) u) ≡ kept list (u + 1)
    written unknowns room e =
        let next : u + 1 - q ≡ u - q + 1 = omega (arith, kept_count n list l u q (omega arith) b) in
        rw (next, add-one (u - q)) (take-suc-set unknowns (u - q) u (omega (arith, kept_count n list l u q (omega arith) b)) ∙ ap (λ xs. xs ++ (u ∷ [])) e ∙ sym kept_kept)

-- ---- what `get` finds at position q, compared with u

holds : (list : List ℕ) (q n : ℕ) (found : Option (Bor ℕ)) (lent : Bor ℕ) → unwrap_or (option_map (λ x. x.now) found) n ≡ get_or list q n → option_eq (λ x y. eqb x.now y.now) found (Some lent) ≡ true → get_or list q n ≡ lent.now
holds list q n None lent value same = cc
holds list q n (Some x) lent value same = sym value ∙ eqb-true x.now lent.now same

lacks : (list : List ℕ) (q n : ℕ) (found : Option (Bor ℕ)) (lent : Bor ℕ) → unwrap_or (option_map (λ x. x.now) found) n ≡ get_or list q n → lent.now < n → option_eq (λ x y. eqb x.now y.now) found (Some lent) ≡ false → get_or list q n ≢ lent.now
lacks list q n None lent value inside other = λ e. omega arith
lacks list q n (Some x) lent value inside other = λ e. eqb-false x.now lent.now other (value ∙ e)

-- ---- the loop

listed : (n : ℕ) (list : List ℕ) → rule20 n list ≡ success → Listed n list
listed n list h = rule20_accepted n list (rw h tt)

-- q is at most u
count : (n : ℕ) (list : List ℕ) (u q : ℕ) → rule20 n list ≡ success → u ≤ n → Between list n q u → length (kept list u) + q ≡ u
count n list u q h low b = kept_count n list (listed n list h) u q low b

pub loop-u-init : goal.loop-u-init
unfolding kept passing
loop-u-init c = (omega arith, refl, record { index = omega arith; above = λ x e. absurd (omega arith); below = omega arith }, refl)

pub overflow_sub-memory : goal.overflow_sub-memory
overflow_sub-memory c =
    let at = c.loop-u in
    omega (arith, count c.args.n c.args.list.now at.u-counter at.q c.requires.list_value at.invariant.0 at.invariant.2)

pub loop-u-preserved : goal.loop-u-preserved
loop-u-preserved c =
    let a = c.args in
    let known = listed a.n a.list.now c.requires.list_value in
    let at = c.loop-u in
    let inside = c.loop-u-test.true in
    let value = c.get.ensures.lookup.4 (omega arith) a.n in
    elim c.if-eq.branch [
      | then-eq w ↦
          let here : get_or a.list.now at.q a.n ≡ at.u-counter = holds a.list.now at.q a.n c.get.result _ value (sym c.eq.ensures ∙ w.if-eq.true) in
          let same : at.u-counter + 1 - (at.q + 1) ≡ at.u-counter - at.q = omega arith in
          rw (w.memory-is, w.q-is) (
            omega arith,
            at.invariant.1,
            between_struck a.n a.list.now known at.q at.u-counter at.invariant.2 inside here,
            rw same (at.invariant.3 ∙ sym (kept_struck a.n a.list.now known at.q at.u-counter at.invariant.2 inside here)),
          )
      | else-eq w ↦
          let here : get_or a.list.now at.q a.n ≢ at.u-counter = lacks a.list.now at.q a.n c.get.result _ value inside (sym c.eq.ensures ∙ w.if-eq.false) in
          rw (w.memory-is, w.q-is) (
            omega arith,
            length-set at.memory (at.u-counter - at.q) at.u-counter ∙ at.invariant.1,
            between_kept a.n a.list.now known at.q at.u-counter at.invariant.2 inside here,
            written a.n a.list.now known at.q at.u-counter at.invariant.2 inside here at.memory (omega arith) at.invariant.3,
          )
    ]

pub slice_bounds-result-count : goal.slice_bounds-result-count
slice_bounds-result-count c =
    let at = c.loop-u in
    omega (arith, count c.args.n c.args.list.now at.u-counter at.q c.requires.list_value at.invariant.0 at.invariant.2)
