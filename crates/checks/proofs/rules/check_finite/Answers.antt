-- `checks::rules::check_finite` meets its contract. The loop's invariant: no position before p refuses. Assumes nothing.
use Prim.Native.Nat.{ℕ, ◌+◌, ◌<◌}
use native.Mathlib.Omega.{arith}
use mathlib.Core.Path.{◌≡◌, refl, sym, ap, ◌∙◌}
use mathlib.Core.Bool.{true, false}
use mathlib.Core.List.{List}
use lib.ListN.{length, get_or}
use lib.Ieee.{Float, nan}
use Rattle.binary64.specs.Kinds.{finite, zero64}
use Rattle.calls.specs.Refusals.{success, accepted, refusal, lowest_refusal, finite_rule}
use Rattle.calls.proofs.Refusals.{finite_rule_lem}
use Rattle.calls.proofs.Judging.{lowest_next, lowest_found}
use Rattle.calls.proofs.CheckLaws.{finite_at}
use Rattle.checks.specs.Values.{finite_code}
use Rattle.checks.specs.declared.rules.Values.{Values}
use Rattle.checks.specs.declared.rules.Values.TheVariants.{Matrix, Rhs}
use Rattle.checks.proofs.rules.check_finite.Goals as goal

refuses : (v : Values) (p : ℕ) → accepted (refusal (finite_code v) p zero64) ≡ false
refuses Matrix p = refl
refuses Rhs p = refl

module _ (v : Values) (memory : List Float) (p : ℕ) (before : lowest_refusal (finite_at (finite_code v) memory) p ≡ success) where
  finite_next : true ≡ finite (get_or memory p nan) → lowest_refusal (finite_at (finite_code v) memory) (p + 1) ≡ success
  finite_next f = lowest_next (finite_at (finite_code v) memory) p before ∙ rw (sym f) refl

  finite_found : false ≡ finite (get_or memory p nan) → p < length memory → finite_rule (finite_code v) memory ≡ refusal (finite_code v) p zero64
  unfolding finite_rule
  finite_found f h =
      let here : finite_at (finite_code v) memory p ≡ refusal (finite_code v) p zero64 = rw (sym f) refl in
      lowest_found (finite_at (finite_code v) memory) p (length memory) h before (ap accepted here ∙ refuses v p) ∙ here

pub returns-then-all_finite : goal.returns-then-all_finite
returns-then-all_finite c = sym (finite_rule_lem (finite_code c.args.values) c.args.memory.now (rw (← c.if-all_finite.ensures) tt))

pub loop-p-init : goal.loop-p-init
unfolding lowest_refusal
loop-p-init c = refl

pub returns-then-not-is_finite : goal.returns-then-not-is_finite
returns-then-not-is_finite c =
    c.refusal.ensures ∙ sym (finite_found c.args.values c.args.memory.now c.loop-p.p c.loop-p.invariant c.if-not-is_finite.ensures c.loop-p-test.true)

pub loop-p-preserved : goal.loop-p-preserved
loop-p-preserved c = finite_next c.args.values c.args.memory.now c.loop-p.p c.loop-p.invariant c.if-not-is_finite.ensures

pub returns : goal.returns
unfolding finite_rule
returns c =
    let end : c.loop-p.p ≡ length c.args.memory.now = omega arith in
    sym (rw end at c.loop-p.invariant)
