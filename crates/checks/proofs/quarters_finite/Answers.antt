-- `checks::quarters_finite` meets its contract. Assumes nothing.
use Prim.Native.Nat.{ℕ, ◌*◌, ◌+◌, ◌≤◌, ◌<◌}
use native.Mathlib.Omega.{arith}
use mathlib.Core.Path.{◌≡◌, refl, sym, ap, ap₂, ◌∙◌}
use mathlib.Core.Bool.{Bool, true, false, ◌&&◌, and_assoc, and-false}
use mathlib.Core.List.{List}
use lib.ListN.{length, get_or, take, drop, length-drop}
use lib.Seq.{get_or-drop}
use lib.Ieee.{Float, nan}
use Rattle.binary64.specs.Kinds.{finite}
use Rattle.calls.specs.Sequences.{all}
use Rattle.calls.proofs.Sequences.{all_take, all_parts}
use Rattle.checks.proofs.quarters_finite.Invariants.{side_by_side}
use Rattle.checks.proofs.quarters_finite.Goals as goal

-- of the first k values of each quarter
exchange : (a b c d : Bool) → (a && b) && (c && d) ≡ (a && c) && (b && d)
exchange true true c d = refl
exchange true false c d = sym (and-false c)
exchange false b c d = refl

part_next :
    (values : List Float) (at k : ℕ) → at + k < length values →
    all finite (take k (drop at values)) && finite (get_or values (at + k) nan) ≡ all finite (take (k + 1) (drop at values))
part_next values at k inside =
    ap (λ x. all finite (take k (drop at values)) && finite x) (sym (get_or-drop at values k nan))
    ∙ sym (all_take finite (drop at values) k nan (omega (arith, length-drop at values)))

side_next :
    (values : List Float) (quarter k : ℕ) → k < quarter → 4 * quarter ≤ length values →
    side_by_side values quarter k
    && (finite (get_or values k nan)
    && (finite (get_or values (quarter + k) nan) && (finite (get_or values (2 * quarter + k) nan) && finite (get_or values (3 * quarter + k) nan))))
    ≡ side_by_side values quarter (k + 1)
side_next values quarter k few room =
    exchange (all finite (take k values)) (old quarter && (old (2 * quarter) && old (3 * quarter))) (new k)
    (new (quarter + k) && (new (2 * quarter + k) && new (3 * quarter + k)))
    ∙ ap₂ ◌&&◌ (sym (all_take finite values k nan (omega arith)))
    (exchange (old quarter) (old (2 * quarter) && old (3 * quarter)) (new (quarter + k)) (new (2 * quarter + k) && new (3 * quarter + k))
    ∙ ap₂ ◌&&◌ (part_next values quarter k (omega arith))
    (exchange (old (2 * quarter)) (old (3 * quarter)) (new (2 * quarter + k)) (new (3 * quarter + k))
    ∙ ap₂ ◌&&◌ (part_next values (2 * quarter) k (omega arith)) (part_next values (3 * quarter) k (omega arith))))
  where
    old : ℕ → Bool
    old at = all finite (take k (drop at values))

    new : ℕ → Bool
    new p = finite (get_or values p nan)

-- the quarters whole
side_all : (values : List Float) (quarter : ℕ) → side_by_side values quarter quarter ≡ all finite (take (4 * quarter) values)
side_all values quarter =
    sym
    (more 3 4 (omega arith)
    ∙ ap (λ b. b && part 3)
    (more 2 3 (omega arith) ∙ ap (λ b. b && part 2) (ap (λ n. all finite (take n values)) two ∙ all_parts finite values quarter quarter))
    ∙ and_assoc (all finite (take quarter values) && all finite (take quarter (drop quarter values))) (part 2) (part 3)
    ∙ and_assoc (all finite (take quarter values)) (all finite (take quarter (drop quarter values))) (part 2 && part 3))
  where
    two : 2 * quarter ≡ quarter + quarter
    two = omega arith

    part : ℕ → Bool
    part j = all finite (take quarter (drop (j * quarter) values))

    more : (j i : ℕ) → i * quarter ≡ j * quarter + quarter → all finite (take (i * quarter) values) ≡ all finite (take (j * quarter) values) && part j
    more j i e = ap (λ n. all finite (take n values)) e ∙ all_parts finite values (j * quarter) quarter

pub loop-k-init : goal.loop-k-init
unfolding all
loop-k-init c = (omega arith, refl)

pub loop-k-preserved : goal.loop-k-preserved
loop-k-preserved c =
    let few = c.loop-k-test.true in (
      omega arith,
      ap₂ ◌&&◌ c.loop-k.invariant.1
          (ap₂ ◌&&◌ c.is_finite-first.ensures
          (ap₂ ◌&&◌ c.is_finite-second.ensures
          (ap₂ ◌&&◌ c.is_finite-third.ensures c.is_finite-fourth.ensures)))
          ∙ side_next c.args.values.now c.args.quarter c.loop-k.k few c.requires,
    )

pub returns : goal.returns
returns c =
    let args = c.args in
    let whole : c.loop-k.k ≡ args.quarter = omega (arith, c.loop-k-test.false, c.loop-k.invariant.0) in
    c.loop-k.invariant.1 ∙ ap (side_by_side args.values.now args.quarter) whole ∙ side_all args.values.now args.quarter
