-- What the order of rules 16 and 11 changed. A weak column with an entry below that is not finite was refused by 11, with value +0; it is refused by 16, with the
-- pivot. Nothing else that a factor returned or left changed. Assumes nothing.
use Prim.Native.Nat.{ℕ}
use mathlib.Core.Path.{◌≡◌, refl, ap, ◌∙◌, subst}
use mathlib.Core.Logic.{◌⊎◌, inl, inr}
use mathlib.Core.Bool.{Bool, true, false, not, ◌&&◌}
use mathlib.Core.List.{List, [], ◌∷◌}
use lib.Dec.{T, eqb, eqb→eq}
use lib.ListN.{length}
use lib.Ieee.{Float}
use lib.Ieee.Bits.{is_true}
use lib.Ieee.Fits.{and_l}
use Rattle.binary64.specs.Kinds.{positive, zero64}
use Rattle.binary64.specs.Judged.{judged}
use Rattle.shape.specs.declared.Shape.{Shape}
use Rattle.calls.specs.declared.Verdict.{Verdict}
use Rattle.calls.specs.declared.Layout.{Layout}
use Rattle.calls.specs.declared.Layout.TheVariants.{Packed, Blocked}
use Rattle.calls.specs.declared.Call.TheVariants.{Factor}
use Rattle.calls.specs.Arithmetic.{cholesky}
use Rattle.calls.specs.Triangles.{Triangle, entry, height, place_of, store}
use Rattle.calls.specs.Refusals.{accepted, refusal, first_refusal, rule10, rule11, weak, rule16, column_rules}
use Rattle.calls.specs.Calls.{Done, spends, result_of, answer, finished, factorize}
use Rattle.calls.proofs.Refusals.{lowest_related}
use Rattle.calls.proofs.ColumnRules.{weak_positive, rules_place}
use Rattle.calls.proofs.CheckLaws.{factor_checks_keep}
use Rattle.calls.proofs.FactorsBy.{pivot_of, finite_below, weak_column, Rules, column_by, verdict_by, loaded, checks, untouched, done_with, factorize_by, factorize_by_lem, factors_related}

-- ---- one column

-- its rules in the former order and in the present one
abbrev pub overflow_first : Rules
overflow_first j entered p finite_below = first_refusal (rule10 j (judged p) ∷ rule11 j finite_below ∷ rule16 j entered p ∷ [])

abbrev pub weak_first : Rules
weak_first j entered p finite_below = first_refusal (rule10 j (judged p) ∷ rule16 j entered p ∷ rule11 j finite_below ∷ [])

module _ (j : ℕ) (entered p : Float) where
  -- the present order is that of the rules
  pub rules_present : (f : Bool) → column_rules j entered p f ≡ weak_first j entered p f
  unfolding column_rules
  rules_present f = refl

  -- a weak one with an entry below that is not finite
  pub column_changed :
      (f : Bool) → T (weak entered p && not f) → (overflow_first j entered p f ≡ refusal 11 j zero64) × (weak_first j entered p f ≡ refusal 16 j p)
  unfolding first_refusal rule11 rule16 judged
  column_changed f t = go f (weak entered p) refl t
    where
      go : (g w : Bool) → weak entered p ≡ w → T (w && not g) → (overflow_first j entered p g ≡ refusal 11 j zero64) × (weak_first j entered p g ≡ refusal 16 j p)
      go g false e t = absurd t
      go true true e t = absurd t
      go false true e t = rw (is_true (positive p) (weak_positive entered p (rw e tt)), e) (refl, refl)

  -- and every other
  pub column_same : (f : Bool) → weak entered p && not f ≡ false → weak_first j entered p f ≡ overflow_first j entered p f
  unfolding first_refusal rule11 rule16 judged
  column_same f h = go (positive p) (weak entered p) f refl refl h
    where
      go : (above w g : Bool) → positive p ≡ above → weak entered p ≡ w → w && not g ≡ false → weak_first j entered p g ≡ overflow_first j entered p g
      go false w g ep ew h = rw ep refl
      go true true false ep ew h = absurd (subst T h tt)
      go true true true ep ew h = rw (ep, ew) refl
      go true false false ep ew h = rw (ep, ew) refl
      go true false true ep ew h = rw (ep, ew) refl

-- ---- a factor

module _ (n : ℕ) (a : Triangle) where
  -- column j is weak, and an entry below its pivot is not finite
  abbrev pub weak_overflow : ℕ → Bool
  weak_overflow j = weak_column n a j && not (finite_below n a j)

  -- v reports 11 of such a column
  abbrev pub hides_weak : Verdict → Bool
  hides_weak v = eqb v.code 11 && weak_overflow v.place

-- what a factor of a returned and left under the former order, and what it returns and leaves now
pub record Reordered (layout : Layout) (shape : Shape) (a : Triangle) (before after : Done) : Type 0 where
  pub changed :
      T (hides_weak shape.order a (answer before.result).verdict) →
      let j = before.result.place in
      (before.result ≡ result_of (Factor layout) shape (refusal 11 j zero64))
      × (after.result ≡ result_of (Factor layout) shape (refusal 16 j (pivot_of shape.order a j)))
  pub same : hides_weak shape.order a (answer before.result).verdict ≡ false → after.result ≡ before.result
  pub matrix : after.matrix ≡ before.matrix
  pub work : after.work ≡ before.work

-- ---- the verdict of all columns

module _ (n : ℕ) (a : Triangle) where
  record Changed (v w : Verdict) : Type 0 where
    at : ℕ
    both : T (weak_overflow n a at)
    before : v ≡ refusal 11 at zero64
    after : w ≡ refusal 16 at (pivot_of n a at)

  record Unchanged (v w : Verdict) : Type 0 where
    other : hides_weak n a v ≡ false
    same : w ≡ v

  abbrev Related : Verdict → Verdict → Type 0
  Related v w = Changed v w ⊎ Unchanged v w

  related_accepted : (v w : Verdict) → Related v w → accepted w ≡ accepted v
  related_accepted v w (inl q) = rw (q.before, q.after) refl
  related_accepted v w (inr q) = rw q.same refl

  column_related : (j : ℕ) → Related (column_by overflow_first n a j) (column_by column_rules n a j)
  column_related j = go (weak_overflow n a j) refl
    where
      former : Verdict
      former = column_by overflow_first n a j

      place : column_by column_rules n a j ≡ former → accepted former ≡ false → former.place ≡ j
      place same e = rw (← same) (rules_place j (entry a j j) (pivot_of n a j) (finite_below n a j) (rw (← same) at e))

      hides_none :
          (c : Bool) → eqb former.code 11 ≡ c → (accepted former ≡ false → former.place ≡ j) → weak_overflow n a j ≡ false →
          c && weak_overflow n a former.place ≡ false
      hides_none true e at none =
          let code : former.code ≡ 11 = eqb→eq former.code 11 (rw e tt) in
          rw (at (ap (λ c. eqb c 0) code)) none
      hides_none false e at none = refl

      present : column_by column_rules n a j ≡ column_by weak_first n a j
      present = rules_present j (entry a j j) (pivot_of n a j) (finite_below n a j)

      go : (c : Bool) → weak_overflow n a j ≡ c → Related former (column_by column_rules n a j)
      go true e =
          let changed = column_changed j (entry a j j) (pivot_of n a j) (finite_below n a j) (rw e tt) in
          inl (record { at = j; both = rw e tt; before = changed.0; after = present ∙ changed.1 })
      go false e =
          let same : column_by column_rules n a j ≡ former = present ∙ column_same j (entry a j j) (pivot_of n a j) (finite_below n a j) e in
          inr (record { other = hides_none (eqb former.code 11) refl (place same) e; same = same })

  verdict_related : Related (verdict_by overflow_first n a) (verdict_by column_rules n a)
  verdict_related =
      lowest_related Related related_accepted (inr (record { other = refl; same = refl })) (column_by overflow_first n a) (column_by column_rules n a) column_related n

-- ---- the call, of both layouts

-- 11 and 16 at one place leave as many finished columns
finished_alike : (layout : Layout) (n b j : ℕ) (x y : Float) → finished layout n b (refusal 16 j x) ≡ finished layout n b (refusal 11 j y)
finished_alike Packed n b j x y = refl
finished_alike Blocked n b j x y = refl

module _ (layout : Layout) (shape : Shape) (matrix work : List Float) where
  abbrev n : ℕ
  n = shape.order

  abbrev a : Triangle
  a = loaded layout shape matrix

  done_reordered : (v w : Verdict) → Related n a v w → Reordered layout shape a (done_with layout shape matrix work v) (done_with layout shape matrix work w)
  done_reordered v w (inl q) =
      rw (q.before, q.after)
      (record {
        changed = λ t. (refl, refl);
        same = λ h. absurd (subst T h q.both);
        matrix =
            ap (λ (k : ℕ). store (place_of layout shape.order shape.block) (cholesky (height shape.order) a k) matrix)
            (finished_alike layout shape.order shape.block q.at (pivot_of n a q.at) zero64);
        work = refl;
      })
  done_reordered v w (inr q) =
      rw q.same (record { changed = λ t. absurd (subst T q.other t); same = λ h. refl; matrix = refl; work = refl })

  -- no check answers 11
  untouched_reordered : Reordered layout shape a (untouched layout shape matrix work) (untouched layout shape matrix work)
  untouched_reordered =
      let code : ℕ = (checks layout shape matrix work).code in
      let keeps : spends (checks layout shape matrix work) ≡ false = factor_checks_keep layout shape matrix (length work) in
      record {
        changed = λ t. absurd (let e : code ≡ 11 = eqb→eq code 11 (and_l (eqb code 11) _ t) in subst T (rw e at keeps) tt);
        same = λ h. refl;
        matrix = refl;
        work = refl;
      }

  pub order_changed : Reordered layout shape a (factorize_by layout shape matrix work overflow_first) (factorize layout shape matrix work)
  order_changed =
      rw (factorize_by_lem layout shape matrix work)
      (factors_related layout shape matrix work (Reordered layout shape a) overflow_first column_rules (λ e. done_reordered _ _ (verdict_related n a)) untouched_reordered)
