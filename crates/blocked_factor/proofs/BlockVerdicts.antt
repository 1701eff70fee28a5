-- What the columns up to the end of a finished block column are judged to, from what they are by their pivots and the lowest column with an overflow. Assumes
-- nothing.
use Prim.Native.Nat.{ℕ, suc, ◌+◌, ◌-◌, ◌≤◌, ◌<◌}
use native.Mathlib.Nat.{add-zero}
use native.Mathlib.Omega.{arith}
use native.Mathlib.Decide.{dec_lt}
use mathlib.Core.Path.{◌≡◌, refl, sym, ap, ap₂, ◌∙◌, subst}
use mathlib.Core.Logic.{◌⊎◌, inl, inr}
use mathlib.Core.Bool.{Bool, true, false, not, ◌&&◌, and-true}
use mathlib.Core.List.{List, [], ◌∷◌}
use lib.Dec.{T}
use lib.ListN.{length, get_or, take}
use lib.Seq.{get_or-take, length-take-le}
use lib.Ieee.{Float, nan}
use lib.Ieee.Bits.{is_true}
use Rattle.binary64.specs.Kinds.{finite, zero64}
use Rattle.binary64.specs.Root.{root}
use Rattle.binary64.specs.Judged.{judged}
use Rattle.calls.specs.declared.Verdict.{Verdict}
use Rattle.calls.specs.Sequences.{grow, tabulate, all, every}
use Rattle.calls.specs.Triangles.{Triangle, entry, height}
use Rattle.calls.specs.Arithmetic.{pivot, quotient, below}
use Rattle.calls.specs.Refusals.{success, accepted, refusal, lowest_refusal, rule11, column_rules, column_verdict}
use Rattle.calls.specs.declared.Judgement.{Judgement}
use Rattle.calls.specs.Judgements.{judgement}
use Rattle.calls.specs.Calls.{judge_column, exact_column}
use Rattle.calls.proofs.Sequences.{length_tabulate, get_d_tabulate, tabulate_same, all_append, all_at, all_of}
use Rattle.calls.proofs.Columns.{columns, entry_quotient}
use Rattle.calls.proofs.Refusals.{Lowest, lowest_success, lowest_same, lowest_accepted, lowest_refused}
use Rattle.calls.proofs.Judging.{lowest_found}
use Rattle.calls.proofs.ColumnRules.{rules_success, rules_place, rules_value, rules_below, rules_not_finite, rules_accepted}
use Rattle.blocked_factor.specs.BlockColumns.{row_start, SameTo, column_finite, LowestOverflow}
use Rattle.blocked_factor.specs.BlockStages.{judge_pivot, columns_to, pivots_to, Stage, all_rows, ColumnsFinished, BlockColumnJudged, BlockColumnFactored}
use Rattle.blocked_factor.proofs.BlockRows.{row_lt}
use Rattle.blocked_factor.proofs.Finishing.{entered_same}

pub judge_success : (n : ℕ) (a : Triangle) (j : ℕ) → T (accepted (judge_column n a j)) → judge_column n a j ≡ success
unfolding column_verdict
judge_success n a j t = rules_success j _ _ _ t

judge_place : (n : ℕ) (a : Triangle) (j : ℕ) → accepted (judge_column n a j) ≡ false → (judge_column n a j).place ≡ j
unfolding column_verdict
judge_place n a j e = rules_place j _ _ _ e

-- a refusal's place is that of a refused column
pub lowest_place :
    (n : ℕ) (a : Triangle) (k : ℕ) (v : Verdict) → v ≡ lowest_refusal (judge_column n a) k → accepted v ≡ false →
    (v.place < k) × (accepted (judge_column n a v.place) ≡ false)
lowest_place n a k v e refused =
    let found : Lowest (judge_column n a) k (lowest_refusal (judge_column n a) k) =
    lowest_refused (judge_column n a) k (subst (λ r. T (not (accepted r))) e (subst (λ b. T (not b)) (sym refused) tt))
    in
    let same : v ≡ judge_column n a found.at = e ∙ found.there in
    let fails : accepted (judge_column n a found.at) ≡ false = ap (λ r. accepted r) (sym same) ∙ refused in
    let place : v.place ≡ found.at = ap (λ (r : Verdict). r.place) same ∙ judge_place n a found.at fails in
    rw place (found.inside, fails)

-- ---- accepted columns are accepted by their pivots

module _ (n : ℕ) (a : Triangle) (c : ℕ) (before : lowest_refusal (judge_column n a) c ≡ success) where
  same_before : (j : ℕ) → j < c → judge_column n a j ≡ judge_pivot n a j
  unfolding column_verdict
  same_before j low =
      let x : Float = pivot a (columns n a j) j in
      let ok : T (accepted (judge_column n a j)) = lowest_accepted (judge_column n a) c (subst (λ r. T (accepted r)) (sym before) tt) j low in
      ap (column_rules j (entry a j j) x) (is_true _ (rules_accepted j (entry a j j) x _ ok).1)

  pivots_before : lowest_refusal (judge_pivot n a) c ≡ success
  pivots_before = sym (lowest_same (judge_column n a) (judge_pivot n a) c same_before) ∙ before

-- ---- a column is looked through row by row

pub column_none : (w s : ℕ) (m : List Float) → true ≡ column_finite w (s + 1) m s
unfolding all tabulate grow
column_none w s m = let none : s + 1 - (s + 1) ≡ 0 = omega arith in rw none

pub column_next :
    (w r s : ℕ) (m : List Float) → s < r → column_finite w r m s && finite (get_or m (row_start w r + s) nan) ≡ column_finite w (r + 1) m s
unfolding all tabulate grow
column_next w r s m low =
    let f : ℕ → Float = λ i. get_or m (row_start w (s + 1 + i) + s) nan in
    let count : r + 1 - (s + 1) ≡ suc (r - (s + 1)) = omega arith in
    let row : s + 1 + (r - (s + 1)) ≡ r = omega arith in
    rw count
    (ap (λ x. column_finite w r m s && x)
    (ap (λ q. finite (get_or m (row_start w q + s) nan)) (sym row) ∙ sym (and-true (finite (f (r - (s + 1))))))
    ∙ sym (all_append finite (tabulate (r - (s + 1)) f) (f (r - (s + 1)) ∷ [])))

-- where every value of the rows is finite, each column is
pub columns_finite :
    (w h k : ℕ) (m : List Float) → k < w → w ≤ h → row_start w h ≤ length m → T (all finite (take (row_start w h) m)) → T (column_finite w h m k)
columns_finite w h k m narrow tall room t =
    all_of finite (tabulate (h - (k + 1)) f) nan
    (λ i few.
    let short : i < h - (k + 1) = omega (arith, length_tabulate f (h - (k + 1))) in
    let inside : row_start w (k + 1 + i) + k < row_start w h = row_lt w (k + 1 + i) h k (omega arith) (omega arith) in
    subst (λ x. T (finite x)) (get_or-take (row_start w h) m (row_start w (k + 1 + i) + k) nan inside ∙ sym (get_d_tabulate f (h - (k + 1)) i nan short))
    (all_at finite (take (row_start w h) m) t (row_start w (k + 1 + i) + k) nan (omega (arith, length-take-le (row_start w h) m room))))
  where
    f : ℕ → Float
    f = λ i. get_or m (row_start w (k + 1 + i) + k) nan

module _
    (n : ℕ) (a : Triangle) (c w h : ℕ) (m : List Float) (order : c + h ≡ n) (tall : w ≤ h) (stage : Stage n a c w w w (all_rows w) m)
    (before : lowest_refusal (judge_column n a) c ≡ success) (s : ℕ) (overflow : LowestOverflow w h m s) where
  abbrev pivot_of : ℕ → Float
  pivot_of j = pivot a (columns n a j) j

  -- ---- a column of the block

  finite_below_lem : (k : ℕ) → k < w → column_finite w h m k ≡ all finite (below (height n) a (c + k) (columns n a (c + k)))
  unfolding below height
  finite_below_lem k narrow =
      let count : h - (k + 1) ≡ n - (c + k) - 1 = omega arith in
      ap (all finite)
      (ap (λ q. tabulate q (λ i. get_or m (row_start w (k + 1 + i) + k) nan)) count
      ∙ tabulate_same (λ i. get_or m (row_start w (k + 1 + i) + k) nan) (λ i. quotient a (columns n a (c + k)) (root (pivot_of (c + k))) (c + k) (c + k + 1 + i))
      (n - (c + k) - 1)
      (λ i few.
      let row : c + (k + 1 + i) ≡ c + k + 1 + i = omega arith in
      stage.finished (k + 1 + i) k (omega arith) (omega arith) narrow narrow
      ∙ entry_quotient n a n (c + (k + 1 + i)) (c + k) (omega arith) (omega arith) (omega arith)
      ∙ ap (quotient a (columns n a (c + k)) (root (pivot_of (c + k))) (c + k)) row))

  abbrev rules_of : ℕ → Bool → Verdict
  rules_of j = column_rules j (entry a j j) (pivot_of j)

  column_judged : (k : ℕ) → k < w → judge_column n a (c + k) ≡ rules_of (c + k) (column_finite w h m k)
  unfolding column_verdict
  column_judged k narrow = ap (rules_of (c + k)) (sym (finite_below_lem k narrow))

  -- ---- columns before the overflow are judged by their pivots alone

  same : (j : ℕ) → j < c + s → judge_column n a j ≡ judge_pivot n a j
  same j low =
      elim (dec_lt j c) [
        | yes p ↦ same_before n a c before j p
        | no p ↦
            let here : c + (j - c) ≡ j = omega arith in
            let few : j - c < s = omega arith in
            let equal : judge_column n a (c + (j - c)) ≡ judge_pivot n a (c + (j - c)) =
            column_judged (j - c) (omega (arith, overflow.inside))
            ∙ ap (rules_of (c + (j - c))) (is_true _ (overflow.before (j - c) few))
            in
            rw here at equal
      ]

  pivots_pass : (k : ℕ) → ((j : ℕ) → j < k → T (accepted (judge_pivot n a j))) → lowest_refusal (judge_pivot n a) k ≡ success
  pivots_pass k each = lowest_success (judge_pivot n a) k (λ j low. rules_success j (entry a j j) (pivot_of j) true (each j low))

  columns_pass : (j : ℕ) → j ≤ c + s → ((i : ℕ) → i < j → T (accepted (judge_pivot n a i))) → lowest_refusal (judge_column n a) j ≡ success
  columns_pass j low each = lowest_same (judge_column n a) (judge_pivot n a) j (λ i few. same i (omega arith)) ∙ pivots_pass j each

  -- ---- the verdict

  module _ (first : Verdict) (e : first ≡ lowest_refusal (judge_pivot n a) (c + w)) where
    -- no overflow
    verdict_first : s ≡ w → first ≡ lowest_refusal (judge_column n a) (c + w)
    verdict_first end =
        e ∙ sym (lowest_same (judge_column n a) (judge_pivot n a) (c + w) (λ j low. same j (omega arith)))

    abbrev Found : Type 0
    Found = Lowest (judge_pivot n a) (c + w) (lowest_refusal (judge_pivot n a) (c + w))

    refusal_of : accepted first ≡ false → Found
    refusal_of refused =
        lowest_refused (judge_pivot n a) (c + w) (subst (λ r. T (not (accepted r))) e (subst (λ b. T (not b)) (sym refused) tt))

    place_of : (refused : accepted first ≡ false) → first.place ≡ (refusal_of refused).at
    place_of refused =
        let found : Found = refusal_of refused in
        let here : first ≡ judge_pivot n a found.at = e ∙ found.there in
        ap (λ (v : Verdict). v.place) here
        ∙ rules_place found.at (entry a found.at found.at) (pivot_of found.at) true (ap (λ r. accepted r) (sym here) ∙ refused)

    -- a pivot refuses its column, before any column overflows
    verdict_pivot : accepted first ≡ false → first.place < c + s → first ≡ lowest_refusal (judge_column n a) (c + w)
    verdict_pivot refused low =
        let found : Found = refusal_of refused in
        let j : ℕ = found.at in
        let here : first ≡ judge_pivot n a j = e ∙ found.there in
        let lt : j < c + s = omega (arith, place_of refused) in
        let equal : judge_column n a j ≡ judge_pivot n a j = same j lt in
        here
        ∙ sym equal
        ∙ sym
        (lowest_found (judge_column n a) j (c + w) found.inside (columns_pass j (omega arith) found.before)
        (ap (λ r. accepted r) (equal ∙ sym here) ∙ refused))

    -- else the overflow's column decides, and is refused
    overflow_decides :
        s < w → ((j : ℕ) → j < c + s → T (accepted (judge_pivot n a j))) →
        (rules_of (c + s) false ≡ lowest_refusal (judge_column n a) (c + w)) × (accepted (lowest_refusal (judge_column n a) (c + w)) ≡ false)
    overflow_decides narrow each =
        let equal : judge_column n a (c + s) ≡ rules_of (c + s) false = column_judged s narrow ∙ ap (rules_of (c + s)) (overflow.here narrow) in
        let refused : accepted (judge_column n a (c + s)) ≡ false =
        ap (λ r. accepted r) equal ∙ rules_not_finite (c + s) (entry a (c + s) (c + s)) (pivot_of (c + s))
        in
        let found : lowest_refusal (judge_column n a) (c + w) ≡ judge_column n a (c + s) =
        lowest_found (judge_column n a) (c + s) (c + w) (omega arith) (columns_pass (c + s) (omega arith) each) refused
        in
        (sym (found ∙ equal), ap (λ r. accepted r) found ∙ refused)

  -- ---- what the columns are judged to

  module _ (first : Judgement) (e : first ≡ pivots_to n a (c + w)) where
    verdict_is : first.verdict ≡ lowest_refusal (judge_pivot n a) (c + w)
    verdict_is = ap (λ (r : Judgement). r.verdict) e

    judged_same : first.verdict ≡ lowest_refusal (judge_column n a) (c + w) → first ≡ columns_to n a (c + w)
    judged_same v = e ∙ ap (λ r. judgement r (every (exact_column n a) (c + w))) (sym verdict_is ∙ v)

    pub judged_first : s ≡ w → first ≡ columns_to n a (c + w)
    judged_first end = judged_same (verdict_first first.verdict verdict_is end)

    pub judged_pivot : accepted first.verdict ≡ false → first.verdict.place < c + s → first ≡ columns_to n a (c + w)
    judged_pivot refused low = judged_same (verdict_pivot first.verdict verdict_is refused low)

    judged_refused : (v : Verdict) (t : Bool) → v ≡ lowest_refusal (judge_column n a) (c + w) → accepted (lowest_refusal (judge_column n a) (c + w)) ≡ false → judgement v t ≡ columns_to n a (c + w)
    judged_refused v t is refused = rw (is, refused) refl

    -- a pivot refuses the overflow's column itself, and is the value
    pub judged_again :
        s < w → accepted first.verdict ≡ false → first.verdict.place ≡ c + s → (entered : Float) → entered ≡ entry a (c + s) (c + s) → (t : Bool) →
        judgement (column_rules (c + s) entered first.verdict.value false) t ≡ columns_to n a (c + w)
    judged_again narrow refused here entered own t =
        let found : Found first.verdict verdict_is = refusal_of first.verdict verdict_is refused in
        let at : found.at ≡ c + s = sym (place_of first.verdict verdict_is refused) ∙ here in
        let is : first.verdict ≡ rules_of (c + s) true = rw at at (verdict_is ∙ found.there) in
        let value : first.verdict.value ≡ pivot_of (c + s) =
        ap (λ (v : Verdict). v.value) is
        ∙ rules_value (c + s) (entry a (c + s) (c + s)) (pivot_of (c + s)) (ap (λ r. accepted r) (sym is) ∙ refused)
        in
        let decided = overflow_decides first.verdict verdict_is narrow (λ j low. found.before j (omega (arith, at))) in
        judged_refused _ t (ap₂ (λ v x. column_rules (c + s) v x false) own value ∙ decided.0) decided.1

    -- no pivot up to the overflow's column refuses
    pub judged_below :
        s < w → (accepted first.verdict ≡ true) ⊎ ((accepted first.verdict ≡ false) × (c + s < first.verdict.place)) →
        record { verdict = refusal 11 (c + s) zero64; exact = false } ≡ columns_to n a (c + w)
    unfolding rule11
    judged_below narrow decided =
        let each : (j : ℕ) → j < suc (c + s) → T (accepted (judge_pivot n a j)) = passing decided in
        let found = overflow_decides first.verdict verdict_is narrow (λ j low. each j (omega arith)) in
        let only : rules_of (c + s) false ≡ rule11 (c + s) false =
        rules_below (c + s) (entry a (c + s) (c + s)) (pivot_of (c + s)) (each (c + s) (omega arith))
        in
        rw (← only, found.0, found.1) refl
      where
        passing :
            (accepted first.verdict ≡ true) ⊎ ((accepted first.verdict ≡ false) × (c + s < first.verdict.place)) →
            (j : ℕ) → j < suc (c + s) → T (accepted (judge_pivot n a j))
        passing (inl passed) j low =
            lowest_accepted (judge_pivot n a) (c + w) (subst (λ r. T (accepted r)) verdict_is (subst T (sym passed) tt)) j (omega arith)
        passing (inr refused) j low =
            (refusal_of first.verdict verdict_is refused.0).before j (omega (arith, place_of first.verdict verdict_is refused.0, refused.1))

-- ---- values, and then what the columns are judged to

pub block_column_factored :
    (c w h : ℕ) (saved saved₁ m m' : List Float) (before first answer : Judgement) → w ≤ h → SameTo (row_start w h) saved saved₁ →
    ColumnsFinished c w h 0 w saved before m first m' → BlockColumnJudged c w h saved₁ first m' answer → BlockColumnFactored c w h saved before m answer m'
block_column_factored c w h saved saved₁ m m' before first answer tall same columns judged =
    record {
      kept = columns.kept;
      beyond = columns.beyond;
      stage = columns.stage;
      judgement = λ n a order stage entered passed is.
          let by-pivots : before ≡ pivots_to n a c =
          is ∙ ap (λ r. judgement r (every (exact_column n a) c)) (passed ∙ sym (pivots_before n a c passed))
          in
          judged n a order (columns.stage n a order stage) (entered_same tall same entered) passed
          (columns.judgement n a order stage entered (rw add-zero by-pivots));
    }
