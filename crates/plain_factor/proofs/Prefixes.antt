-- Packed memory whose columns before j are those of the factor: one column more, and the verdict on all columns. Assumes nothing.
use Prim.Native.Nat.{ℕ, suc, ◌+◌, ◌-◌, ◌≤◌, ◌<◌}
use native.Mathlib.Numerals.{add-one}
use native.Mathlib.Omega.{arith}
use mathlib.Core.Path.{◌≡◌, refl, sym, ap, ap₂, ◌∙◌}
use mathlib.Core.Bool.{Bool, true, false, cond, ◌&&◌}
use mathlib.Core.List.{List, [], ◌∷◌}
use lib.ListN.{length, get_or}
use lib.Ieee.{Float, nan, binary64, div}
use Rattle.binary64.specs.Kinds.{finite}
use Rattle.binary64.specs.Root.{root}
use Rattle.binary64.specs.Judged.{judged, exact_root}
use Rattle.shape.specs.Places.{triangle, packed_place}
use Rattle.shape.specs.Layouts.{Entry}
use Rattle.shape.proofs.Bijections.{packed_bijection}
use Rattle.calls.specs.declared.Verdict.{Verdict}
use Rattle.calls.specs.Sequences.{iterate, grow, all, every}
use Rattle.calls.specs.Triangles.{Triangle, entry, height, store_column, store}
use Rattle.calls.specs.Arithmetic.{minus_products, pivot, quotient, below, factor_column, cholesky}
use Rattle.calls.specs.Refusals.{success, accepted, lowest_refusal, column_rules, column_verdict, column_exact}
use Rattle.calls.specs.declared.Judgement.{Judgement}
use Rattle.calls.specs.Judgements.{judgement, judged_to, Joined}
use Rattle.calls.specs.Calls.{judge_column, exact_column, columns_verdict, columns_exact}
use Rattle.calls.proofs.Sequences.{tabulate_same, iterate_alike}
use Rattle.calls.proofs.Triangles.{entry_load, stored, store_same, store_other}
use Rattle.calls.proofs.Columns.{columns, column_of, shaped_columns, products_same}
use Rattle.calls.proofs.Judging.{lowest_next, lowest_found}
use Rattle.calls.proofs.ColumnRules.{rules_success, rules_place}
use Rattle.plain_factor.specs.Steps.{held, Judged, Factored}

-- ---- one column more

-- m with the columns before j written
abbrev pub prefix_of : ℕ → List Float → ℕ → List Float
prefix_of n m j = store (packed_place n) (columns n (held n m) j) m

-- how column j is judged, from the columns before it
abbrev pub rule_of : ℕ → List Float → ℕ → Verdict
rule_of n m = judge_column n (held n m)

abbrev pub exact_of : ℕ → List Float → ℕ → Bool
exact_of n m = exact_column n (held n m)

pub prefix_none : (n : ℕ) (m : List Float) → m ≡ prefix_of n m 0
unfolding store cholesky grow iterate
prefix_none n m = refl

module _ (n : ℕ) (m : List Float) (size : length m ≡ triangle n) where
  abbrev a : Triangle
  a = held n m

  abbrev prefix : ℕ → List Float
  prefix = prefix_of n m

  prefix_next : (j : ℕ) → j < n → prefix (suc j) ≡ store_column (packed_place n) j (factor_column (height n) a j (columns n a j)) (prefix j)
  unfolding store iterate
  prefix_next j h =
      ap (λ k. stored (packed_place n) (columns n a (suc j)) k m) (shaped_columns n a (suc j) h).count
      ∙ ap₂ (store_column (packed_place n) j) (column_of n a (suc j) j (omega arith))
      (iterate_alike (λ k s. store_column (packed_place n) k (get_or (columns n a (suc j)) k []) s)
      (λ k s. store_column (packed_place n) k (get_or (columns n a j) k []) s) j m
      (λ k p. ap (λ c. store_column (packed_place n) k c (stored (packed_place n) (columns n a j) k m)) (column_of n a (suc j) k (omega arith) ∙ sym (column_of n a j k p))))
      ∙ ap (λ k. store_column (packed_place n) j (factor_column (height n) a j (columns n a j)) (stored (packed_place n) (columns n a j) k m))
      (sym (shaped_columns n a j (omega arith)).count)

  module _ (j : ℕ) (inside : j < n) where
    abbrev t : Triangle
    t = held n (prefix j)

    abbrev l : Triangle
    l = columns n a j

    prefix_before : (i c : ℕ) → c ≤ i → i < n → c < j → entry t i c ≡ entry l i c
    prefix_before i c low h before =
        let e : Entry n i c = record { lower = low; inside = h } in
        entry_load (packed_place n) n (prefix j) i c e
        ∙ store_same (packed_place n) n (packed_bijection n) l j (shaped_columns n a j (omega arith)) m (omega arith) i c nan e before

    prefix_column : (i : ℕ) → j ≤ i → i < n → entry t i j ≡ entry a i j
    prefix_column i low h =
        let e : Entry n i j = record { lower = low; inside = h } in
        entry_load (packed_place n) n (prefix j) i j e
        ∙ store_other (packed_place n) n (packed_bijection n) l j (shaped_columns n a j (omega arith)) m (omega arith) i j nan e (omega arith)
        ∙ sym (entry_load (packed_place n) n m i j e)

    prefix_products :
        (i : ℕ) → j ≤ i → i < n →
        minus_products (λ c. entry t i c) (λ c. entry t j c) j (entry t i j) ≡ minus_products (λ c. entry l i c) (λ c. entry l j c) j (entry a i j)
    prefix_products i low h =
        products_same (λ c. entry t i c) (λ c. entry l i c) (λ c. entry t j c) (λ c. entry l j c) j (entry t i j)
        (λ c p. prefix_before i c (omega arith) h p) (λ c p. prefix_before j c (omega arith) inside p)
        ∙ ap (minus_products (λ c. entry l i c) (λ c. entry l j c) j) (prefix_column i low h)

    prefix_pivot : pivot t t j ≡ pivot a l j
    unfolding pivot
    prefix_pivot = prefix_products j (omega arith) inside

    prefix_below : below (height n) t j t ≡ below (height n) a j l
    unfolding below height quotient
    prefix_below =
        tabulate_same (λ r. quotient t t (root (pivot t t j)) j (j + 1 + r)) (λ r. quotient a l (root (pivot a l j)) j (j + 1 + r)) (n - j - 1)
        (λ r h. ap₂ (div binary64) (prefix_products (j + 1 + r) (omega arith) (omega arith)) (ap root prefix_pivot))

    prefix_rules : column_verdict (height n) t t j ≡ column_verdict (height n) a l j
    unfolding column_verdict
    prefix_rules =
        ap (λ e. column_rules j e (pivot t t j) (all finite (below (height n) t j t))) (prefix_column j (omega arith) inside)
        ∙ ap₂ (λ x xs. column_rules j (entry a j j) x (all finite xs)) prefix_pivot prefix_below

    prefix_exact : column_exact t t j ≡ column_exact a l j
    unfolding column_exact
    prefix_exact = ap (λ x. exact_root (judged x)) prefix_pivot

    prefix_factor_column : factor_column (height n) t j t ≡ factor_column (height n) a j l
    unfolding factor_column
    prefix_factor_column = ap₂ (λ p b. root p ∷ b) prefix_pivot prefix_below

  -- one column more, judged
  prefix_judged :
      (j : ℕ) (s s' : List Float) (r : Judgement) → j < n → s ≡ prefix j → Judged n j s r s' →
      (r ≡ judgement (rule_of n m j) (exact_of n m j)) × (s' ≡ cond (accepted (rule_of n m j)) (prefix (suc j)) (prefix j))
  prefix_judged j s s' r inside e g =
      let g' : Judged n j (prefix j) r s' = rw e at g in
      let is : r ≡ judgement (rule_of n m j) (exact_of n m j) = g'.result ∙ ap₂ judgement (prefix_rules j inside) (prefix_exact j inside) in (
        is,
        g'.matrix
            ∙ ap (λ c. cond (accepted r.verdict) (store_column (packed_place n) j c (prefix j)) (prefix j)) (prefix_factor_column j inside)
            ∙ ap (λ x. cond (accepted r.verdict) x (prefix j)) (sym (prefix_next j inside))
            ∙ ap (λ (x : Judgement). cond (accepted x.verdict) (prefix (suc j)) (prefix j)) is,
      )

-- ---- what all columns are judged to

pub judged_all :
    (n : ℕ) (m s : List Float) (exact : Bool) → lowest_refusal (rule_of n m) n ≡ success → exact ≡ every (exact_of n m) n → s ≡ prefix_of n m n →
    Factored n m (record { verdict = success; exact = exact }) s
unfolding columns_verdict columns_exact
judged_all n m s exact before is e = record { result = rw (before, is) refl; matrix = e }

-- ---- a turn of the column loop

module _ (n : ℕ) (m : List Float) (size : length m ≡ triangle n) (j : ℕ) (inside : j < n) (before : lowest_refusal (rule_of n m) j ≡ success)
    (s s' : List Float) (r : Judgement) (written : s ≡ prefix_of n m j) (column : Judged n j s r s') where
  abbrev entered_here : Float
  entered_here = entry (held n m) j j

  abbrev pivot_here : Float
  pivot_here = pivot (held n m) (columns n (held n m) j) j

  abbrev finite_below : Bool
  finite_below = all finite (below (height n) (held n m) j (columns n (held n m) j))

  column_is : r ≡ judgement (rule_of n m j) (exact_of n m j)
  column_is = (prefix_judged n m size j s s' r inside written column).0

  rule_is : {t : Bool} → accepted r.verdict ≡ t → accepted (rule_of n m j) ≡ t
  rule_is e = ap (λ (x : Judgement). accepted x.verdict) (sym column_is) ∙ e

  memory_is : {t : Bool} → accepted r.verdict ≡ t → s' ≡ cond t (prefix_of n m (suc j)) (prefix_of n m j)
  memory_is e =
      (prefix_judged n m size j s s' r inside written column).1 ∙ ap (λ b. cond b (prefix_of n m (suc j)) (prefix_of n m j)) (rule_is e)

  pub columns_refused : accepted r.verdict ≡ false → Factored n m r s'
  unfolding columns_verdict columns_exact column_verdict
  columns_refused f =
      let refused : accepted (rule_of n m j) ≡ false = rule_is f in
      record {
        result = column_is ∙ rw (lowest_found (rule_of n m) j n inside before refused, refused) refl;
        matrix = memory_is f ∙ rw (column_is, refused, rules_place j entered_here pivot_here finite_below refused) refl;
      }

  pub columns_continued :
      accepted r.verdict ≡ true →
      (s' ≡ prefix_of n m (j + 1)) × (lowest_refusal (rule_of n m) (j + 1) ≡ success) × (every (exact_of n m) j && r.exact ≡ every (exact_of n m) (j + 1))
  unfolding column_verdict every
  columns_continued t = (
    rw add-one (memory_is t),
    lowest_next (rule_of n m) j before ∙ rules_success j entered_here pivot_here finite_below (rw (rule_is t) tt),
    rw (add-one j, column_is, rule_is t) refl,
  )

  -- what the columns up to this one are judged to, this one joined to those before it
  module _ (exact : Bool) (joined : Judgement) (roots : exact ≡ every (exact_of n m) j) (law : Joined (record { verdict = success; exact = exact }) r joined) where
    joined_to : joined ≡ judged_to (rule_of n m) (exact_of n m) (j + 1)
    joined_to = law (rule_of n m) (exact_of n m) j (rw (before, roots) refl) column_is

    joined_rule : joined.verdict ≡ rule_of n m j
    joined_rule = ap (λ (x : Judgement). x.verdict) joined_to ∙ lowest_next (rule_of n m) j before

    joined_accepts : {t : Bool} → accepted joined.verdict ≡ t → accepted r.verdict ≡ t
    joined_accepts e = ap (λ (x : Judgement). accepted x.verdict) column_is ∙ ap accepted (sym joined_rule) ∙ e

    pub joined_refused : accepted joined.verdict ≡ false → Factored n m joined s'
    joined_refused f =
        let refused : accepted (rule_of n m j) ≡ false = rule_is (joined_accepts f) in
        let here : joined ≡ record { verdict = rule_of n m j; exact = false } = rw (lowest_next (rule_of n m) j before, refused) at joined_to in
        let column : r ≡ record { verdict = rule_of n m j; exact = false } = rw refused at column_is in
        rw (here ∙ sym column) (columns_refused (joined_accepts f))

    pub joined_continued :
        accepted joined.verdict ≡ true →
        (s' ≡ prefix_of n m (j + 1)) × (lowest_refusal (rule_of n m) (j + 1) ≡ success) × (joined.exact ≡ every (exact_of n m) (j + 1))
    joined_continued t =
        let next = columns_continued (joined_accepts t) in
        (next.0, next.1, ap (λ (x : Judgement). x.exact) joined_to ∙ rw next.1 refl)
