-- A column of work memory against document 01's formulas on the triangle that packed memory holds, and how the column is judged. Assumes nothing.
use Prim.Native.Nat.{ℕ, ◌+◌, ◌-◌, ◌≤◌, ◌<◌}
use native.Mathlib.Numerals.{add-one}
use native.Mathlib.Omega.{arith}
use mathlib.Core.Path.{◌≡◌, refl, sym, ap, ap₂, ◌∙◌}
use mathlib.Core.Bool.{Bool, true, false, cond}
use mathlib.Core.Logic.{◌≢◌}
use mathlib.Core.List.{List, ◌∷◌, ◌++◌, append-nil}
use borrow.Author.Rules.{part_to_end}
use borrow.Rule.Slice.PartMut.{put_mid}
use lib.ListN.{length, get_or, set, take, drop, length-drop, length-set, get_or-append}
use lib.Seq.{length-take-le, drop-append_seam, get_or-drop, drop-cons, get_or-set_same, get_or-set_other}
use lib.Ieee.{Float, nan, binary64, div}
use Rattle.binary64.specs.Kinds.{finite}
use Rattle.binary64.specs.Root.{root}
use Rattle.binary64.specs.Judged.{judged, exact_root}
use Rattle.binary64.specs.declared.Pivot.{Pivot}
use Rattle.binary64.specs.declared.Pivot.TheVariants.{Root, Refused}
use Rattle.std.specs.Prelude.{Option, None, Some, IfSome}
use Rattle.std.proofs.lemmas.List.{get_or-take, get_or-append_right, drop_all}
use Rattle.shape.specs.Places.{packed_place}
use Rattle.shape.specs.Layouts.{Entry}
use Rattle.shape.proofs.Bijections.{packed_bijection}
use Rattle.calls.specs.Sequences.{all}
use Rattle.calls.specs.Triangles.{Triangle, entry, height, store_column}
use Rattle.calls.specs.Arithmetic.{minus_products, pivot, quotient, below, factor_column}
use Rattle.calls.specs.Refusals.{success, accepted, column_rules, column_verdict, column_exact}
use Rattle.calls.specs.declared.Judgement.{Judgement}
use Rattle.calls.specs.Judgements.{judgement}
use Rattle.calls.proofs.Sequences.{tabulate_of}
use Rattle.calls.proofs.Triangles.{entry_load, column_other}
use Rattle.calls.proofs.Columns.{length_column, products_same}
use Rattle.calls.proofs.ColumnRules.{judged_root, rules_refused}
use Rattle.plain_factor.specs.Steps.{Same, WaitingFrom, reduced, Reduced, held, Divided, Judged}

-- ---- formulas

module _ (n j : ℕ) (m : List Float) where
  abbrev t : Triangle
  t = held n m

  products_held :
      (i : ℕ) → j ≤ i → i < n →
      reduced n m j j i ≡ minus_products (λ c. entry t i c) (λ c. entry t j c) j (entry t i j)
  unfolding reduced
  products_held i low inside =
      products_same (λ c. get_or m (packed_place n i c) nan) (λ c. entry t i c) (λ c. get_or m (packed_place n j c) nan) (λ c. entry t j c) j
      (get_or m (packed_place n i j) nan) (λ c h. at i c (omega arith) inside) (λ c h. at j c (omega arith) (omega arith))
      ∙ ap (minus_products (λ c. entry t i c) (λ c. entry t j c) j) (at i j low inside)
    where
      at : (r c : ℕ) → c ≤ r → r < n → get_or m (packed_place n r c) nan ≡ entry t r c
      at r c h h' = sym (entry_load (packed_place n) n m r c (record { lower = h; inside = h' }))

  pivot_held : j < n → reduced n m j j j ≡ pivot t t j
  unfolding pivot
  pivot_held h = products_held j (omega arith) h

  module _ (w w' : List Float) (d : Float) (finite_rows : Bool)
      (size : length w ≡ n) (size' : length w' ≡ n) (inside : j < n) (rows : Reduced n m j j j n w) (divided : Divided j d w w' finite_rows)
      (root_is : d ≡ root (pivot t t j)) where
    below_held : drop (j + 1) w' ≡ below (height n) t j t
    unfolding below height quotient
    below_held =
        sym
        (tabulate_of (λ r. quotient t t (root (pivot t t j)) j (j + 1 + r)) (n - j - 1) (drop (j + 1) w') nan
        (length-drop (j + 1) w' ∙ omega arith)
        (λ r h.
        get_or-drop (j + 1) w' r nan
        ∙ divided.rows (j + 1 + r) (omega arith) (omega arith)
        ∙ ap₂ (div binary64) (rows (j + 1 + r) (omega arith) (omega arith) ∙ products_held (j + 1 + r) (omega arith) (omega arith)) root_is))

    column_held : drop j w' ≡ factor_column (height n) t j t
    unfolding factor_column
    column_held =
        drop-cons w' j nan (omega arith)
        ∙ ap₂ (λ x xs. x ∷ xs) (divided.diagonal ∙ root_is) (ap (λ k. drop k w') (sym (add-one j)) ∙ below_held)

-- ---- a column judged

module _ (j : ℕ) (d : Float) (w part : List Float) (inside : j < length w) where
  -- the column with its diagonal value, and the rows below it, which become `part`
  abbrev started : List Float
  started = set w j d

  abbrev below_it : List Float
  below_it = take (length started - (j + 1)) (drop (j + 1) started)

  module _ (size : length part ≡ length below_it) (each : (r : ℕ) → r < length below_it → get_or part r nan ≡ div binary64 (get_or below_it r nan) d) where
    finished : List Float
    finished = take (j + 1) started ++ part

    front : length (take (j + 1) started) ≡ j + 1
    front = length-take-le _ _ (omega (arith, length-set w j d))

    many : length below_it ≡ length w - (j + 1)
    many = rw (part_to_end started (j + 1)) (length-drop (j + 1) started ∙ ap (λ k. k - (j + 1)) (length-set w j d))

    is_finished : put_mid (j + 1) (length started - (j + 1)) started part ≡ finished
    unfolding finished
    is_finished =
        ap (λ t. take (j + 1) started ++ (part ++ t)) (drop_all (length started - (j + 1)) (drop (j + 1) started) (omega (arith, length-drop (j + 1) started)))
        ∙ ap (λ t. take (j + 1) started ++ t) (append-nil part)

    above : (p : ℕ) → p ≤ j → get_or finished p nan ≡ get_or started p nan
    unfolding finished
    above p h =
        get_or-append (take (j + 1) started) part nan p (omega (arith, front)) ∙ get_or-take (j + 1) started p nan (omega arith)

    under : (i : ℕ) → j < i → i < length w → get_or finished i nan ≡ div binary64 (get_or w i nan) d
    unfolding finished
    under i low h =
        let place : j + 1 + (i - (j + 1)) ≡ i = omega arith in
        get_or-append_right (take (j + 1) started) part (j + 1) i nan front (omega arith)
        ∙ each (i - (j + 1)) (omega (arith, many))
        ∙ ap (λ x. div binary64 x d)
        (ap (λ l. get_or l (i - (j + 1)) nan) (part_to_end started (j + 1))
        ∙ get_or-drop (j + 1) started (i - (j + 1)) nan
        ∙ rw place (get_or-set_other w j i d nan (λ g. omega arith)))

    pub rows_divided : Divided j d w (put_mid (j + 1) (length started - (j + 1)) started part) (all finite part)
    unfolding finished
    rows_divided =
        rw is_finished
        (record {
          before = λ p low h. above p (omega arith) ∙ get_or-set_other w j p d nan (λ g. omega arith);
          diagonal = above j (omega arith) ∙ get_or-set_same w j d nan inside;
          rows = under;
          finites = ap (all finite) (sym (rw front at (drop-append_seam (take (j + 1) started) part)));
        })

module _ (n j : ℕ) (m w : List Float) (inside : j < n) (size : length w ≡ n) (rows : Reduced n m j j j n w) where
  abbrev x : Float
  x = pivot (held n m) (held n m) j

  pivot_is : get_or w j nan ≡ x
  pivot_is = rows j (omega arith) inside ∙ pivot_held n j m inside

  -- what the column's rules say of the values in memory they say of the column
  rules_are :
      (f : Bool) → judgement (column_rules j (get_or m (packed_place n j j) nan) (get_or w j nan) f) (exact_root (judged (get_or w j nan)))
      ≡ judgement (column_rules j (entry (held n m) j j) x f) (exact_root (judged x))
  rules_are f =
      ap₂ (λ e v. judgement (column_rules j e v f) (exact_root (judged v)))
      (sym (entry_load (packed_place n) n m j j (record { lower = omega arith; inside = inside }))) pivot_is

  module _ (p : Pivot) (is : p ≡ judged (get_or w j nan)) where
    -- a refused pivot decides, whatever stands below it
    pub pivot_refused :
        {v : Float} {r : Judgement} → p ≡ Refused v → r ≡ judgement (column_rules j (get_or m (packed_place n j j) nan) (get_or w j nan) true) (exact_root p) →
        Judged n j m r m
    unfolding column_verdict column_exact
    pivot_refused {v} {r} e er =
        let here : judged x ≡ Refused v = ap judged (sym pivot_is) ∙ sym is ∙ e in
        let all-below : Bool = all finite (below (height n) (held n m) j (held n m)) in
        let result : r ≡ judgement (column_rules j (entry (held n m) j j) x true) (exact_root (judged x)) = er ∙ (rw is) ∙ rules_are true in
        record {
          result =
              result
              ∙ ap (λ v. judgement v (exact_root (judged x))) (rules_refused j (entry (held n m) j j) x v true here ∙ sym (rules_refused j (entry (held n m) j j) x v all-below here));
          matrix = rw (result, rules_refused j (entry (held n m) j j) x v true here);
        }

    pub pivot_not_accepted :
        (f : Bool) {v : Float} {e : Bool} → p ≡ Refused v →
        record { verdict = success; exact = e } ≡ judgement (column_rules j (get_or m (packed_place n j j) nan) (get_or w j nan) f) (exact_root p) → ⊥
    pivot_not_accepted f {v} e er =
        let here : judged (get_or w j nan) ≡ Refused v = sym is ∙ e in
        let no : true ≡ false =
        ap (λ (x : Judgement). accepted x.verdict) er ∙ ap accepted (rules_refused j (get_or m (packed_place n j j) nan) (get_or w j nan) v f here) in
        cc

    module _ (d : Float) (t : Bool) (ok : p ≡ Root d t) (w' : List Float) (finite_rows : Bool) (size' : length w' ≡ n)
        (divided : Divided j d w w' finite_rows) where
      root_is : d ≡ root x
      root_is = judged_root x d t (ap judged (sym pivot_is) ∙ sym is ∙ ok)

      pub column_judged :
          {r : Judgement} {m' : List Float} →
          r ≡ judgement (column_rules j (get_or m (packed_place n j j) nan) (get_or w j nan) finite_rows) (exact_root p) →
          m' ≡ cond (accepted r.verdict) (store_column (packed_place n) j (drop j w') m) m → Judged n j m r m'
      unfolding column_verdict column_exact
      column_judged {r} er stored =
          record {
            result =
                er
                ∙ ap (λ p. judgement (column_rules j (get_or m (packed_place n j j) nan) (get_or w j nan) finite_rows) (exact_root p)) is
                ∙ rules_are finite_rows
                ∙ ap (λ f. judgement (column_rules j (entry (held n m) j j) x f) (exact_root (judged x)))
                (divided.finites ∙ ap (all finite) (below_held n j m w w' d finite_rows size size' inside rows divided root_is));
            matrix =
                stored
                ∙ ap (λ c. cond (accepted r.verdict) (store_column (packed_place n) j c m) m)
                (column_held n j m w w' d finite_rows size size' inside rows divided root_is);
          }

-- ---- what a column leaves

module _ (n j : ℕ) (m m' : List Float) (r : Judgement) (inside : j < n) (g : Judged n j m r m') where
  -- the other columns are as they were
  others_kept : (i c : ℕ) → Entry n i c → c ≢ j → get_or m' (packed_place n i c) nan ≡ get_or m (packed_place n i c) nan
  others_kept i c e ne = ap (λ x. get_or x (packed_place n i c) nan) g.matrix ∙ go (accepted r.verdict)
    where
      column : List Float
      column = factor_column (height n) (held n m) j (held n m)

      go : (b : Bool) → get_or (cond b (store_column (packed_place n) j column m) m) (packed_place n i c) nan ≡ get_or m (packed_place n i c) nan
      go true = column_other (packed_place n) n (packed_bijection n) column m i c j nan e ne (length_column n (held n m) j (held n m) inside)
      go false = refl

  -- and so the rows of the next one that wait are reduced in the memory after it as before
  pub waiting_kept : (i : ℕ) → j < i → i < n → reduced n m (j + 1) j i ≡ reduced n m' (j + 1) j i
  unfolding reduced
  waiting_kept i low h =
      sym
      (products_same (λ c. get_or m' (packed_place n i c) nan) (λ c. get_or m (packed_place n i c) nan) (λ c. get_or m' (packed_place n (j + 1) c) nan)
      (λ c. get_or m (packed_place n (j + 1) c) nan) j (get_or m' (packed_place n i (j + 1)) nan)
      (λ c p. others_kept i c (record { lower = omega arith; inside = h }) (λ e. omega arith))
      (λ c p. others_kept (j + 1) c (record { lower = omega arith; inside = omega arith }) (λ e. omega arith))
      ∙ ap (minus_products (λ c. get_or m (packed_place n i c) nan) (λ c. get_or m (packed_place n (j + 1) c) nan) j)
      (others_kept i (j + 1) (record { lower = omega arith; inside = h }) (λ e. omega arith)))

  pub rows_wait :
      (w w' : List Float) → Same 0 j w w' → (top : Option ℕ) → IfSome top (λ t. WaitingFrom n m (j + 1) t w) → IfSome top (λ t. WaitingFrom n m' (j + 1) t w')
  rows_wait w w' same None h = tt
  rows_wait w w' same (Some t) h =
      let room = h.room in
      let last : j + 1 - 1 ≡ j = omega arith in
      record {
        room = room;
        rows = rw last
            (λ r inside_r.
            same r (omega arith) (omega (arith, room.room)) ∙ rw last at h.rows r inside_r ∙ waiting_kept (t + r) (omega (arith, room.low)) inside_r);
      }
