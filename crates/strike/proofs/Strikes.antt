-- Laws of striking unknowns, specs/Strikes.antt of `calls`: what rule 20 says of a list, where the unknowns kept stand between those struck, the entries of the
-- front part, and what the call gives after its checks. The laws stated there are in StrikeLaws.antt. Assumes nothing.
use Prim.Native.Nat.{ℕ, zero, suc, ◌+◌, ◌-◌, ◌≤◌, ◌<◌}
use native.Mathlib.Numerals.{add-one}
use native.Mathlib.Omega.{arith}
use native.Mathlib.Decide.{dec_lt}
use mathlib.Core.Path.{◌≡◌, refl, sym, ap, ◌∙◌, subst}
use mathlib.Core.Bool.{Bool, true, false, not}
use mathlib.Core.List.{List, [], ◌∷◌, ◌++◌}
use borrow.Author.Tests.{lt-ltb}
use lib.Dec.{T, ltb, ltb→lt}
use lib.ListN.{length, get_or, replicate, length-replicate, get_or-eq_default}
use lib.Ieee.{Float, nan}
use lib.Ieee.Fits.{and_l, and_r}
use Rattle.binary64.specs.Kinds.{zero64}
use Rattle.shape.specs.Bounds.{max_order}
use Rattle.shape.specs.Places.{triangle, packed_place}
use Rattle.shape.specs.Layouts.{Entry}
use Rattle.shape.specs.declared.Shape.{Shape}
use Rattle.shape.proofs.Bounds.{packed_place_le}
use Rattle.shape.proofs.Bijections.{packed_bijection}
use Rattle.calls.specs.declared.Verdict.{Verdict}
use Rattle.calls.specs.declared.Call.TheVariants.{Strike}
use Rattle.calls.specs.Sequences.{tabulate, Rising, contains, passing}
use Rattle.calls.specs.Triangles.{Triangle, entry, height, load, store}
use Rattle.calls.specs.States.{next, suits}
use Rattle.calls.specs.Refusals.{success, accepted, refusal, refuse_if, first_refusal, rule2, rule4, rises_at, rule20}
use Rattle.calls.specs.Calls.{result_of, succeeded}
use Rattle.calls.specs.Strikes.{kept, principal, front, struck, strike_checks, Struck, smaller, strike, KeptRemain, Fresh}
use Rattle.calls.proofs.Sequences.{length_tabulate, get_d_tabulate}
use Rattle.strike.proofs.Selections.{contains_at, contains_absent, length_pass, length_fail, passing_at, passing_member, rising_at, rising_length, passing_rising, contains_passing}
use Rattle.calls.proofs.Triangles.{Shaped, entry_load, length_store, store_same, memory_ext}
use Rattle.calls.proofs.Refusals.{not_not, is_not_not, refuse_not, not_refused, first_passes, first_accepted, lowest_success, lowest_accepted, refuse_holds, none_holds, first_holds, lowest_holds}
use Rattle.calls.proofs.Checks.{size_rules, rule1_passes, rule15_passes, rule3_passes}
use Rattle.calls.proofs.CheckLaws.{refuse_accepted, sizes_accepted, Keeps, sizes_keep}
use Rattle.calls.proofs.Judging.{lowest_all, first_alone}

-- ---- rule 20

-- a list that it accepts
pub record Listed (n : ℕ) (list : List ℕ) : Type 0 where
  pub below : (p : ℕ) → p < length list → get_or list p 0 < n
  pub rising : Rising list

-- rule 20 at one position
abbrev pub listed_at : ℕ → List ℕ → ℕ → Verdict
listed_at n list p = refuse_if (not (rises_at n list p)) (refusal 20 p zero64)

-- from each number to the next
rising_of : (list : List ℕ) → ((p : ℕ) → suc p < length list → get_or list p 0 < get_or list (suc p) 0) → Rising list
rising_of list next i zero h p = absurd (omega arith)
rising_of list next i (suc i') h p =
    elim (dec_lt i i') [
      | yes q ↦ omega (arith, rising_of list next i i' q (omega arith), next i' p)
      | no q ↦ let e : i' ≡ i = omega arith in rw e (next i (omega arith))
    ]

module _ (n : ℕ) (list : List ℕ) where
  rises_below : (p : ℕ) → T (rises_at n list p) → get_or list p 0 < n
  unfolding rises_at
  rises_below zero t = ltb→lt (get_or list 0 0) n t
  rises_below (suc p) t = ltb→lt (get_or list (suc p) 0) n (and_l (ltb (get_or list (suc p) 0) n) (ltb (get_or list p 0) (get_or list (suc p) 0)) t)

  rises_next : (p : ℕ) → T (rises_at n list (suc p)) → get_or list p 0 < get_or list (suc p) 0
  unfolding rises_at
  rises_next p t =
      ltb→lt (get_or list p 0) (get_or list (suc p) 0)
      (and_r (ltb (get_or list (suc p) 0) n) (ltb (get_or list p 0) (get_or list (suc p) 0)) t)

  rises_of : Listed n list → (p : ℕ) → p < length list → T (rises_at n list p)
  unfolding rises_at
  rises_of l zero h = rw (lt-ltb (get_or list 0 0) n (l.below 0 h)) tt
  rises_of l (suc p) h = rw (lt-ltb (get_or list (suc p) 0) n (l.below (suc p) h), lt-ltb (get_or list p 0) (get_or list (suc p) 0) (l.rising p (suc p) (omega arith) h)) tt

  pub rule20_success : T (accepted (rule20 n list)) → rule20 n list ≡ success
  unfolding rule20
  rule20_success = lowest_all (listed_at n list) (λ p. refuse_accepted (not (rises_at n list p)) 19 p) (length list)

  pub rule20_alone : first_refusal (rule20 n list ∷ []) ≡ rule20 n list
  rule20_alone = first_alone (rule20 n list) rule20_success

  pub rule20_accepted : T (accepted (rule20 n list)) → Listed n list
  unfolding rule20
  rule20_accepted h =
      record { below = λ p q. rises_below p (rises p q); rising = rising_of list (λ p q. rises_next p (rises (suc p) q)) }
    where
      rises : (p : ℕ) → p < length list → T (rises_at n list p)
      rises p q = not_not (rises_at n list p) (not_refused (not (rises_at n list p)) 19 p zero64 (lowest_accepted (listed_at n list) (length list) h p q))

  pub rule20_passes : Listed n list → rule20 n list ≡ success
  unfolding rule20
  rule20_passes l =
      lowest_success (listed_at n list) (length list)
      (λ p q. refuse_not (not (rises_at n list p)) (refusal 20 p zero64) (is_not_not (rises_at n list p) (rises_of l p q)))

-- ---- the unknowns kept

abbrev left : List ℕ → ℕ → Bool
left list u = not (contains list u)

pub kept_remain : KeptRemain
unfolding kept
kept_remain list n = record { rising = passing_rising (left list) n; members = contains_passing (left list) n }

pub kept_below : (list : List ℕ) (n i : ℕ) → i < length (kept list n) → get_or (kept list n) i 0 < n
unfolding kept
kept_below list n i h = (passing_member (left list) n i h).below

-- an element of a list, whatever the default
pub get_d_any : (xs : List ℕ) (i d d' : ℕ) → i < length xs → get_or xs i d ≡ get_or xs i d'
get_d_any [] i d d' h = absurd (omega arith)
get_d_any (x ∷ xs) zero d d' h = refl
get_d_any (x ∷ xs) (suc i) d d' h = get_d_any xs i d d' (omega arith)

pub kept_at_most : (list : List ℕ) (n : ℕ) → length (kept list n) ≤ n
kept_at_most list n = rising_length (kept list n) n (kept_remain list n).rising (kept_below list n)

-- q unknowns of the list are below u, and the others are u or above
pub record Between (list : List ℕ) (n q u : ℕ) : Type 0 where
  pub index : q ≤ length list
  pub above : (x : ℕ) → x + 1 ≡ q → get_or list x 0 < u
  pub below : u ≤ get_or list q n

module _ (n : ℕ) (list : List ℕ) (l : Listed n list) where
  pub not_listed : (q u : ℕ) → Between list n q u → u < get_or list q n → contains list u ≡ false
  not_listed q u b h = contains_absent list u (λ x p e. apart x p e (dec_lt x q))
    where
      apart : (x : ℕ) → x < length list → get_or list x 0 ≡ u → Dec (x < q) → ⊥
      apart x p e (yes before) =
          let last : q - 1 + 1 ≡ q = omega arith in
          let low : get_or list (q - 1) 0 < u = b.above (q - 1) last in
          elim (dec_lt x (q - 1)) [
            | yes y ↦ omega (arith, l.rising x (q - 1) y (omega (arith, b.index)))
            | no y ↦ let same : x ≡ q - 1 = omega arith in omega (arith, ap (λ z. get_or list z 0) same)
          ]
      apart x p e (no after) =
          let there : get_or list q n ≡ get_or list q 0 = get_d_any list q n 0 (omega arith) in
          elim (dec_lt q x) [
            | yes y ↦ omega (arith, l.rising q x y p)
            | no y ↦ let same : x ≡ q = omega arith in omega (arith, ap (λ z. get_or list z 0) same)
          ]

  -- so u − q unknowns below u are kept
  pub kept_count : (u q : ℕ) → u ≤ n → Between list n q u → length (kept list u) + q ≡ u
  unfolding kept passing
  kept_count zero zero h b = refl
  kept_count zero (suc q) h b = absurd (omega (arith, b.above q (add-one q)))
  kept_count (suc u) zero h b =
      let here : Between list n 0 u = record { index = omega arith; above = λ x e. absurd (omega arith); below = omega (arith, b.below) } in
      let free : left list u ≡ true = ap not (not_listed 0 u here (omega (arith, b.below))) in
      omega (arith, length_pass (left list) u free, kept_count u 0 (omega arith) here)
  kept_count (suc u) (suc q) h b =
      let low : get_or list q 0 < suc u = b.above q (add-one q) in
      let inside : q < length list = omega (arith, b.index) in
      elim (dec_lt (get_or list q 0) u) [
        | yes y ↦
            let here : Between list n (suc q) u =
            record { index = b.index; above = λ x e. let same : x ≡ q = omega arith in rw same y; below = omega (arith, b.below) } in
            let free : left list u ≡ true = ap not (not_listed (suc q) u here (omega (arith, b.below))) in
            omega (arith, length_pass (left list) u free, kept_count u (suc q) (omega arith) here)
        | no y ↦
            let same : get_or list q 0 ≡ u = omega arith in
            let here : Between list n q u =
            record {
              index = omega arith;
              above = λ x e. omega (arith, l.rising x q (omega arith) inside);
              below = omega (arith, get_d_any list q n 0 inside);
            } in
            let named : left list u ≡ false = ap not (ap (contains list) (sym same) ∙ contains_at list q inside) in
            omega (arith, length_fail (left list) u named, kept_count u q (omega arith) here)
      ]

  pub length_kept : length (kept list n) + length list ≡ n
  length_kept =
      kept_count n (length list) (omega arith)
      (record {
        index = omega arith;
        above = λ x e. l.below x (omega arith);
        below = let past : get_or list (length list) n ≡ n = get_or-eq_default list n (omega arith) in omega arith;
      })

  -- and u, where it is not struck, comes after these
  pub kept_at : (q i : ℕ) → Between list n q (i + q) → i + q < get_or list q n → i + q < n → get_or (kept list n) i 0 ≡ i + q
  unfolding kept
  kept_at q i b h inside =
      let count : length (kept list (i + q)) + q ≡ i + q = kept_count (i + q) q (omega arith) b in
      let at : length (passing (left list) (i + q)) ≡ i = omega arith in
      let free : left list (i + q) ≡ true = ap not (not_listed q (i + q) b h) in
      ap (λ x. get_or (kept list n) x 0) (sym at) ∙ (passing_at (left list) n (i + q) inside free).there

-- ---- the front part

module _ (unknowns : List ℕ) (a : Triangle) where
  abbrev p : ℕ
  p = length unknowns

  column_principal : (j : ℕ) → j < p → get_or (principal unknowns a) j [] ≡ tabulate (p - j) (λ r. entry a (get_or unknowns (j + r) 0) (get_or unknowns j 0))
  unfolding principal height
  column_principal j h = get_d_tabulate (λ c. tabulate (p - c) (λ r. entry a (get_or unknowns (c + r) 0) (get_or unknowns c 0))) p j [] h

  pub shaped_principal : Shaped p p (principal unknowns a)
  unfolding principal height
  shaped_principal =
      record {
        count = length_tabulate (λ c. tabulate (p - c) (λ r. entry a (get_or unknowns (c + r) 0) (get_or unknowns c 0))) p;
        heights = λ j h. ap length (column_principal j h) ∙ length_tabulate (λ r. entry a (get_or unknowns (j + r) 0) (get_or unknowns j 0)) (p - j);
      }

  pub entry_principal : (i j : ℕ) → Entry p i j → entry (principal unknowns a) i j ≡ entry a (get_or unknowns i 0) (get_or unknowns j 0)
  unfolding entry
  entry_principal i j e =
      let lower : j ≤ i = e.lower in
      let inside : i < p = e.inside in
      let back : j + (i - j) ≡ i = omega arith in
      ap (λ c. get_or c (i - j) nan) (column_principal j (omega arith))
      ∙ get_d_tabulate (λ r. entry a (get_or unknowns (j + r) 0) (get_or unknowns j 0)) (p - j) (i - j) nan (omega arith)
      ∙ ap (λ x. entry a (get_or unknowns x 0) (get_or unknowns j 0)) back

-- of rising unknowns below n
module _ (unknowns : List ℕ) (n : ℕ) (rising : Rising unknowns) (below : (i : ℕ) → i < length unknowns → get_or unknowns i 0 < n) where
  -- an entry is one of the matrix,
  pub rising_entry : (i j : ℕ) → Entry (length unknowns) i j → Entry n (get_or unknowns i 0) (get_or unknowns j 0)
  rising_entry i j e =
      record {
        lower =
            elim (dec_lt j i) [
              | yes h ↦ omega (arith, rising j i h e.inside)
              | no h ↦ let same : j ≡ i = omega (arith, e.lower) in rw same (omega arith)
            ];
        inside = below i e.inside;
      }

  -- and moves only towards the front
  pub rising_forward : (i j : ℕ) → Entry (length unknowns) i j → packed_place (length unknowns) i j ≤ packed_place n (get_or unknowns i 0) (get_or unknowns j 0)
  rising_forward i j e =
      let column : j < length unknowns = omega (arith, e.lower, e.inside) in
      packed_place_le (length unknowns) n i j (get_or unknowns i 0) (get_or unknowns j 0) (rising_length unknowns n rising below)
      (rising_at unknowns rising i e.inside) (rising_at unknowns rising j column) (omega arith) (omega (arith, below j column))

pub kept_entry : (list : List ℕ) (n i j : ℕ) → Entry (length (kept list n)) i j → Entry n (get_or (kept list n) i 0) (get_or (kept list n) j 0)
kept_entry list n = rising_entry (kept list n) n (kept_remain list n).rising (kept_below list n)

module _ (list : List ℕ) (n : ℕ) (matrix : List Float) where
  abbrev order : ℕ
  order = length (kept list n)

  abbrev whole : Triangle
  whole = load (packed_place n) (height n) n matrix

  room : length (replicate (triangle order) zero64) ≡ triangle order
  room = length-replicate (triangle order) zero64

  pub length_front : length (front (kept list n) n matrix) ≡ triangle order
  unfolding front
  length_front = length_store (packed_place order) order (packed_bijection order) (principal (kept list n) whole) (replicate (triangle order) zero64) ∙ room

  -- an entry of the triangle of the unknowns kept, and its place in a memory that this is written over
  pub entry_kept :
      (i j : ℕ) → Entry order i j →
      entry (principal (kept list n) whole) i j ≡ get_or matrix (packed_place n (get_or (kept list n) i 0) (get_or (kept list n) j 0)) nan
  entry_kept i j e =
      entry_principal (kept list n) whole i j e
      ∙ entry_load (packed_place n) n matrix (get_or (kept list n) i 0) (get_or (kept list n) j 0) (kept_entry list n i j e)

  pub entry_written :
      (m : List Float) → triangle order ≤ length m → (i j : ℕ) → Entry order i j →
      get_or (store (packed_place order) (principal (kept list n) whole) m) (packed_place order i j) nan
      ≡ get_or matrix (packed_place n (get_or (kept list n) i 0) (get_or (kept list n) j 0)) nan
  entry_written m fit i j e =
      store_same (packed_place order) order (packed_bijection order) (principal (kept list n) whole) order (shaped_principal (kept list n) whole) m fit i j nan e
      (omega (arith, e.lower, e.inside))
      ∙ entry_kept i j e

  pub entry_front :
      (i j : ℕ) → Entry order i j →
      get_or (front (kept list n) n matrix) (packed_place order i j) nan ≡ get_or matrix (packed_place n (get_or (kept list n) i 0) (get_or (kept list n) j 0)) nan
  unfolding front
  entry_front = entry_written (replicate (triangle order) zero64) (omega (arith, room))

  -- a memory that has each of these entries at its place
  pub front_entries : (m : List Float) → Fresh (kept list n) n matrix m → m ≡ front (kept list n) n matrix
  front_entries m f =
      memory_ext (packed_place order) order (packed_bijection order) m (front (kept list n) n matrix) f.size length_front
      (λ i j e. f.entries i j e ∙ sym (entry_front i j e))

-- ---- the checks

pub record StrikeAccepted (shape : Shape) (list : List ℕ) (matrix_length : ℕ) : Type 0 where
  pub order : shape.order ≤ max_order
  pub state : T (suits (next Strike shape.state))
  pub matrix : matrix_length ≡ triangle shape.order
  pub listed : Listed shape.order list

-- b is not judged
rule2_strike : (b : ℕ) → rule2 Strike b ≡ success
unfolding rule2
rule2_strike b = refl

module _ (shape : Shape) (list : List ℕ) (ml : ℕ) where
  -- the rules on sizes, with no work asked for, and then rule 20
  pub strike_sized : strike_checks shape list ml ≡ first_refusal (size_rules Strike shape ml 0 ++ (rule20 shape.order list ∷ []))
  unfolding strike_checks first_refusal rule4
  strike_sized = refl

  pub strike_accepted : T (accepted (strike_checks shape list ml)) → StrikeAccepted shape list ml
  strike_accepted h =
      let s = sizes_accepted Strike shape ml 0 (rule20 shape.order list ∷ []) (subst (λ v. T (accepted v)) strike_sized h) in
      record {
        order = s.0.order;
        state = s.0.state;
        matrix = s.0.matrix;
        listed = rule20_accepted shape.order list (first_accepted _ [] s.1).0;
      }

  pub strike_passes : StrikeAccepted shape list ml → strike_checks shape list ml ≡ success
  unfolding strike_checks
  strike_passes a =
      first_passes _ _ (rule1_passes shape.order a.order)
      ∙ first_passes _ _ (rule2_strike shape.block)
      ∙ first_passes _ _ (rule15_passes Strike shape.state a.state)
      ∙ first_passes _ _ (rule3_passes shape.order ml a.matrix)
      ∙ first_passes _ _ (rule20_passes shape.order list a.listed)
      ∙ none_holds (λ v. v ≡ success) refl

  pub strike_keeps : Keeps (strike_checks shape list ml)
  unfolding rule20
  strike_keeps =
      subst Keeps (sym strike_sized)
      (sizes_keep Strike shape ml 0 (rule20 shape.order list ∷ [])
      (first_holds Keeps refl _ _
      (lowest_holds Keeps refl (listed_at shape.order list) (λ p. refuse_holds Keeps refl (not (rises_at shape.order list p)) (refusal 20 p zero64) refl)
      (length list))
      (none_holds Keeps refl)))

-- ---- the call after its checks

module _ (shape : Shape) (list : List ℕ) (matrix : List Float) where
  abbrev checks : Verdict
  checks = strike_checks shape list (length matrix)

  abbrev unknowns : List ℕ
  unknowns = kept list shape.order

  pub strike_refused_lem : accepted checks ≡ false → strike shape list matrix ≡ record { result = result_of Strike shape checks; matrix = matrix }
  unfolding strike
  strike_refused_lem e = rw e refl

  pub strike_passed :
      StrikeAccepted shape list (length matrix) →
      strike shape list matrix
      ≡ record { result = result_of Strike (smaller shape (length unknowns)) success; matrix = struck unknowns shape.order matrix }
  unfolding strike
  strike_passed a = rw (strike_passes shape list (length matrix) a) refl

  -- success comes of accepted checks
  pub strike_succeeded : T (succeeded (strike shape list matrix).result) → StrikeAccepted shape list (length matrix)
  strike_succeeded h = strike_accepted shape list (length matrix) (go (accepted checks) refl)
    where
      go : (b : Bool) → accepted checks ≡ b → T (accepted checks)
      go true e = rw e tt
      go false e = subst (λ (s : Struck). T (succeeded s.result)) (strike_refused_lem e) h
