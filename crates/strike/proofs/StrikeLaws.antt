-- The laws that specs/Strikes.antt of `calls` states: what a strike returns and leaves, by its list, and that one pass in rising place makes its front part; that the
-- unknowns kept remain is in Strikes.antt. Assumes nothing.
use Prim.Native.Nat.{ℕ, ◌+◌, ◌-◌, ◌≤◌, ◌<◌}
use native.Mathlib.Nat.{add-zero, sub-zero}
use native.Mathlib.Omega.{arith}
use mathlib.Core.Path.{◌≡◌, refl, sym, ap, ap₂, ◌∙◌, subst}
use mathlib.Core.Logic.{◌≢◌}
use mathlib.Core.Bool.{Bool, true, false, cond, not, ◌&&◌, ◌||◌}
use mathlib.Core.List.{List, [], ◌∷◌, ◌++◌, append-nil, append_assoc, map}
use borrow.Author.Tests.{lt-ltb, eqb-true}
use lib.Dec.{T, eqb, ltb}
use lib.ListN.{length, get_or, set, take, drop, replicate, length-map, replicate-append-replicate}
use lib.Seq.{length-take-le, take_all, take_at, drop_at, get_or-take}
use lib.Ieee.{Float, nan}
use Rattle.binary64.specs.Kinds.{zero64}
use Rattle.shape.specs.Places.{triangle, packed_place}
use Rattle.shape.specs.Layouts.{Entry}
use Rattle.shape.specs.declared.Shape.{Shape}
use Rattle.shape.proofs.Columns.{triangle_exact, packed_place_column, packed_place_rows, packed_place_lt}
use Rattle.shape.proofs.Bijections.{packed_bijection}
use Rattle.shape.proofs.Bounds.{triangle_mono}
use Rattle.calls.specs.declared.Verdict.{Verdict}
use Rattle.calls.specs.declared.Layout.TheVariants.{Packed}
use Rattle.calls.specs.declared.Call.TheVariants.{Strike}
use Rattle.calls.specs.declared.states.State.TheVariants.{Raw}
use Rattle.std.specs.Prelude.{Some, None}
use Rattle.calls.specs.Sequences.{iterate, contains}
use Rattle.calls.specs.Triangles.{Triangle, entry, height, load, store_column, store}
use Rattle.calls.specs.States.{look_up, next, suits}
use Rattle.calls.specs.Refusals.{success, accepted}
use Rattle.calls.specs.Calls.{result_of, succeeded, factorize}
use Rattle.calls.specs.Pipelines.{packed_raw, plain_pipeline, blocked_pipeline}
use Rattle.calls.specs.Strikes.{kept, principal, front, struck, strike_checks, Struck, smaller, strike, OrderFalls, EmptyChangesNothing, AllLeavesZeros, Fresh, StruckIsFresh, union, StrikesUnion, MovesForward, one_pass, OnePassSuffices}
use Rattle.calls.proofs.Sequences.{iterate_alike}
use Rattle.strike.proofs.Selections.{contains_at, contains_absent, Found, contains_found, passing_member, rising_unique, passing_rising, contains_passing, get_or_map_at, map_rising, contains_map}
use Rattle.calls.proofs.Writes.{writes, writes_other}
use Rattle.calls.proofs.Triangles.{stored_apart, Shaped, stored, length_store}
use Rattle.calls.proofs.Refusals.{cond_both}
use Rattle.calls.proofs.CheckLaws.{Keeps}
use Rattle.calls.proofs.StateLaws.{given_same, shape_same}
use Rattle.strike.proofs.Strikes.{kept_remain, kept_below, kept_at_most, rising_forward, Listed, length_kept, kept_at, shaped_principal, kept_entry, length_front, entry_kept, entry_written, entry_front, front_entries, StrikeAccepted, strike_accepted, strike_keeps, strike_refused_lem, strike_passed, strike_succeeded}

-- ---- what a strike returns and leaves

shape_of : (shape : Shape) (v : Verdict) → Keeps v → (result_of Strike shape v).shape ≡ shape
shape_of shape v k = shape_same Strike shape v (given_same (Raw Packed ∷ []) shape.state) k

module _ (shape : Shape) (list : List ℕ) (matrix : List Float) where
  abbrev unknowns : List ℕ
  unknowns = kept list shape.order

  abbrev size : ℕ
  size = triangle (length unknowns)

  abbrev checks : Verdict
  checks = strike_checks shape list (length matrix)

  -- what holds of it refused and of it passed holds of it
  strike_either :
      (P : Struck → Type 0) →
      (accepted checks ≡ false → P (record { result = result_of Strike shape checks; matrix = matrix })) →
      (StrikeAccepted shape list (length matrix) →
      P (record { result = result_of Strike (smaller shape (length unknowns)) success; matrix = struck unknowns shape.order matrix })) →
      P (strike shape list matrix)
  strike_either P refused passed = go (accepted checks) refl
    where
      go : (b : Bool) → accepted checks ≡ b → P (strike shape list matrix)
      go true e =
          let a = strike_accepted shape list (length matrix) (rw e tt) in
          subst P (sym (strike_passed shape list matrix a)) (passed a)
      go false e = subst P (sym (strike_refused_lem shape list matrix e)) (refused e)

  module _ (a : StrikeAccepted shape list (length matrix)) where
    abbrev zeros : List Float
    zeros = replicate (length matrix - size) zero64

    shape_left : (strike shape list matrix).result.shape ≡ smaller shape (length unknowns)
    shape_left = ap (λ (s : Struck). s.result.shape) (strike_passed shape list matrix a) ∙ shape_of (smaller shape (length unknowns)) success refl

    matrix_left : (strike shape list matrix).matrix ≡ front unknowns shape.order matrix ++ zeros
    unfolding struck
    matrix_left = ap (λ (s : Struck). s.matrix) (strike_passed shape list matrix a)

    front_left : take size (strike shape list matrix).matrix ≡ front unknowns shape.order matrix
    front_left = ap (take size) matrix_left ∙ take_at (front unknowns shape.order matrix) zeros size (length_front list shape.order matrix)

    zeros_left : drop size (strike shape list matrix).matrix ≡ zeros
    zeros_left = ap (drop size) matrix_left ∙ drop_at (front unknowns shape.order matrix) zeros size (length_front list shape.order matrix)

pub order_falls : OrderFalls
order_falls shape list matrix =
    strike_either shape list matrix (λ s. s.result.shape ≡ cond (succeeded s.result) (smaller shape (shape.order - length list)) shape)
    (λ e. rw e (shape_of shape (strike_checks shape list (length matrix)) (strike_keeps shape list (length matrix))))
    (λ a.
    let order : length (kept list shape.order) ≡ shape.order - length list = omega (arith, length_kept shape.order list a.listed) in
    shape_of (smaller shape (length (kept list shape.order))) success refl ∙ ap (smaller shape) order)

-- ---- an empty list

nothing_listed : (n : ℕ) → Listed n []
nothing_listed n = record { below = λ q h. absurd (omega arith); rising = λ i i' h q. absurd (omega arith) }

order_kept : (n : ℕ) → length (kept [] n) ≡ n
order_kept n = omega (arith, length_kept n [] (nothing_listed n))

kept_all : (n i : ℕ) → i < n → get_or (kept [] n) i 0 ≡ i
kept_all n i h =
    kept_at n [] (nothing_listed n) 0 i (record { index = omega arith; above = λ x e. absurd (omega arith); below = omega arith }) (omega arith) (omega arith)
    ∙ add-zero i

front_kept : (n : ℕ) (matrix : List Float) → length matrix ≡ triangle n → matrix ≡ front (kept [] n) n matrix
front_kept n matrix e =
    front_entries [] n matrix matrix
    (record {
      size = e ∙ ap triangle (sym (order_kept n));
      entries = λ i j en.
          let row : i < n = omega (arith, order_kept n, en.inside) in
          let column : j < n = omega (arith, en.lower) in
          cc (order_kept n, kept_all n i row, kept_all n j column);
    })

struck_kept : (n : ℕ) (matrix : List Float) → length matrix ≡ triangle n → struck (kept [] n) n matrix ≡ matrix
unfolding struck
struck_kept n matrix e =
    let none : length matrix - triangle (length (kept [] n)) ≡ 0 = omega (arith, ap triangle (order_kept n)) in
    rw none (append-nil (front (kept [] n) n matrix) ∙ sym (front_kept n matrix e))

pub empty_changes_nothing : EmptyChangesNothing
empty_changes_nothing shape matrix =
    let same : (strike shape [] matrix).matrix ≡ matrix =
    strike_either shape [] matrix (λ s. s.matrix ≡ matrix) (λ e. refl) (λ a. struck_kept shape.order matrix a.matrix) in
    let none : smaller shape (shape.order - 0) ≡ shape = ap (smaller shape) (sub-zero shape.order) in
    (same, order_falls shape [] matrix ∙ cond_both (λ (s : Shape). s ≡ shape) (succeeded (strike shape [] matrix).result) _ shape none refl)

-- ---- a list of all unknowns

front_none : (list : List ℕ) (n : ℕ) (matrix : List Float) → length (kept list n) ≡ 0 → front (kept list n) n matrix ≡ []
front_none list n matrix e =
    sym (take_all 0 (front (kept list n) n matrix) (omega (arith, length_front list n matrix, ap triangle e, triangle_exact 0)))

pub all_leaves_zeros : AllLeavesZeros
all_leaves_zeros shape list matrix h e =
    let n = shape.order in
    let a = strike_succeeded shape list matrix h in
    let none : length (kept list n) ≡ 0 = omega (arith, length_kept n list a.listed) in
    let all : length matrix - triangle (length (kept list n)) ≡ length matrix = omega (arith, ap triangle none, triangle_exact 0) in
    let zeros : (strike shape list matrix).matrix ≡ replicate (length matrix) zero64 =
    matrix_left shape list matrix a ∙ ap₂ (λ f r. f ++ replicate r zero64) (front_none list n matrix none) all in
    (zeros, ap (λ (s : Shape). s.order) (shape_left shape list matrix a) ∙ none)

-- ---- the front part is the matrix typed in fresh

-- only a packed raw matrix is struck
state_raw : (state : ℕ) → T (suits (next Strike state)) → state ≡ 0
unfolding look_up
state_raw state = go (eqb state 0) refl
  where
    go : (b : Bool) → eqb state 0 ≡ b → T (suits (cond b (Some (Raw Packed)) None)) → state ≡ 0
    go true e t = eqb-true state 0 e
    go false e t = absurd t

pub struck_is_fresh : StruckIsFresh
struck_is_fresh shape list matrix fresh h f =
    let a = strike_succeeded shape list matrix h in
    let p = length (kept list shape.order) in
    let b = shape.block in
    let raw : (strike shape list matrix).result.shape ≡ packed_raw p b =
    shape_left shape list matrix a ∙ ap (λ state. record { order = p; block = b; state = state }) (state_raw shape.state a.state) in
    let same : take (triangle p) (strike shape list matrix).matrix ≡ fresh =
    front_left shape list matrix a ∙ sym (front_entries list shape.order matrix fresh f) in
    record {
      shape = raw;
      matrix = same;
      factor = λ work. ap₂ (λ s l. factorize Packed s l work) raw same;
      plain = λ m rhs work. ap₂ (λ (s : Shape) l. plain_pipeline s.order s.block m l rhs work) raw same;
      blocked = λ m rhs work. ap₂ (λ (s : Shape) l. blocked_pipeline s.order s.block m l rhs work) raw same;
    }

-- ---- one list and then another

module _ (first second : List ℕ) (n : ℕ) where
  -- an unknown that the first list leaves, by its number after it
  abbrev renumbered : ℕ → ℕ
  renumbered k = get_or (kept first n) k 0

  union_listed : Listed n (union first second n)
  unfolding union
  union_listed = record { below = λ q h. (passing_member named n q h).below; rising = passing_rising named n }
    where
      named : ℕ → Bool
      named u = contains first u || contains (map renumbered second) u

  -- kept are those that the first list leaves and the second does not name
  contains_union : (u : ℕ) → contains (kept (union first second n) n) u ≡ (contains (kept first n) u && not (contains (map renumbered second) u))
  unfolding union
  contains_union u =
      (kept_remain (union first second n) n).members u
      ∙ ap (λ b. ltb u n && not b) (contains_passing (λ v. contains first v || contains (map renumbered second) v) n u)
      ∙ neither (ltb u n) (contains first u) (contains (map renumbered second) u)
      ∙ ap (λ b. b && not (contains (map renumbered second) u)) (sym ((kept_remain first n).members u))
    where
      neither : (a b c : Bool) → (a && not (a && (b || c))) ≡ ((a && not b) && not c)
      neither true true c = refl
      neither true false c = refl
      neither false b c = refl

  abbrev between : ℕ
  between = length (kept first n)

  -- those kept of the second, in the first numbering
  abbrev later : List ℕ
  later = map renumbered (kept second between)

  module _ (below : (i : ℕ) → i < length second → get_or second i 0 < between) where
    contains_image : (k : ℕ) → k < between → not (contains (map renumbered second) (renumbered k)) ≡ contains later (renumbered k)
    contains_image k h =
        ap not (contains_map renumbered between (kept_remain first n).rising second below k h)
        ∙ ap (λ b. b && not (contains second k)) (sym (lt-ltb k between h))
        ∙ sym ((kept_remain second between).members k)
        ∙ sym (contains_map renumbered between (kept_remain first n).rising (kept second between) (kept_below second between) k h)

    only_images : (u i : ℕ) → i < length later → get_or later i 0 ≡ u → contains (kept first n) u ≡ true
    only_images u i h e =
        let inside : i < length (kept second between) = omega (arith, length-map (kept second between) renumbered) in
        let image : renumbered (get_or (kept second between) i 0) ≡ u = sym (get_or_map_at renumbered (kept second between) i inside) ∙ e in
        ap (contains (kept first n)) (sym image) ∙ contains_at (kept first n) (get_or (kept second between) i 0) (kept_below second between i inside)

    contains_later : (u : ℕ) → (contains (kept first n) u && not (contains (map renumbered second) u)) ≡ contains later u
    contains_later u = go (contains (kept first n) u) refl
      where
        go : (b : Bool) → contains (kept first n) u ≡ b → (b && not (contains (map renumbered second) u)) ≡ contains later u
        go true e =
            let f : Found (kept first n) u = contains_found (kept first n) u e in
            subst (λ v. not (contains (map renumbered second) v) ≡ contains later v) f.there (contains_image f.at f.inside)
        go false e = sym (contains_absent later u (λ i h g. let z : ◌≡◌ {A = ℕ} 0 1 = cc (only_images u i h g) in omega arith))

    kept_union : kept (union first second n) n ≡ later
    kept_union =
        rising_unique (kept (union first second n) n) later (kept_remain (union first second n) n).rising
        (map_rising renumbered between (kept_remain first n).rising (kept second between) (kept_below second between) (kept_remain second between).rising)
        (λ u. contains_union u ∙ contains_later u)

    length_union : length (kept (union first second n) n) ≡ length (kept second between)
    length_union = ap length kept_union ∙ length-map (kept second between) renumbered

    module _ (matrix : List Float) where
      abbrev middle : List Float
      middle = front (kept first n) n matrix

      abbrev last : List Float
      last = front (kept second between) between middle

      front_union : front (kept (union first second n) n) n matrix ≡ last
      front_union =
          sym
          (front_entries (union first second n) n matrix last
          (subst (λ unknowns. Fresh unknowns n matrix last) (sym kept_union)
          (record { size = length_front second between middle ∙ ap triangle (sym same); entries = entries })))
        where
          same : length later ≡ length (kept second between)
          same = length-map (kept second between) renumbered

          number : (i : ℕ) → i < length (kept second between) → renumbered (get_or (kept second between) i 0) ≡ get_or later i 0
          number i h = sym (get_or_map_at renumbered (kept second between) i h)

          entries :
              (i j : ℕ) → Entry (length later) i j →
              get_or last (packed_place (length later) i j) nan ≡ get_or matrix (packed_place n (get_or later i 0) (get_or later j 0)) nan
          entries i j e =
              let e' : Entry (length (kept second between)) i j = record { lower = e.lower; inside = omega (arith, e.inside, same) } in
              ap (λ x. get_or last (packed_place x i j) nan) same
              ∙ entry_front second between middle i j e'
              ∙ entry_front first n matrix (get_or (kept second between) i 0) (get_or (kept second between) j 0) (kept_entry second between i j e')
              ∙ ap₂ (λ x y. get_or matrix (packed_place n x y) nan) (number i e'.inside) (number j (omega (arith, e'.lower, e'.inside)))

      struck_union :
          length matrix ≡ triangle n →
          struck (kept (union first second n) n) n matrix
          ≡ struck (kept second between) between middle ++ replicate (length matrix - triangle between) zero64
      unfolding struck
      struck_union e =
          let q = length (kept second between) in
          let zeros : length middle - triangle q + (length matrix - triangle between) ≡ length matrix - triangle (length (kept (union first second n) n)) =
          omega (
            arith,
            ap triangle length_union,
            length_front first n matrix,
            triangle_mono q between (kept_at_most second between),
            triangle_mono between n (kept_at_most first n),
          ) in
          ap₂ (λ f r. f ++ replicate r zero64) front_union (sym zeros)
          ∙ ap (λ r. last ++ r) (sym (replicate-append-replicate (length middle - triangle q) (length matrix - triangle between) zero64))
          ∙ sym (append_assoc last _ _)

-- a strike, and values behind what it leaves
abbrev followed : Struck → List Float → Struck
followed t rest = record { result = t.result; matrix = t.matrix ++ rest }

-- striking the second from the front part that the first leaves
strike_union :
    (shape : Shape) (first second : List ℕ) (matrix : List Float) → StrikeAccepted shape first (length matrix) →
    let n = shape.order in
    let p = length (kept first n) in
    let t = strike (smaller shape p) second (front (kept first n) n matrix) in
    T (succeeded t.result) →
    strike shape (union first second n) matrix ≡ followed t (replicate (length matrix - triangle p) zero64)
strike_union shape first second matrix a h =
    let n = shape.order in
    let p = length (kept first n) in
    let zeros = replicate (length matrix - triangle p) zero64 in
    let second-accepted = strike_succeeded (smaller shape p) second (front (kept first n) n matrix) h in
    let below = second-accepted.listed.below in
    let accepted-union : StrikeAccepted shape (union first second n) (length matrix) =
    record { order = a.order; state = a.state; matrix = a.matrix; listed = union_listed first second n } in
    strike_passed shape (union first second n) matrix accepted-union
    ∙ ap₂ (λ q m. record { result = result_of Strike (smaller shape q) success; matrix = m }) (length_union first second n below)
    (struck_union first second n below matrix a.matrix)
    ∙ ap (λ t. followed t zeros) (sym (strike_passed (smaller shape p) second (front (kept first n) n matrix) second-accepted))

pub strikes_union : StrikesUnion
strikes_union shape first second matrix hs ht =
    let s = strike shape first matrix in
    let a = strike_succeeded shape first matrix hs in
    let p = length (kept first shape.order) in
    let returned : s.result.shape ≡ smaller shape p = shape_left shape first matrix a in
    let again : strike s.result.shape second (take (triangle s.result.shape.order) s.matrix)
    ≡ strike (smaller shape p) second (front (kept first shape.order) shape.order matrix) =
    ap (λ (sh : Shape). strike sh second (take (triangle sh.order) s.matrix)) returned
    ∙ ap (strike (smaller shape p) second) (front_left shape first matrix a) in
    let rest : drop (triangle s.result.shape.order) s.matrix ≡ replicate (length matrix - triangle p) zero64 =
    ap (λ (sh : Shape). drop (triangle sh.order) s.matrix) returned ∙ zeros_left shape first matrix a in
    strike_union shape first second matrix a (subst (λ (t : Struck). T (succeeded t.result)) again ht) ∙ sym (ap₂ followed again rest)

-- ---- one pass

pub moves_forward : MovesForward
moves_forward list n = rising_forward (kept list n) n (kept_remain list n).rising (kept_below list n)

module _ (list : List ℕ) (n : ℕ) (matrix : List Float) where
  abbrev order : ℕ
  order = length (kept list n)

  -- where an entry goes, and where it stood
  abbrev target : ℕ → ℕ → ℕ
  target = packed_place order

  abbrev source : ℕ → ℕ → ℕ
  source i j = packed_place n (get_or (kept list n) i 0) (get_or (kept list n) j 0)

  abbrev remaining : Triangle
  remaining = principal (kept list n) (load (packed_place n) (height n) n matrix)

  shaped : Shaped order order remaining
  shaped = shaped_principal (kept list n) (load (packed_place n) (height n) n matrix)

  -- no entry written before stands there: of a column before, or of a row before
  column_before : (i j i' j' : ℕ) → Entry order i j → Entry order i' j' → j' < j → source i j ≢ target i' j'
  column_before i j i' j' e e' h g =
      omega (
        arith,
        moves_forward list n i j e,
        packed_place_lt order j i' j' e' h (omega (arith, e.lower, e.inside)),
        packed_place_column order i j e.lower (omega (arith, e.lower, e.inside)),
      )

  row_before : (i j i' : ℕ) → Entry order i j → i' < i → source i j ≢ target i' j
  row_before i j i' e h g = omega (arith, moves_forward list n i j e, packed_place_rows order i' i j (omega arith))

  -- column j is written with the values that the matrix had
  column_pass :
      (j : ℕ) → j < order →
      iterate (λ r l. set l (target (j + r) j) (get_or l (source (j + r) j) nan)) (height order j) (stored target remaining j matrix)
      ≡ store_column target j (get_or remaining j []) (stored target remaining j matrix)
  unfolding store_column height entry
  column_pass j h =
      rw (shaped.heights j h)
      (iterate_alike (λ r l. set l (at r) (get_or l (source (j + r) j) nan)) (λ r l. set l (at r) (value r)) (order - j) before
      (λ r q. ap (set (writes at value r before) (at r)) (read r q)))
    where
      before : List Float
      before = stored target remaining j matrix

      at : ℕ → ℕ
      at r = target (j + r) j

      value : ℕ → Float
      value r = get_or (get_or remaining j []) r nan

      read : (r : ℕ) → r < order - j → get_or (writes at value r before) (source (j + r) j) nan ≡ value r
      read r q =
          let e : Entry order (j + r) j = record { lower = omega arith; inside = omega arith } in
          let back : j + r - j ≡ r = omega arith in
          writes_other at value before r (source (j + r) j) nan (λ s b. row_before (j + r) j (j + s) e (omega arith))
          ∙ stored_apart target order remaining matrix j (source (j + r) j) nan (λ c b. shaped.heights c (omega arith))
          (λ i c e' b. column_before (j + r) j i c e e' b)
          ∙ sym (entry_kept list n matrix (j + r) j e)
          ∙ ap value back

  -- so the pass writes the triangle of the unknowns kept over the matrix
  pass_writes : one_pass (kept list n) n matrix ≡ store target remaining matrix
  unfolding one_pass store
  pass_writes =
      rw shaped.count
      (iterate_alike (λ j m. iterate (λ r l. set l (target (j + r) j) (get_or l (source (j + r) j) nan)) (height order j) m)
      (λ j m. store_column target j (get_or remaining j []) m) order matrix column_pass)

pub one_pass_suffices : OnePassSuffices
one_pass_suffices list n matrix e =
    let p = length (kept list n) in
    let pass = store (packed_place p) (remaining list n matrix) matrix in
    let fit : triangle p ≤ length matrix = omega (arith, triangle_mono p n (kept_at_most list n)) in
    let room : length pass ≡ length matrix = length_store (packed_place p) p (packed_bijection p) (remaining list n matrix) matrix in
    ap (take (triangle p)) (pass_writes list n matrix)
    ∙ front_entries list n matrix (take (triangle p) pass)
    (record {
      size = length-take-le (triangle p) pass (omega arith);
      entries = λ i j en. get_or-take (triangle p) pass (packed_place p i j) nan ((packed_bijection p).below i j en) ∙ entry_written list n matrix matrix fit i j en;
    })
