-- Laws of `contains` and `passing`, specs/Sequences.antt of `calls`: where a number stands in a list, the numbers that pass a test and their positions, and that a rising
-- list is told by its members. Assumes nothing.
use Prim.Native.Nat.{ℕ, zero, suc, ◌+◌, ◌≤◌, ◌<◌}
use native.Mathlib.Nat.{add-zero, add-suc}
use native.Mathlib.Omega.{arith}
use native.Mathlib.Decide.{dec_lt}
use mathlib.Core.Path.{◌≡◌, refl, sym, ap, ap₂, ◌∙◌}
use mathlib.Core.Logic.{◌≢◌}
use mathlib.Core.Bool.{Bool, true, false, ◌&&◌, ◌||◌}
use mathlib.Core.List.{List, [], ◌∷◌, ◌++◌, append-nil, map}
use borrow.Author.Tests.{lt-ltb, le-ltb, eq-eqb, ne_eqb, eqb-true, eqb-false}
use lib.Dec.{eqb, ltb}
use lib.ListN.{length, get_or, length-append, length-map, get_or-append}
use lib.Seq.{get_or_at}
use Rattle.calls.specs.Sequences.{Rising, contains, passing}

-- ---- where a number stands in a list

pub contains_at : (xs : List ℕ) (i : ℕ) → i < length xs → contains xs (get_or xs i 0) ≡ true
unfolding contains
contains_at [] i h = absurd (omega arith)
contains_at (x ∷ xs) zero h = rw (eq-eqb x x refl) refl
contains_at (x ∷ xs) (suc i) h = rw (contains_at xs i (omega arith)) (or_true (eqb (get_or xs i 0) x))
  where
    or_true : (b : Bool) → (b || true) ≡ true
    or_true true = refl
    or_true false = refl

pub contains_absent : (xs : List ℕ) (u : ℕ) → ((i : ℕ) → i < length xs → get_or xs i 0 ≢ u) → contains xs u ≡ false
unfolding contains
contains_absent [] u h = refl
contains_absent (x ∷ xs) u h =
    rw (ne_eqb u x (λ e. h zero (omega arith) (sym e))) (contains_absent xs u (λ i p. h (suc i) (omega arith)))

pub record Found (xs : List ℕ) (u : ℕ) : Type 0 where
  pub at : ℕ
  pub inside : at < length xs
  pub there : get_or xs at 0 ≡ u

pub contains_found : (xs : List ℕ) (u : ℕ) → contains xs u ≡ true → Found xs u
unfolding contains
contains_found [] u e = let z : ◌≡◌ {A = ℕ} 0 1 = cc in absurd (omega arith)
contains_found (x ∷ xs) u e = go (eqb u x) refl e (contains_found xs u)
  where
    go : (b : Bool) → eqb u x ≡ b → (b || contains xs u) ≡ true → (contains xs u ≡ true → Found xs u) → Found (x ∷ xs) u
    go true e t ih = record { at = 0; inside = omega arith; there = sym (eqb-true u x e) }
    go false e t ih =
        let f : Found xs u = ih t in
        record { at = suc f.at; inside = omega (arith, f.inside); there = f.there }

-- ---- the numbers that pass a test

module _ (test : ℕ → Bool) where
  pub passing_pass : (k : ℕ) → test k ≡ true → passing test (suc k) ≡ passing test k ++ (k ∷ [])
  unfolding passing
  passing_pass k e = rw e refl

  pub passing_fail : (k : ℕ) → test k ≡ false → passing test (suc k) ≡ passing test k
  unfolding passing
  passing_fail k e = rw e (append-nil (passing test k))

  pub length_pass : (k : ℕ) → test k ≡ true → length (passing test (suc k)) ≡ length (passing test k) + 1
  length_pass k e = ap length (passing_pass k e) ∙ length-append (passing test k) (k ∷ [])

  pub length_fail : (k : ℕ) → test k ≡ false → length (passing test (suc k)) ≡ length (passing test k)
  length_fail k e = ap length (passing_fail k e)

  -- number u, which passes, stands behind those before it
  pub record Standing (n u : ℕ) : Type 0 where
    pub inside : length (passing test u) < length (passing test n)
    pub there : get_or (passing test n) (length (passing test u)) 0 ≡ u

  pub passing_at : (n u : ℕ) → u < n → test u ≡ true → Standing n u
  passing_at zero u h t = absurd (omega arith)
  passing_at (suc k) u h t = elim (dec_lt u k) [
    | yes p ↦ go (test k) refl (passing_at k u p t)
    | no p ↦
        let e : k ≡ u = omega arith in
        rw e
        (record {
          inside = omega (arith, length_pass u t);
          there = ap (λ xs. get_or xs (length (passing test u)) 0) (passing_pass u t) ∙ get_or_at (passing test u) u [] 0 (length (passing test u)) refl;
        })
  ]
    where
      go : (b : Bool) → test k ≡ b → Standing k u → Standing (suc k) u
      go true e s =
          record {
            inside = omega (arith, length_pass k e, s.inside);
            there = ap (λ xs. get_or xs (length (passing test u)) 0) (passing_pass k e) ∙ get_or-append (passing test k) (k ∷ []) 0 (length (passing test u)) s.inside ∙ s.there;
          }
      go false e s =
          record {
            inside = omega (arith, length_fail k e, s.inside);
            there = ap (λ xs. get_or xs (length (passing test u)) 0) (passing_fail k e) ∙ s.there;
          }

  -- each of them is below the bound and passes
  pub record Member (n u : ℕ) : Type 0 where
    pub below : u < n
    pub passes : test u ≡ true

  pub passing_member : (n i : ℕ) → i < length (passing test n) → Member n (get_or (passing test n) i 0)
  unfolding passing
  passing_member zero i h = absurd (omega arith)
  passing_member (suc k) i h = go (test k) refl (passing_member k i)
    where
      more : (u : ℕ) → Member k u → Member (suc k) u
      more u m = record { below = omega (arith, m.below); passes = m.passes }

      go : (b : Bool) → test k ≡ b → (i < length (passing test k) → Member k (get_or (passing test k) i 0)) → Member (suc k) (get_or (passing test (suc k)) i 0)
      go true e ih =
          rw (passing_pass k e)
          (elim (dec_lt i (length (passing test k))) [
            | yes p ↦ rw (get_or-append (passing test k) (k ∷ []) 0 i p) (more (get_or (passing test k) i 0) (ih p))
            | no p ↦
                let last : length (passing test k) ≡ i = omega (arith, length_pass k e) in
                rw (get_or_at (passing test k) k [] 0 i last) (record { below = omega arith; passes = e })
          ])
      go false e ih = rw (passing_fail k e) (more (get_or (passing test k) i 0) (ih (omega (arith, length_fail k e))))

-- ---- rising lists

pub rising_tail : (x : ℕ) (xs : List ℕ) → Rising (x ∷ xs) → Rising xs
rising_tail x xs r i i' h p = r (suc i) (suc i') (omega arith) (omega arith)

-- nothing stands below its first number
rising_head : (x : ℕ) (xs : List ℕ) → Rising (x ∷ xs) → (u : ℕ) → contains (x ∷ xs) u ≡ true → x ≤ u
rising_head x xs r u e = go f.at f.inside f.there
  where
    f : Found (x ∷ xs) u
    f = contains_found (x ∷ xs) u e

    go : (i : ℕ) → i < length (x ∷ xs) → get_or (x ∷ xs) i 0 ≡ u → x ≤ u
    go zero h t = omega arith
    go (suc i) h t = omega (arith, r 0 (suc i) (omega arith) h)

-- d positions on it is higher by d at least,
pub rising_gap : (xs : List ℕ) → Rising xs → (i d : ℕ) → i + d < length xs → get_or xs i 0 + d ≤ get_or xs (i + d) 0
rising_gap xs r i zero h = rw (add-zero i) (omega arith)
rising_gap xs r i (suc d) h = rw (add-suc i d) (omega (arith, rising_gap xs r i d (omega arith), r (i + d) (suc (i + d)) (omega arith) (omega arith)))

-- each number is at least its position,
pub rising_at : (xs : List ℕ) → Rising xs → (i : ℕ) → i < length xs → i ≤ get_or xs i 0
rising_at xs r i h =
    let at : 0 + i ≡ i = omega arith in
    let gap : get_or xs 0 0 + i ≤ get_or xs i 0 = rw at at (rising_gap xs r 0 i (omega arith)) in
    omega arith

-- so that there are at most n numbers below n
pub rising_length : (xs : List ℕ) (n : ℕ) → Rising xs → ((i : ℕ) → i < length xs → get_or xs i 0 < n) → length xs ≤ n
rising_length xs n r below = go (length xs) refl
  where
    go : (k : ℕ) → length xs ≡ k → k ≤ n
    go zero e = omega arith
    go (suc k) e = omega (arith, rising_at xs r k (omega arith), below k (omega arith))

nothing_in : (y : ℕ) (ys : List ℕ) → ((u : ℕ) → contains [] u ≡ contains (y ∷ ys) u) → ⊥
unfolding contains
nothing_in y ys same = let z : ◌≡◌ {A = ℕ} 0 1 = cc (same y, contains_at (y ∷ ys) 0 (omega arith)) in omega arith

-- rising lists with the same members are equal
pub rising_unique : (xs ys : List ℕ) → Rising xs → Rising ys → ((u : ℕ) → contains xs u ≡ contains ys u) → xs ≡ ys
unfolding contains
rising_unique [] [] r s same = refl
rising_unique [] (y ∷ ys) r s same = absurd (nothing_in y ys same)
rising_unique (x ∷ xs) [] r s same = absurd (nothing_in x xs (λ u. sym (same u)))
rising_unique (x ∷ xs) (y ∷ ys) r s same =
    let high : y ≤ x = rising_head y ys s x (sym (same x) ∙ contains_at (x ∷ xs) 0 (omega arith)) in
    let low : x ≤ y = rising_head x xs r y (same y ∙ contains_at (y ∷ ys) 0 (omega arith)) in
    let e : x ≡ y = omega arith in
    ap₂ (λ z zs. z ∷ zs) e (rising_unique xs ys (rising_tail x xs r) (rising_tail y ys s) (λ u. tails u e (eqb u x) refl))
  where
    absent : (z : ℕ) (zs : List ℕ) → Rising (z ∷ zs) → contains zs z ≡ false
    absent z zs t = contains_absent zs z (λ i p g. omega (arith, t 0 (suc i) (omega arith) (omega arith)))

    tails : (u : ℕ) → x ≡ y → (b : Bool) → eqb u x ≡ b → contains xs u ≡ contains ys u
    tails u e true t =
        let here : x ≡ u = sym (eqb-true u x t) in
        let there : y ≡ u = sym e ∙ here in
        ap (contains xs) (sym here) ∙ absent x xs r ∙ sym (ap (contains ys) (sym there) ∙ absent y ys s)
    tails u e false t =
        let other : eqb u y ≡ false = ap (eqb u) (sym e) ∙ t in
        let all : (eqb u x || contains xs u) ≡ (eqb u y || contains ys u) = same u in
        rw (t, other) at all

-- numbers that pass a test are rising
pub passing_rising : (test : ℕ → Bool) (n : ℕ) → Rising (passing test n)
unfolding passing
passing_rising test zero = λ i i' h p. absurd (omega arith)
passing_rising test (suc k) = go (test k) refl (passing_rising test k)
  where
    go : (b : Bool) → test k ≡ b → Rising (passing test k) → Rising (passing test (suc k))
    go true e ih i i' h p =
        rw (passing_pass test k e)
        (elim (dec_lt i' (length (passing test k))) [
          | yes q ↦
              rw (get_or-append (passing test k) (k ∷ []) 0 i (omega arith), get_or-append (passing test k) (k ∷ []) 0 i' q) (ih i i' h q)
          | no q ↦
              let last : length (passing test k) ≡ i' = omega (arith, length_pass test k e) in
              rw (get_or-append (passing test k) (k ∷ []) 0 i (omega arith), get_or_at (passing test k) k [] 0 i' last)
              (passing_member test k i (omega arith)).below
        ])
    go false e ih i i' h p = rw (passing_fail test k e) (ih i i' h (omega (arith, length_fail test k e)))

-- and no others are among them
pub contains_passing : (test : ℕ → Bool) (n u : ℕ) → contains (passing test n) u ≡ (ltb u n && test u)
contains_passing test n u = go (dec_lt u n) (test u) refl
  where
    go : Dec (u < n) → (b : Bool) → test u ≡ b → contains (passing test n) u ≡ (ltb u n && b)
    go (yes h) true e =
        let s : Standing test n u = passing_at test n u h e in
        rw (lt-ltb u n h) (ap (contains (passing test n)) (sym s.there) ∙ contains_at (passing test n) (length (passing test u)) s.inside)
    go (yes h) false e =
        rw (lt-ltb u n h)
        (contains_absent (passing test n) u
        (λ i p g. let m : Member test n (get_or (passing test n) i 0) = passing_member test n i p in
        let z : ◌≡◌ {A = ℕ} 0 1 = cc (ap test g, m.passes) in omega arith))
    go (no h) b e =
        rw (le-ltb u n (omega arith))
        (contains_absent (passing test n) u (λ i p g. omega (arith, (passing_member test n i p).below)))

-- ---- a list mapped by a function that rises below a bound

pub get_or_map_at : (f : ℕ → ℕ) (xs : List ℕ) (i : ℕ) → i < length xs → get_or (map f xs) i 0 ≡ f (get_or xs i 0)
get_or_map_at f [] i h = absurd (omega arith)
get_or_map_at f (x ∷ xs) zero h = refl
get_or_map_at f (x ∷ xs) (suc i) h = get_or_map_at f xs i (omega arith)

module _ (f : ℕ → ℕ) (n : ℕ) (rises : (k k' : ℕ) → k < k' → k' < n → f k < f k') where
  map_apart : (k k' : ℕ) → k < n → k' < n → f k ≡ f k' → k ≡ k'
  map_apart k k' h h' e = go (dec_lt k k') (dec_lt k' k)
    where
      go : Dec (k < k') → Dec (k' < k) → k ≡ k'
      go (yes p) d = absurd (omega (arith, rises k k' p h'))
      go (no p) (yes q) = absurd (omega (arith, rises k' k q h))
      go (no p) (no q) = omega arith

  pub map_rising : (xs : List ℕ) → ((i : ℕ) → i < length xs → get_or xs i 0 < n) → Rising xs → Rising (map f xs)
  map_rising xs below r i i' h p =
      let inside : i' < length xs = omega (arith, length-map xs f) in
      rw (get_or_map_at f xs i (omega arith), get_or_map_at f xs i' inside) (rises (get_or xs i 0) (get_or xs i' 0) (r i i' h inside) (below i' inside))

  -- it has the images and no others
  pub contains_map : (xs : List ℕ) → ((i : ℕ) → i < length xs → get_or xs i 0 < n) → (k : ℕ) → k < n → contains (map f xs) (f k) ≡ contains xs k
  unfolding contains
  contains_map [] below k h = refl
  contains_map (x ∷ xs) below k h =
      ap₂ (λ b c. b || c) (go (eqb k x) refl) (contains_map xs (λ i p. below (suc i) (omega arith)) k h)
    where
      go : (b : Bool) → eqb k x ≡ b → eqb (f k) (f x) ≡ eqb k x
      go true e = eq-eqb (f k) (f x) (ap f (eqb-true k x e)) ∙ sym e
      go false e = ne_eqb (f k) (f x) (λ g. eqb-false k x e (map_apart k x h (below 0 (omega arith)) g)) ∙ sym e
