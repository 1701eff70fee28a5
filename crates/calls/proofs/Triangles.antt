-- Laws of specs/Triangles.antt for a layout that is a bijection: what stands at each place after a store, and that reading undoes writing. Assumes nothing.
use Prim.Native.Nat.{ℕ, zero, suc, ◌+◌, ◌-◌, ◌≤◌, ◌<◌}
use native.Mathlib.Omega.{arith}
use native.Mathlib.Decide.{dec_lt}
use mathlib.Core.Path.{◌≡◌, refl, sym, ap, ◌∙◌}
use mathlib.Core.Logic.{◌≢◌}
use mathlib.Core.List.{List, []}
use lib.ListN.{length, get_or}
use lib.Seq.{ext_get_or}
use lib.Ieee.{Float, nan}
use Rattle.shape.specs.Places.{triangle, packed_place, blocked_place}
use Rattle.shape.specs.Layouts.{Entry, Bijection}
use Rattle.shape.proofs.Blocks.{blocked_place_one}
use Rattle.calls.specs.Sequences.{iterate, tabulate}
use Rattle.calls.specs.Triangles.{Triangle, entry, height, load, store_column, store}
use Rattle.calls.proofs.Sequences.{length_tabulate, get_d_tabulate}
use Rattle.calls.proofs.Writes.{length_writes, writes_other, writes_same}

-- the first k columns of a triangle of order n
pub record Shaped (n k : ℕ) (t : Triangle) : Type 0 where
  pub count : length t ≡ k
  pub heights : (j : ℕ) → j < k → length (get_or t j []) ≡ n - j

-- two such triangles with the same entries are equal
pub triangle_ext :
    (n k : ℕ) (t u : Triangle) → k ≤ n → Shaped n k t → Shaped n k u →
    ((i j : ℕ) → Entry n i j → j < k → entry t i j ≡ entry u i j) → t ≡ u
unfolding entry
triangle_ext n k t u le st su h =
    ext_get_or [] t u (st.count ∙ sym su.count)
    (λ j p.
    let q : j < k = omega (arith, st.count) in
    ext_get_or nan (get_or t j []) (get_or u j []) (st.heights j q ∙ sym (su.heights j q))
    (λ r s.
    let e : j + r - j ≡ r = omega arith in
    let inside : r < n - j = omega (arith, st.heights j q) in
    let here : Entry n (j + r) j = record { lower = omega arith; inside = omega arith } in
    rw e at (h (j + r) j here q)))

-- ---- reading

module _ (place : ℕ → ℕ → ℕ) (n : ℕ) (m : List Float) where
  column_load : (j : ℕ) → j < n → get_or (load place (height n) n m) j [] ≡ tabulate (n - j) (λ r. get_or m (place (j + r) j) nan)
  unfolding load height
  column_load j h = get_d_tabulate (λ c. tabulate (n - c) (λ r. get_or m (place (c + r) c) nan)) n j [] h

  pub shaped_load : Shaped n n (load place (height n) n m)
  unfolding load height
  shaped_load =
      record {
        count = length_tabulate (λ c. tabulate (n - c) (λ r. get_or m (place (c + r) c) nan)) n;
        heights = λ j h. ap length (column_load j h) ∙ length_tabulate (λ r. get_or m (place (j + r) j) nan) (n - j);
      }

  pub entry_load : (i j : ℕ) → Entry n i j → entry (load place (height n) n m) i j ≡ get_or m (place i j) nan
  unfolding entry
  entry_load i j e =
      let lower : j ≤ i = e.lower in
      let inside : i < n = e.inside in
      let back : j + (i - j) ≡ i = omega arith in
      ap (λ c. get_or c (i - j) nan) (column_load j (omega arith))
      ∙ get_d_tabulate (λ r. get_or m (place (j + r) j) nan) (n - j) (i - j) nan (omega arith)
      ∙ ap (λ x. get_or m (place x j) nan) back

-- two memories that hold the same at the places of each entry, each by its own layout
pub load_alike :
    (place place' : ℕ → ℕ → ℕ) (n : ℕ) (m m' : List Float) → ((i j : ℕ) → Entry n i j → get_or m (place i j) nan ≡ get_or m' (place' i j) nan) →
    load place (height n) n m ≡ load place' (height n) n m'
load_alike place place' n m m' same =
    triangle_ext n n (load place (height n) n m) (load place' (height n) n m') (omega arith) (shaped_load place n m) (shaped_load place' n m')
    (λ i j e h. entry_load place n m i j e ∙ same i j e ∙ sym (entry_load place' n m' i j e))

-- layouts that keep each entry at the same place
pub load_same :
    (place place' : ℕ → ℕ → ℕ) (n : ℕ) (m : List Float) → ((i j : ℕ) → Entry n i j → place i j ≡ place' i j) →
    load place (height n) n m ≡ load place' (height n) n m
load_same place place' n m same = load_alike place place' n m m (λ i j e. ap (λ p. get_or m p nan) (same i j e))

-- with block length 1, blocked order is packed order
pub load_one : (n : ℕ) (m : List Float) → load (blocked_place n 1) (height n) n m ≡ load (packed_place n) (height n) n m
load_one n m = load_same (blocked_place n 1) (packed_place n) n m (blocked_place_one n)

-- ---- writing

-- the first k columns written
abbrev pub stored : (ℕ → ℕ → ℕ) → Triangle → ℕ → List Float → List Float
stored place t k m = iterate (λ j l. store_column place j (get_or t j []) l) k m

-- a place where none of them is
pub stored_apart :
    (place : ℕ → ℕ → ℕ) (n : ℕ) (t : Triangle) (m : List Float) (k q : ℕ) (d : Float) → ((j : ℕ) → j < k → length (get_or t j []) ≡ n - j) →
    ((i j : ℕ) → Entry n i j → j < k → q ≢ place i j) → get_or (stored place t k m) q d ≡ get_or m q d
unfolding iterate store_column
stored_apart place n t m zero q d hs apart = refl
stored_apart place n t m (suc k) q d hs apart =
    writes_other (λ r. place (k + r) k) (λ r. get_or (get_or t k []) r nan) (stored place t k m) (length (get_or t k [])) q d
    (λ r h. apart (k + r) k (record { lower = omega arith; inside = omega (arith, hs k (omega arith)) }) (omega arith))
    ∙ stored_apart place n t m k q d (λ j h. hs j (omega arith)) (λ i j e h. apart i j e (omega arith))

module _ (place : ℕ → ℕ → ℕ) (n : ℕ) (bij : Bijection place n) where
  length_column : (j : ℕ) (c m : List Float) → length (store_column place j c m) ≡ length m
  unfolding store_column
  length_column j c m = length_writes (λ r. place (j + r) j) (λ r. get_or c r nan) m (length c)

  pub length_stored : (t : Triangle) (k : ℕ) (m : List Float) → length (stored place t k m) ≡ length m
  unfolding iterate
  length_stored t zero m = refl
  length_stored t (suc k) m = length_column k (get_or t k []) (stored place t k m) ∙ length_stored t k m

  -- the place of entry (i, j) after column c is written, c a column of the triangle
  column_same :
      (c m : List Float) (i j : ℕ) (d : Float) → Entry n i j → length c ≡ n - j → triangle n ≤ length m →
      get_or (store_column place j c m) (place i j) d ≡ get_or c (i - j) nan
  unfolding store_column
  column_same c m i j d e h fit =
      let lower : j ≤ i = e.lower in
      let inside : i < n = e.inside in
      let back : j + (i - j) ≡ i = omega arith in
      let bound : place i j < triangle n = bij.below i j e in
      let room : place (j + (i - j)) j < length m = rw back (omega arith) in
      let row : (r : ℕ) → r < length c → Entry n (j + r) j = λ r p. record { lower = omega arith; inside = omega arith } in
      let apart : (r s : ℕ) → r < length c → s < length c → place (j + r) j ≡ place (j + s) j → r ≡ s =
      λ r s p q g. let z : j + r ≡ j + s = (bij.apart (j + r) j (j + s) j (row r p) (row s q) g).0 in omega arith
      in
      let at : get_or (store_column place j c m) (place (j + (i - j)) j) d ≡ get_or c (i - j) nan =
      writes_same (λ r. place (j + r) j) (λ r. get_or c r nan) m (length c) apart (i - j) d (omega arith) room
      in
      rw back at at

  pub column_other :
      (c m : List Float) (i j k : ℕ) (d : Float) → Entry n i j → j ≢ k → length c ≡ n - k →
      get_or (store_column place k c m) (place i j) d ≡ get_or m (place i j) d
  unfolding store_column
  column_other c m i j k d e ne h =
      writes_other (λ r. place (k + r) k) (λ r. get_or c r nan) m (length c) (place i j) d
      (λ r p g.
      let there : Entry n (k + r) k = record { lower = omega arith; inside = omega arith } in
      ne (bij.apart i j (k + r) k e there g).1)

  module _ (t : Triangle) (m : List Float) (fit : triangle n ≤ length m) where
    pub stored_same :
        (k : ℕ) → ((j : ℕ) → j < k → length (get_or t j []) ≡ n - j) →
        (i j : ℕ) (d : Float) → Entry n i j → j < k → get_or (stored place t k m) (place i j) d ≡ entry t i j
    unfolding iterate entry
    stored_same zero hs i j d e h = absurd (omega arith)
    stored_same (suc k) hs i j d e h =
        elim (dec_lt j k) [
          | yes p ↦
              column_other (get_or t k []) (stored place t k m) i j k d e (λ g. omega arith) (hs k (omega arith))
              ∙ stored_same k (λ c q. hs c (omega arith)) i j d e p
          | no p ↦
              let g : k ≡ j = omega arith in
              rw g
              (column_same (get_or t j []) (stored place t j m) i j d e (hs j h) (omega (arith, length_stored t j m)))
        ]

    pub stored_other :
        (k : ℕ) → ((j : ℕ) → j < k → length (get_or t j []) ≡ n - j) →
        (i j : ℕ) (d : Float) → Entry n i j → k ≤ j → get_or (stored place t k m) (place i j) d ≡ get_or m (place i j) d
    stored_other k hs i j d e h = stored_apart place n t m k (place i j) d hs (λ i' j' e' before g. omega (arith, (bij.apart i j i' j' e e' g).1))

  pub length_store : (t : Triangle) (m : List Float) → length (store place t m) ≡ length m
  unfolding store
  length_store t m = length_stored t (length t) m

  module _ (t : Triangle) (k : ℕ) (shaped : Shaped n k t) (m : List Float) (fit : triangle n ≤ length m) where
    -- an entry of the stored columns, and one of the others
    pub store_same : (i j : ℕ) (d : Float) → Entry n i j → j < k → get_or (store place t m) (place i j) d ≡ entry t i j
    unfolding store
    store_same i j d e h = rw shaped.count (stored_same t m fit k shaped.heights i j d e h)

    pub store_other : (i j : ℕ) (d : Float) → Entry n i j → k ≤ j → get_or (store place t m) (place i j) d ≡ get_or m (place i j) d
    unfolding store
    store_other i j d e h = rw shaped.count (stored_other t m fit k shaped.heights i j d e h)

  -- two memories of a triangle's length that agree at the place of each entry are equal
  pub memory_ext :
      (m m' : List Float) → length m ≡ triangle n → length m' ≡ triangle n →
      ((i j : ℕ) → Entry n i j → get_or m (place i j) nan ≡ get_or m' (place i j) nan) → m ≡ m'
  memory_ext m m' e e' h =
      ext_get_or nan m m' (e ∙ sym e')
      (λ p q.
      let from : (i : ℕ) × (j : ℕ) × Entry n i j × (place i j ≡ p) = bij.onto p (omega arith) in
      rw from.3 at (h from.0 from.1 from.2))

  -- reading undoes writing
  pub load_store : (t : Triangle) (m : List Float) → Shaped n n t → triangle n ≤ length m → load place (height n) n (store place t m) ≡ t
  load_store t m s fit =
      triangle_ext n n (load place (height n) n (store place t m)) t (omega arith) (shaped_load place n (store place t m)) s
      (λ i j e h. entry_load place n (store place t m) i j e ∙ store_same t n s m fit i j nan e h)

  -- all memory is overwritten
  pub store_whole : (t : Triangle) (m m' : List Float) → Shaped n n t → length m ≡ triangle n → length m' ≡ triangle n → store place t m ≡ store place t m'
  store_whole t m m' s e e' =
      memory_ext (store place t m) (store place t m') (length_store t m ∙ e) (length_store t m' ∙ e')
      (λ i j en.
      let h : j < n = omega (arith, en.lower, en.inside) in
      store_same t n s m (omega arith) i j nan en h ∙ sym (store_same t n s m' (omega arith) i j nan en h))

  -- writing undoes reading
  pub store_load : (m : List Float) → length m ≡ triangle n → store place (load place (height n) n m) m ≡ m
  store_load m e =
      memory_ext (store place (load place (height n) n m) m) m (length_store (load place (height n) n m) m ∙ e) e
      (λ i j en.
      let h : j < n = omega (arith, en.lower, en.inside) in
      store_same (load place (height n) n m) n (shaped_load place n m) m (omega arith) i j nan en h ∙ entry_load place n m i j en)
