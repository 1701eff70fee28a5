-- Laws of specs/Sequences.antt: lengths and elements of grown lists, steps that agree, and what `all` and `every` say of each element. Assumes nothing.
use Prim.Native.Nat.{ℕ, zero, suc, ◌+◌, ◌≤◌, ◌<◌}
use native.Mathlib.Nat.{zero-add, suc-add}
use native.Mathlib.Numerals.{add-one}
use native.Mathlib.Omega.{arith}
use native.Mathlib.Decide.{dec_lt}
use mathlib.Core.Path.{◌≡◌, refl, sym, ap, ap₂, ◌∙◌}
use mathlib.Core.Bool.{Bool, ◌&&◌, and-true, and_assoc}
use mathlib.Core.List.{List, [], ◌∷◌, ◌++◌}
use lib.Dec.{T}
use lib.ListN.{length, get_or, take, drop, length-append, get_or-append}
use lib.Seq.{get_or_at, ext_get_or, take-suc, take-nil, drop-nil}
use lib.Ieee.Fits.{and_i, and_l, and_r}
use Rattle.calls.specs.Sequences.{iterate, grow, tabulate, all, every}

-- ---- grown lists

module _ {A : Type 0} (next : ℕ → List A → A) where
  pub length_grow : (n : ℕ) → length (grow next n) ≡ n
  unfolding grow
  length_grow zero = refl
  length_grow (suc k) = length-append (grow next k) _ ∙ ap (λ (x : ℕ). x + 1) (length_grow k) ∙ add-one k

  pub get_or_grow : (n i : ℕ) (d : A) → i < n → get_or (grow next n) i d ≡ next i (grow next i)
  unfolding grow
  get_or_grow zero i d h = absurd (omega arith)
  get_or_grow (suc k) i d h =
      elim (dec_lt i k) [
        | yes p ↦ get_or-append (grow next k) _ d i (omega (arith, length_grow k)) ∙ get_or_grow k i d p
        | no p ↦ let e : i ≡ k = omega arith in rw e (get_or_at (grow next k) (next k (grow next k)) [] d k (length_grow k))
      ]

module _ {A : Type 0} (f : ℕ → A) where
  pub length_tabulate : (n : ℕ) → length (tabulate n f) ≡ n
  unfolding tabulate
  length_tabulate n = length_grow (λ k before. f k) n

  pub get_d_tabulate : (n i : ℕ) (d : A) → i < n → get_or (tabulate n f) i d ≡ f i
  unfolding tabulate
  get_d_tabulate n i d h = get_or_grow (λ k before. f k) n i d h

-- a list of n elements whose element i is f i is the table of f
pub tabulate_of : {A : Type 0} (f : ℕ → A) (n : ℕ) (xs : List A) (d : A) → length xs ≡ n → ((i : ℕ) → i < n → get_or xs i d ≡ f i) → tabulate n f ≡ xs
tabulate_of f n xs d e h =
    ext_get_or d (tabulate n f) xs (length_tabulate f n ∙ sym e)
    (λ i p. let q : i < n = omega (arith, length_tabulate f n) in get_d_tabulate f n i d q ∙ sym (h i q))

-- tables of functions that agree
pub tabulate_same : {A : Type 0} (f g : ℕ → A) (n : ℕ) → ((i : ℕ) → i < n → f i ≡ g i) → tabulate n f ≡ tabulate n g
unfolding tabulate grow
tabulate_same f g zero same = refl
tabulate_same f g (suc k) same =
    ap₂ (λ xs x. xs ++ (x ∷ [])) (tabulate_same f g k (λ i h. same i (omega arith))) (same k (omega arith))

-- ---- steps

-- steps that agree at each place on the way of the second
pub iterate_alike :
    {A : Type 0} (f g : ℕ → A → A) (n : ℕ) (a : A) → ((k : ℕ) → k < n → f k (iterate g k a) ≡ g k (iterate g k a)) → iterate f n a ≡ iterate g n a
unfolding iterate
iterate_alike f g zero a h = refl
iterate_alike f g (suc k) a h = ap (f k) (iterate_alike f g k a (λ i p. h i (omega arith))) ∙ h k (omega arith)

-- ---- all

module _ {A : Type 0} (test : A → Bool) where
  pub all_append : (xs ys : List A) → all test (xs ++ ys) ≡ all test xs && all test ys
  unfolding all
  all_append [] ys = refl
  all_append (x ∷ xs) ys = rw (all_append xs ys) (sym (and_assoc (test x) (all test xs) (all test ys)))

  pub all_take : (xs : List A) (i : ℕ) (d : A) → i < length xs → all test (take (i + 1) xs) ≡ all test (take i xs) && test (get_or xs i d)
  unfolding all
  all_take xs i d h =
      rw (add-one i, take-suc xs i d h)
      (all_append (take i xs) (get_or xs i d ∷ []) ∙ ap (λ (b : Bool). all test (take i xs) && b) (and-true (test (get_or xs i d))))

  pub all_parts : (xs : List A) (a b : ℕ) → all test (take (a + b) xs) ≡ all test (take a xs) && all test (take b (drop a xs))
  unfolding all
  all_parts xs zero b = rw zero-add
  all_parts [] (suc a) b = rw (take-nil (suc a + b), take-nil (suc a), drop-nil (suc a), take-nil b)
  all_parts (x ∷ xs) (suc a) b = rw suc-add (rw (all_parts xs a b) (sym (and_assoc (test x) (all test (take a xs)) (all test (take b (drop a xs))))))

  pub all_at : (xs : List A) → T (all test xs) → (i : ℕ) (d : A) → i < length xs → T (test (get_or xs i d))
  unfolding all
  all_at [] h i d p = absurd (omega arith)
  all_at (x ∷ xs) h zero d p = and_l (test x) (all test xs) h
  all_at (x ∷ xs) h (suc i) d p = all_at xs (and_r (test x) (all test xs) h) i d (omega arith)

  pub all_of : (xs : List A) (d : A) → ((i : ℕ) → i < length xs → T (test (get_or xs i d))) → T (all test xs)
  unfolding all
  all_of [] d h = tt
  all_of (x ∷ xs) d h = and_i (test x) (all test xs) (h zero (omega arith)) (all_of xs d (λ i p. h (suc i) (omega arith)))

-- ---- what holds of each number because it holds of those before it

pub rising : (P : ℕ → Type 0) (n : ℕ) → ((i : ℕ) → i < n → ((c : ℕ) → c < i → P c) → P i) → (i : ℕ) → i < n → P i
rising P n step i h = below n (omega arith) i h
  where
    below : (m : ℕ) → m ≤ n → (i : ℕ) → i < m → P i
    below zero le i h = absurd (omega arith)
    below (suc m) le i h =
        elim (dec_lt i m) [
          | yes p ↦ below m (omega arith) i p
          | no p ↦ let e : m ≡ i = omega arith in step i (omega arith) (rw e at (below m (omega arith)))
        ]

-- ---- every

pub every_at : (test : ℕ → Bool) (n : ℕ) → T (every test n) → (k : ℕ) → k < n → T (test k)
unfolding every
every_at test zero t k h = absurd (omega arith)
every_at test (suc n) t k h =
    elim (dec_lt k n) [
      | yes p ↦ every_at test n (and_l (every test n) (test n) t) k p
      | no p ↦ let e : k ≡ n = omega arith in rw e (and_r (every test n) (test n) t)
    ]

pub every_of : (test : ℕ → Bool) (n : ℕ) → ((k : ℕ) → k < n → T (test k)) → T (every test n)
unfolding every
every_of test zero h = tt
every_of test (suc n) h = and_i (every test n) (test n) (every_of test n (λ k p. h k (omega arith))) (h n (omega arith))
