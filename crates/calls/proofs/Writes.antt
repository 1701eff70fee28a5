-- A run of writes `set m (at r) (v r)`, r = 0 .. count − 1: what stands at each place afterwards. Over any element type. Assumes nothing.
use Prim.Native.Nat.{ℕ, zero, suc, ◌<◌}
use native.Mathlib.Omega.{arith}
use native.Mathlib.Decide.{dec_lt}
use mathlib.Core.Path.{◌≡◌, refl, ◌∙◌}
use mathlib.Core.Logic.{◌≢◌}
use mathlib.Core.List.{List}
use lib.ListN.{length, get_or, set, length-set}
use lib.Seq.{get_or-set_same, get_or-set_other}
use Rattle.calls.specs.Sequences.{iterate}

abbrev pub writes : {A : Type 0} → (ℕ → ℕ) → (ℕ → A) → ℕ → List A → List A
writes place value count m = iterate (λ r l. set l (place r) (value r)) count m

module _ {A : Type 0} (place : ℕ → ℕ) (value : ℕ → A) (m : List A) where
  pub length_writes : (count : ℕ) → length (writes place value count m) ≡ length m
  unfolding iterate
  length_writes zero = refl
  length_writes (suc k) = length-set (writes place value k m) (place k) (value k) ∙ length_writes k

  pub writes_other : (count p : ℕ) (d : A) → ((r : ℕ) → r < count → p ≢ place r) → get_or (writes place value count m) p d ≡ get_or m p d
  unfolding iterate
  writes_other zero p d h = refl
  writes_other (suc k) p d h =
      get_or-set_other (writes place value k m) (place k) p (value k) d (h k (omega arith))
      ∙ writes_other k p d (λ r q. h r (omega arith))

  pub writes_same :
      (count : ℕ) →
      ((r r' : ℕ) → r < count → r' < count → place r ≡ place r' → r ≡ r') →
      (r : ℕ) (d : A) → r < count → place r < length m → get_or (writes place value count m) (place r) d ≡ value r
  unfolding iterate
  writes_same zero apart r d h q = absurd (omega arith)
  writes_same (suc k) apart r d h q =
      elim (dec_lt r k) [
        | yes p ↦
            get_or-set_other (writes place value k m) (place k) (place r) (value k) d
            (λ e. let z : r ≡ k = apart r k h (omega arith) e in omega arith)
            ∙ writes_same k (λ x y a b. apart x y (omega arith) (omega arith)) r d p q
        | no p ↦
            let e : r ≡ k = omega arith in
            let inside : place k < length m = rw e at q in
            rw e (get_or-set_same (writes place value k m) (place k) (value k) d (omega (arith, length_writes k)))
      ]
