-- A part of a list that was lent and has come back, and one that a loop stores: what stands in the whole. Over any element type. Assumes nothing.
use Prim.Native.Nat.{ℕ, ◌+◌, ◌-◌, ◌≤◌, ◌<◌}
use native.Mathlib.Omega.{arith}
use native.Mathlib.Decide.{dec_lt}
use mathlib.Core.Path.{◌≡◌, refl, ap, ◌∙◌}
use mathlib.Core.List.{List, ◌++◌}
use lib.ListN.{length, get_or, set, take, drop, length-append, length-set, length-take, length-drop, get_or-append}
use lib.Seq.{get_or-take, get_or-drop, get_or-append-add, get_or-set_same, get_or-set_other}
use Rattle.kernels.specs.Kernels.{Filled, Replaced}

module _ {A : Type 0} (d : A) where
  -- an element of the part is one of the whole
  pub get_d_part : (a k : ℕ) (xs : List A) (r : ℕ) → r < k → get_or (take k (drop a xs)) r d ≡ get_or xs (a + r) d
  get_d_part a k xs r h = get_or-take k (drop a xs) r d h ∙ get_or-drop a xs r d

  pub length_part : (a k : ℕ) (xs : List A) → a + k ≤ length xs → length (take k (drop a xs)) ≡ k
  length_part a k xs h = omega (arith, length-take k (drop a xs), length-drop a xs)

  get_or_second : (xs ys : List A) (i a : ℕ) → length xs ≡ a → a ≤ i → get_or (xs ++ ys) i d ≡ get_or ys (i - a) d
  get_or_second xs ys i a e h =
      let at : i ≡ length xs + (i - a) = omega arith in
      ap (λ q. get_or (xs ++ ys) q d) at ∙ get_or-append-add xs ys (i - a) d

  -- `&mut xs[a..a + k]`
  module _ (a k : ℕ) (xs ys : List A) (fits : a + k ≤ length xs) (same : length ys ≡ k) where
    pub part_replaced : Replaced d a k xs ys (take a xs ++ (ys ++ drop k (drop a xs)))
    part_replaced =
        record {
          size =
              omega (arith, length-append (take a xs) tail, length-append ys (drop k (drop a xs)), head, length-drop k (drop a xs), length-drop a xs);
          before = λ i h. get_or-append (take a xs) tail d i (omega (arith, head)) ∙ get_or-take a xs i d h;
          inside = λ r h.
              let at : a + r - a ≡ r = omega arith in
              get_or_second (take a xs) tail (a + r) a head (omega arith) ∙ ap (λ q. get_or tail q d) at
              ∙ get_or-append ys (drop k (drop a xs)) d r (omega arith);
          after = λ i h.
              let at : a + (k + (i - a - k)) ≡ i = omega arith in
              get_or_second (take a xs) tail i a head (omega arith) ∙ get_or_second ys (drop k (drop a xs)) (i - a) k same (omega arith)
              ∙ get_or-drop k (drop a xs) (i - a - k) d ∙ get_or-drop a xs (k + (i - a - k)) d ∙ ap (λ q. get_or xs q d) at;
        }
      where
        tail : List A
        tail = ys ++ drop k (drop a xs)

        head : length (take a xs) ≡ a
        head = omega (arith, length-take a xs)

  -- `&mut xs[..k]`
  module _ (k : ℕ) (xs ys : List A) (fits : k ≤ length xs) (same : length ys ≡ k) where
    pub prefix_replaced : Replaced d 0 k xs ys (ys ++ drop k xs)
    prefix_replaced =
        record {
          size = omega (arith, length-append ys (drop k xs), length-drop k xs);
          before = λ i h. absurd (omega arith);
          inside = λ r h.
              let at : 0 + r ≡ r = omega arith in
              ap (λ q. get_or (ys ++ drop k xs) q d) at ∙ get_or-append ys (drop k xs) d r (omega arith);
          after = λ i h.
              let at : k + (i - k) ≡ i = omega arith in
              get_or_second ys (drop k xs) i k same (omega arith) ∙ get_or-drop k xs (i - k) d ∙ ap (λ q. get_or xs q d) at;
        }

  -- a loop that stores f 0, f 1, .. from a on
  module _ (a : ℕ) (f : ℕ → A) (xs : List A) where
    pub filled_none : Filled d a 0 f xs xs
    filled_none = record { size = refl; before = λ i h. refl; inside = λ r h. absurd (omega arith); after = λ i h. refl }

    pub filled_next :
        (k : ℕ) (zs : List A) (x : A) → a + k < length xs → Filled d a k f xs zs → x ≡ f k → Filled d a (k + 1) f xs (set zs (a + k) x)
    filled_next k zs x room so e =
        record {
          size = length-set zs (a + k) x ∙ so.size;
          before = λ i h. get_or-set_other zs (a + k) i x d (λ g. omega arith) ∙ so.before i h;
          inside = λ r h.
              elim (dec_lt r k) [
                | yes before ↦ get_or-set_other zs (a + k) (a + r) x d (λ g. omega arith) ∙ so.inside r before
                | no after ↦
                    let here : r ≡ k = omega arith in
                    rw here (get_or-set_same zs (a + k) x d (omega (arith, so.size)) ∙ e)
              ];
          after = λ i h. get_or-set_other zs (a + k) i x d (λ g. omega arith) ∙ so.after i (omega arith);
        }

  -- element i of those that were stored so
  pub filled_here :
      {a k : ℕ} {xs zs : List A} (f : ℕ → A) → Filled d a k (λ r. f (a + r)) xs zs → (i : ℕ) → a ≤ i → i < a + k → get_or zs i d ≡ f i
  filled_here {a} f so i low h =
      let here : a + (i - a) ≡ i = omega arith in
      rw here at (so.inside (i - a) (omega arith))

  pub filled_same :
      (a k : ℕ) (f f' : ℕ → A) (xs zs : List A) → ((r : ℕ) → r < k → f r ≡ f' r) → Filled d a k f xs zs → Filled d a k f' xs zs
  filled_same a k f f' xs zs same so =
      record { size = so.size; before = so.before; inside = λ r h. so.inside r h ∙ same r h; after = so.after }

  -- the count elements from `at` on, stored after the k before them
  pub filled_append :
      (a k at count : ℕ) (f g : ℕ → A) (xs ys zs : List A) → at ≡ a + k → Filled d a k f xs ys → Filled d at count g ys zs →
      ((r : ℕ) → r < count → g r ≡ f (k + r)) → Filled d a (k + count) f xs zs
  filled_append a k at count f g xs ys zs e first second same =
      record {
        size = second.size ∙ first.size;
        before = λ i h. second.before i (omega arith) ∙ first.before i h;
        inside = λ r h.
            elim (dec_lt r k) [
              | yes before ↦ second.before (a + r) (omega arith) ∙ first.inside r before
              | no after ↦
                  let here : a + r ≡ at + (r - k) = omega arith in
                  let back : k + (r - k) ≡ r = omega arith in
                  ap (λ q. get_or zs q d) here ∙ second.inside (r - k) (omega arith) ∙ same (r - k) (omega arith) ∙ ap f back
            ];
        after = λ i h. second.after i (omega arith) ∙ first.after i (omega arith);
      }
