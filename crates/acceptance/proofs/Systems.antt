-- Laws of specs/Systems.antt: the digits of a number as whole numbers are small, each small list is that of one number, and lists come in the order of their
-- numbers; and the loop that fills a memory. Assumes nothing.
use Prim.Native.Nat.{ℕ, zero, suc, ◌+◌, ◌-◌, ◌*◌, ◌/◌, ◌%◌, ◌^◌, ◌≤◌, ◌<◌}
use native.Mathlib.Nat.{pow-suc, pow-le-pow_right, zero-lt-suc}
use native.Mathlib.Omega.{arith}
use native.Mathlib.Decide.{dec_lt}
use mathlib.Core.Path.{◌≡◌, refl, sym, ap, ap₂, ◌∙◌, subst}
use mathlib.Core.List.{List, [], ◌∷◌, ◌++◌, append-nil, map-append}
use lib.Arith.{digits_lt, digits_div, digits_mod}
use lib.Dec.{T}
use lib.IntN.{ℤ, pos, negsuc, neg_ℤ, nat_abs, ◌+ℤ◌, +ℤ_idl, +ℤ_invl, +ℤ_assoc, +ℤ_comm}
use lib.ListN.{length, get_or, take, drop, set, length-append, length-set, get_or-append}
use lib.Seq.{take_all, take-suc, drop-length, append_snoc, get_or_at, get_or-take, length-take-le}
use lib.Ieee.{Float, binary64, sub, of_int, in_float, of_bits}
use Rattle.shape.specs.Places.{triangle}
use Rattle.text.proofs.Lists.{drop_set}
use Rattle.acceptance.specs.Systems.{whole_of, wholes, values, total, Small, EachOnce, OnlySmall, Less, Precedes, InOrder}

-- ---- digits

-- what holds of the five digits
pub digitwise : (P : ℕ → Type 0) → P 0 → P 1 → P 2 → P 3 → P 4 → (d : ℕ) → d < 5 → P d
digitwise P a b c e f zero h = a
digitwise P a b c e f (suc zero) h = b
digitwise P a b c e f (suc (suc zero)) h = c
digitwise P a b c e f (suc (suc (suc zero))) h = e
digitwise P a b c e f (suc (suc (suc (suc zero)))) h = f
digitwise P a b c e f (suc (suc (suc (suc (suc d))))) h = absurd (omega arith)

pub value_of : (d : ℕ) → d < 5 → sub binary64 (of_int binary64 (pos d)) (of_bits binary64 4611686018427387904) ≡ of_int binary64 (whole_of d)
unfolding sub of_int of_bits
value_of = digitwise (λ d. sub binary64 (of_int binary64 (pos d)) (of_bits binary64 4611686018427387904) ≡ of_int binary64 (whole_of d)) refl refl refl refl refl

pub digit_held : (d : ℕ) → d < 5 → T (in_float binary64 (pos d))
unfolding in_float
digit_held = digitwise (λ d. T (in_float binary64 (pos d))) tt tt tt tt tt

whole_small : (d : ℕ) → d < 5 → nat_abs (whole_of d) ≤ 2
whole_small = digitwise (λ d. nat_abs (whole_of d) ≤ 2) (omega arith) (omega arith) (omega arith) (omega arith) (omega arith)

-- the digit of a small number
record DigitOf (x : ℤ) : Type 0 where
  digit : ℕ
  below : digit < 5
  whole : whole_of digit ≡ x

digit_of : (x : ℤ) → nat_abs x ≤ 2 → DigitOf x
digit_of (pos zero) h = record { digit = 2; below = omega arith; whole = refl }
digit_of (pos (suc zero)) h = record { digit = 3; below = omega arith; whole = refl }
digit_of (pos (suc (suc zero))) h = record { digit = 4; below = omega arith; whole = refl }
digit_of (pos (suc (suc (suc n)))) h = absurd (omega arith)
digit_of (negsuc zero) h = record { digit = 1; below = omega arith; whole = refl }
digit_of (negsuc (suc zero)) h = record { digit = 0; below = omega arith; whole = refl }
digit_of (negsuc (suc (suc n))) h = absurd (omega arith)

whole_less : (d e : ℕ) → d < e → Less (whole_of d) (whole_of e)
whole_less d e h =
    let m = negsuc 1 in
    let s : e ≡ d + suc (e - d - 1) = omega arith in (
      e - d - 1,
      (
          ap (λ k. pos k +ℤ m) s
          ∙ +ℤ_assoc (pos d) (pos (suc (e - d - 1))) m
          ∙ ap (λ k. pos d +ℤ k) (+ℤ_comm (pos (suc (e - d - 1))) m)
          ∙ sym (+ℤ_assoc (pos d) m (pos (suc (e - d - 1))))
          ),
    )

less_other : (x : ℤ) → Less x x → ⊥
less_other x l =
    let up : pos 0 ≡ pos (suc l.0) =
    sym (+ℤ_invl x) ∙ ap (λ y. neg_ℤ x +ℤ y) l.1 ∙ sym (+ℤ_assoc (neg_ℤ x) x (pos (suc l.0))) ∙ ap (λ y. y +ℤ pos (suc l.0)) (+ℤ_invl x) ∙ +ℤ_idl (pos (suc l.0))
    in
    let e : 0 ≡ suc l.0 = ap nat_abs up in
    omega arith

-- ---- the digits of a number

pub length_wholes : (k t : ℕ) → length (wholes k t) ≡ k
unfolding wholes
length_wholes zero t = refl
length_wholes (suc k) t = length-append (wholes k (t / 5)) (whole_of (t % 5) ∷ []) ∙ omega (arith, length_wholes k (t / 5))

-- the last one, and those before it
wholes_last : (k t : ℕ) → get_or (wholes (suc k) t) k (pos 0) ≡ whole_of (t % 5)
unfolding wholes
wholes_last k t = get_or_at (wholes k (t / 5)) (whole_of (t % 5)) [] (pos 0) k (length_wholes k (t / 5))

wholes_before : (k t p : ℕ) → p < k → get_or (wholes (suc k) t) p (pos 0) ≡ get_or (wholes k (t / 5)) p (pos 0)
unfolding wholes
wholes_before k t p h = get_or-append (wholes k (t / 5)) (whole_of (t % 5) ∷ []) (pos 0) p (omega (arith, length_wholes k (t / 5)))

wholes_small : (k t p : ℕ) → p < k → nat_abs (get_or (wholes k t) p (pos 0)) ≤ 2
wholes_small zero t p h = absurd (omega arith)
wholes_small (suc k) t p h =
    elim (dec_lt p k) [
      | yes q ↦ rw (wholes_before k t p q) (wholes_small k (t / 5) p q)
      | no q ↦ let e : p ≡ k = omega arith in rw (e, wholes_last k t) (whole_small (t % 5) (omega arith))
    ]

pub only_small : OnlySmall
only_small n t = record { size = length_wholes (triangle n) t; within = wholes_small (triangle n) t }

-- ---- in order

wholes_order : (k t u : ℕ) → t < u → u < 5 ^ k → Precedes (wholes k t) (wholes k u)
wholes_order zero t u h l = absurd (omega arith)
wholes_order (suc k) t u h l =
    elim (dec_lt (t / 5) (u / 5)) [
      | yes q ↦
          (let before : Precedes (wholes k (t / 5)) (wholes k (u / 5)) = wholes_order k (t / 5) (u / 5) q (omega (arith, pow-suc 5 k)) in
          let inside : before.position < k = omega (arith, before.inside, length_wholes k (t / 5)) in
          record {
            position = before.position;
            inside = omega (arith, length_wholes (suc k) t);
            same = λ p r. rw (wholes_before k t p (omega arith), wholes_before k u p (omega arith)) (before.same p r);
            less = rw (wholes_before k t before.position inside, wholes_before k u before.position inside) before.less;
          })
      | no q ↦
          let e : t / 5 ≡ u / 5 = omega arith in
          record {
            position = k;
            inside = omega (arith, length_wholes (suc k) t);
            same = λ p r. wholes_before k t p r ∙ ap (λ x. get_or (wholes k x) p (pos 0)) e ∙ sym (wholes_before k u p r);
            less = rw (wholes_last k t, wholes_last k u) (whole_less (t % 5) (u % 5) (omega arith));
          }
    ]

pub in_order : InOrder
unfolding total
in_order n t u h l = wholes_order (triangle n) t u h l

-- ---- each once

-- different numbers have different digits
wholes_apart : (k t u : ℕ) → t < u → u < 5 ^ k → wholes k t ≡ wholes k u → ⊥
wholes_apart k t u h l e =
    let before : Precedes (wholes k t) (wholes k u) = wholes_order k t u h l in
    less_other (get_or (wholes k t) before.position (pos 0))
    (subst (λ xs. Less (get_or (wholes k t) before.position (pos 0)) (get_or xs before.position (pos 0))) (sym e) before.less)

record Numbered (k : ℕ) (xs : List ℤ) : Type 0 where
  number : ℕ
  below : number < 5 ^ k
  there : wholes k number ≡ xs

number_of : (k : ℕ) (xs : List ℤ) → Small k xs → Numbered k xs
unfolding wholes
number_of zero [] s = record { number = 0; below = omega arith; there = refl }
number_of zero (x ∷ xs) s = absurd (omega (arith, s.size))
number_of (suc k) xs s =
    let front : Numbered k (take k xs) =
    number_of k (take k xs)
    (record {
      size = length-take-le k xs (omega (arith, s.size));
      within = λ p h. rw (get_or-take k xs p (pos 0) h) (s.within p (omega arith));
    })
    in
    let last : DigitOf (get_or xs k (pos 0)) = digit_of (get_or xs k (pos 0)) (s.within k (omega arith)) in
    let t : ℕ = front.number * 5 + last.digit in
    let first : t / 5 ≡ front.number = digits_div front.number last.below in
    let rest : t % 5 ≡ last.digit = digits_mod front.number last.below in
    record {
      number = t;
      below = omega (arith, pow-suc 5 k, digits_lt front.below last.below);
      there =
          ap₂ (λ x y. wholes k x ++ (whole_of y ∷ [])) first rest
          ∙ ap₂ (λ ys x. ys ++ (x ∷ [])) front.there last.whole
          ∙ sym (take-suc xs k (pos 0) (omega (arith, s.size)))
          ∙ take_all (suc k) xs (omega (arith, s.size));
    }

pub each_once : EachOnce
unfolding total
each_once n xs s =
    let found : Numbered (triangle n) xs = number_of (triangle n) xs s in
    record {
      number = found.number;
      below = found.below;
      there = found.there;
      alone = λ t h e.
          elim (dec_lt t found.number) [
            | yes p ↦ absurd (wholes_apart (triangle n) t found.number p found.below (e ∙ sym found.there))
            | no p ↦
                elim (dec_lt found.number t) [
                  | yes q ↦ absurd (wholes_apart (triangle n) found.number t q h (found.there ∙ sym e))
                  | no q ↦ omega arith
                ]
          ];
    }

-- ---- the loop that fills a memory: the digits of what is left, and what stands from p on, are those of t

pub record FilledUp (count t : ℕ) (memory : List Float) (left p : ℕ) : Type 0 where
  pub size : length memory ≡ count
  pub within : p ≤ count
  pub text : values (wholes p left) ++ drop p memory ≡ values (wholes count t)

pub fill_none : (t : ℕ) (memory : List Float) → FilledUp (length memory) t memory t (length memory)
fill_none t memory =
    record { size = refl; within = omega arith; text = rw (drop-length memory) (append-nil (values (wholes (length memory) t))) }

module _ (count t : ℕ) (memory : List Float) (left p : ℕ) (f : FilledUp count t memory left p) where
  pub fill_turn : (v : Float) → 0 < p → v ≡ of_int binary64 (whole_of (left % 5)) → FilledUp count t (set memory (p - 1) v) (left / 5) (p - 1)
  unfolding wholes
  fill_turn v h e =
      let s : suc (p - 1) ≡ p = omega arith in
      let front : List Float = values (wholes (p - 1) (left / 5)) in
      let stored : drop (p - 1) (set memory (p - 1) v) ≡ v ∷ drop p memory =
      drop_set memory (p - 1) v (omega (arith, f.size, f.within)) ∙ ap (λ k. v ∷ drop k memory) s in
      let digits : values (wholes p left) ≡ front ++ (v ∷ []) =
      ap (λ k. values (wholes k left)) (sym s) ∙ map-append (of_int binary64) (wholes (p - 1) (left / 5)) (whole_of (left % 5) ∷ []) ∙ ap (λ x. front ++ (x ∷ [])) (sym e) in
      record {
        size = length-set memory (p - 1) v ∙ f.size;
        within = omega (arith, f.within);
        text = ap (λ r. front ++ r) stored ∙ sym (append_snoc front v (drop p memory)) ∙ ap (λ r. r ++ drop p memory) (sym digits) ∙ f.text;
      }

  pub fill_done : p ≤ 0 → memory ≡ values (wholes count t)
  unfolding wholes
  fill_done h = let z : p ≡ 0 = omega arith in rw z at f.text

-- ---- how many there are

-- of order 3 at most
pub triangle_small : (n : ℕ) → n ≤ 3 → triangle n ≤ 6
unfolding triangle
triangle_small zero h = omega arith
triangle_small (suc zero) h = omega arith
triangle_small (suc (suc zero)) h = omega arith
triangle_small (suc (suc (suc zero))) h = omega arith
triangle_small (suc (suc (suc (suc n)))) h = absurd (omega arith)

pub total_small : (n : ℕ) → n ≤ 3 → total n < 2 ^ 32
unfolding total
total_small n h = let p : 5 ^ triangle n ≤ 5 ^ 6 = pow-le-pow_right (zero-lt-suc 4) (triangle_small n h) in omega arith
