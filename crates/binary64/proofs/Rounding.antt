-- From an integer root of 54 digits to the root's pattern: it meets document 01's rule, so it is `root_bits`, and it is exact where the integer root leaves
-- nothing. Assumes nothing.
use mathlib.Core.Path.{◌≡◌, refl, sym, ap, ◌∙◌, subst}
use mathlib.Core.Logic.{◌⊎◌, inl, inr}
use Prim.Native.Nat.{ℕ, suc, ◌+◌, ◌-◌, ◌*◌, ◌/◌, ◌%◌, ◌^◌, ◌≤◌, ◌<◌}
use native.Mathlib.Nat.{le_of_lt, eq-or-lt_of_le, mul_assoc, mul-mul-mul_comm, mul-lt-mul_of_pos_right, mul-pos, add-mul, pow-succ', eq-zero-or-pos, eq_of_mul-eq-mul_right}
use native.Mathlib.Omega.{arith}
use lib.Dec.{eqb, lit≤}
use lib.Pow.{pow_pos, pow-add}
use borrow.Author.Tests.{eq-eqb, ne_eqb}
use Rattle.binary64.specs.Root.{magnitude, lower_midpoint, upper_midpoint, scaled, MidpointRule, root_bits, squares_to}
use Rattle.binary64.specs.RootSteps.{Normalised, IntegerRoot, RootFound}
use Rattle.binary64.proofs.Magnitudes.{magnitude_is, magnitude_before_power}
use Rattle.binary64.proofs.Bisection.{pow_two, root_unique}
use Rattle.binary64.proofs.IntegerRoots.{half_up, root_ge, root_lt, rounded_below, rounded_above, exact_of_zero, zero_of_exact}

-- ---- squares

square_mul : (a u : ℕ) → (a * u) ^ 2 ≡ a * a * (u * u)
square_mul a u = pow_two (a * u) ∙ mul-mul-mul_comm a u a u

scaled_lt : (a n u : ℕ) → 0 < u → a * a < n → (a * u) ^ 2 < n * (u * u)
scaled_lt a n u h l = subst (λ (x : ℕ). x < n * (u * u)) (sym (square_mul a u)) (mul-lt-mul_of_pos_right l (mul-pos h h))

scaled_gt : (a n u : ℕ) → 0 < u → n < a * a → n * (u * u) < (a * u) ^ 2
scaled_gt a n u h l = subst (λ (x : ℕ). n * (u * u) < x) (sym (square_mul a u)) (mul-lt-mul_of_pos_right l (mul-pos h h))

-- ---- the whole number whose root is taken: the significand at an even exponent, with 54 digits more

abbrev pub radicand : ℕ → ℕ → ℕ
radicand s x = s * 2 ^ (x % 2) * 2 ^ 54

-- the exponent of the root
abbrev pub root_exponent : ℕ → ℕ
root_exponent x = (x - 54) / 2

one_or_two : (x : ℕ) → (2 ^ (x % 2) ≡ 1) ⊎ (2 ^ (x % 2) ≡ 2)
one_or_two x = elim (eq-zero-or-pos (x % 2)) [
  | inl e ↦ inl (ap (λ (y : ℕ). 2 ^ y) e)
  | inr l ↦ (let e : x % 2 ≡ 1 = omega arith in inr (ap (λ (y : ℕ). 2 ^ y) e))
]

pub even_range : (s x : ℕ) → 2 ^ 52 ≤ s → s < 2 ^ 53 → (2 ^ 52 ≤ s * 2 ^ (x % 2)) × (s * 2 ^ (x % 2) ≤ 2 ^ 54 - 2)
even_range s x g h = elim (one_or_two x) [
  | inl e ↦ (let m : s * 2 ^ (x % 2) ≡ s * 1 = ap (λ (y : ℕ). s * y) e in omega arith)
  | inr e ↦ (let m : s * 2 ^ (x % 2) ≡ s * 2 = ap (λ (y : ℕ). s * y) e in omega arith)
]

radicand_scaled : (s x : ℕ) → 54 ≤ x → s * 2 ^ x ≡ radicand s x * (2 ^ root_exponent x * 2 ^ root_exponent x)
radicand_scaled s x h =
    let j = root_exponent x in
    let at : x ≡ x % 2 + (54 + (j + j)) = omega arith in
    ap (λ (y : ℕ). s * 2 ^ y) at
    ∙ ap (λ (y : ℕ). s * y) (pow-add 2 (x % 2) (54 + (j + j)))
    ∙ ap (λ (y : ℕ). s * (2 ^ (x % 2) * y)) (pow-add 2 54 (j + j) ∙ ap (λ (y : ℕ). 2 ^ 54 * y) (pow-add 2 j j))
    ∙ sym (mul_assoc s (2 ^ (x % 2)) (2 ^ 54 * (2 ^ j * 2 ^ j)))
    ∙ sym (mul_assoc (s * 2 ^ (x % 2)) (2 ^ 54) (2 ^ j * 2 ^ j))

-- ---- the midpoints of a significand r at an exponent k

lower_is : (p : ℕ) → lower_midpoint p ≡ magnitude (p - 1) + magnitude p
unfolding lower_midpoint
lower_is p = refl

upper_is : (p : ℕ) → upper_midpoint p ≡ magnitude p + magnitude (p + 1)
unfolding upper_midpoint
upper_is p = refl

twice_and_one : (r u : ℕ) → r * u + (r + 1) * u ≡ (2 * r + 1) * u
twice_and_one r u = let sum : r + (r + 1) ≡ 2 * r + 1 = omega arith in sym (add-mul r (r + 1) u) ∙ ap (λ (y : ℕ). y * u) sum

upper_at : (r k : ℕ) → 2 ^ 52 ≤ r → r < 2 ^ 53 → k < 2046 → upper_midpoint (r + k * 2 ^ 52) ≡ (2 * r + 1) * 2 ^ k
upper_at r k g h b =
    let next : r + k * 2 ^ 52 + 1 ≡ (r + 1) + k * 2 ^ 52 = omega arith in
    let g' : 2 ^ 52 ≤ r + 1 = omega arith in
    let h' : r + 1 ≤ 2 ^ 53 = omega arith in
    upper_is (r + k * 2 ^ 52)
    ∙ ap (λ (y : ℕ). y + magnitude (r + k * 2 ^ 52 + 1)) (magnitude_is r k (le_of_lt h) (inr g) (omega arith))
    ∙ ap (λ (y : ℕ). r * 2 ^ k + y) (ap magnitude next ∙ magnitude_is (r + 1) k h' (inr g') (omega arith))
    ∙ twice_and_one r (2 ^ k)

lower_at : (r k : ℕ) → 2 ^ 52 < r → r < 2 ^ 53 → k < 2046 → lower_midpoint (r + k * 2 ^ 52) ≡ (2 * r - 1) * 2 ^ k
lower_at r k g h b =
    let before : r + k * 2 ^ 52 - 1 ≡ (r - 1) + k * 2 ^ 52 = omega arith in
    let g' : 2 ^ 52 ≤ r - 1 = omega arith in
    let h' : r - 1 ≤ 2 ^ 53 = omega arith in
    let back : r ≡ r - 1 + 1 = omega arith in
    let sum : 2 * (r - 1) + 1 ≡ 2 * r - 1 = omega arith in
    lower_is (r + k * 2 ^ 52)
    ∙ ap (λ (y : ℕ). y + magnitude (r + k * 2 ^ 52)) (ap magnitude before ∙ magnitude_is (r - 1) k h' (inr g') (omega arith))
    ∙ ap (λ (y : ℕ). (r - 1) * 2 ^ k + y) (magnitude_is r k (le_of_lt h) (inr (le_of_lt g)) (omega arith))
    ∙ ap (λ (y : ℕ). (r - 1) * 2 ^ k + y * 2 ^ k) back
    ∙ twice_and_one (r - 1) (2 ^ k)
    ∙ ap (λ (y : ℕ). y * 2 ^ k) sum

-- at a power of two the gap below is half the gap above
lower_at_power : (j : ℕ) → j < 2045 → lower_midpoint (2 ^ 52 + suc j * 2 ^ 52) ≡ (2 ^ 54 - 1) * 2 ^ j
lower_at_power j b =
    let at : magnitude (2 ^ 52 + suc j * 2 ^ 52) ≡ 2 ^ 52 * 2 ^ suc j = magnitude_is (2 ^ 52) (suc j) (lit≤ tt) (inr (lit≤ tt)) (omega arith) in
    omega (arith, lower_is (2 ^ 52 + suc j * 2 ^ 52), at, pow-succ' 2 j, magnitude_before_power j (omega arith))

-- ---- the rule

rule_above : (r k n : ℕ) → 0 < k → k < 2046 → 2 ^ 52 ≤ r → r < 2 ^ 53 → 2 ^ 106 ≤ n → (2 * r - 1) * (2 * r - 1) < n
    → lower_midpoint (r + k * 2 ^ 52) ^ 2 < n * (2 ^ k * 2 ^ k)
rule_above r k n K B g h b l = elim (eq-or-lt_of_le g) [
  | inl e ↦
      let j = k - 1 in
      let suc-j : suc j ≡ k = omega arith in
      subst (λ (i : ℕ). lower_midpoint (r + i * 2 ^ 52) ^ 2 < n * (2 ^ i * 2 ^ i)) suc-j
      (subst (λ (i : ℕ). lower_midpoint (i + suc j * 2 ^ 52) ^ 2 < n * (2 ^ suc j * 2 ^ suc j)) e (at_power j (omega arith)))
  | inr m ↦ subst (λ (y : ℕ). y ^ 2 < n * (2 ^ k * 2 ^ k)) (sym (lower_at r k m h B)) (scaled_lt (2 * r - 1) n (2 ^ k) (pow_pos k) l)
]
  where
    four : (u : ℕ) → n * 4 * (u * u) ≡ n * (2 * u * (2 * u))
    four u = mul_assoc n 4 (u * u) ∙ ap (λ (y : ℕ). n * y) (sym (mul-mul-mul_comm 2 u 2 u))

    enough : (2 ^ 54 - 1) * (2 ^ 54 - 1) < n * 4
    enough = omega arith

    at_power : (j : ℕ) → j < 2045 → lower_midpoint (2 ^ 52 + suc j * 2 ^ 52) ^ 2 < n * (2 ^ suc j * 2 ^ suc j)
    at_power j J =
        subst (λ (y : ℕ). lower_midpoint (2 ^ 52 + suc j * 2 ^ 52) ^ 2 < n * (y * y)) (sym (pow-succ' 2 j))
        (subst (λ (y : ℕ). lower_midpoint (2 ^ 52 + suc j * 2 ^ 52) ^ 2 < y) (four (2 ^ j))
        (subst (λ (y : ℕ). y ^ 2 < n * 4 * (2 ^ j * 2 ^ j)) (sym (lower_at_power j J)) (scaled_lt (2 ^ 54 - 1) (n * 4) (2 ^ j) (pow_pos j) enough)))

-- the root's pattern, of the integer root q at exponent x
abbrev pub rounded : ℕ → ℕ → ℕ
rounded q x = half_up q + root_exponent x * 2 ^ 52

module _ (p s x q t : ℕ) (n : Normalised p s x) (w : IntegerRoot (radicand s x) q t) where
  value : scaled p ≡ radicand s x * (2 ^ root_exponent x * 2 ^ root_exponent x)
  value = n.value ∙ radicand_scaled s x (omega (arith, n.exponent_ge))

  radicand_ge : 2 ^ 106 ≤ radicand s x
  radicand_ge = omega (arith, (even_range s x n.significand_ge n.significand_lt).0)

  radicand_even : radicand s x ≡ 2 * (s * 2 ^ (x % 2) * 2 ^ 53)
  radicand_even = omega arith

  pub root_range : (2 ^ 53 ≤ q) × (q < 2 ^ 54 - 1)
  root_range =
      let high : radicand s x < (2 ^ 54 - 1) * (2 ^ 54 - 1) = omega (arith, (even_range s x n.significand_ge n.significand_lt).1) in
      (root_ge (radicand s x) q t w (2 ^ 53) radicand_ge, root_lt (radicand s x) q t w (2 ^ 54 - 1) high)

  significand_range : (2 ^ 52 ≤ half_up q) × (half_up q < 2 ^ 53)
  significand_range = let h = root_range in omega arith

  pub rounded_range : (2 ^ 52 < rounded q x) × (rounded q x < 2047 * 2 ^ 52)
  rounded_range = let h = significand_range in omega (arith, n.exponent_ge, n.exponent_le)

  pub rounded_rule : MidpointRule p (rounded q x)
  rounded_rule =
      let h = significand_range in
      let r : ℕ = half_up q in
      let k = root_exponent x in
      let k-pos : 0 < k = omega (arith, n.exponent_ge) in
      let k_lt : k < 2046 = omega (arith, n.exponent_le) in
      let q-pos : 0 < q = omega (arith, root_range.0) in
      record {
        above =
            subst (λ (y : ℕ). lower_midpoint (r + k * 2 ^ 52) ^ 2 < y) (sym value)
            (rule_above r k (radicand s x) k-pos k_lt h.0 h.1 radicand_ge (rounded_below (radicand s x) q t w (s * 2 ^ (x % 2) * 2 ^ 53) radicand_even q-pos));
        below =
            subst (λ (y : ℕ). y < upper_midpoint (r + k * 2 ^ 52) ^ 2) (sym value)
            (subst (λ (y : ℕ). radicand s x * (2 ^ k * 2 ^ k) < y ^ 2) (sym (upper_at r k h.0 h.1 k_lt))
            (scaled_gt (2 * r + 1) (radicand s x) (2 ^ k) (pow_pos k) (rounded_above (radicand s x) q t w)));
      }

  pub rounded_root : p < 2 ^ 63 → rounded q x ≡ root_bits p
  rounded_root h = root_unique p (rounded q x) h (omega (arith, rounded_range.1)) rounded_rule

  exact_square : (2 * magnitude (rounded q x)) ^ 2 ≡ 2 * half_up q * (2 * half_up q) * (2 ^ root_exponent x * 2 ^ root_exponent x)
  exact_square =
      let h = significand_range in
      ap (λ (y : ℕ). (2 * y) ^ 2) (magnitude_is (half_up q) (root_exponent x) (le_of_lt h.1) (inr h.0) (omega (arith, n.exponent_le)))
      ∙ ap (λ (y : ℕ). y ^ 2) (sym (mul_assoc 2 (half_up q) (2 ^ root_exponent x)))
      ∙ square_mul (2 * half_up q) (2 ^ root_exponent x)

  rounded_exact : eqb t 0 ≡ squares_to (rounded q x) p
  unfolding squares_to
  rounded_exact =
      let u : ℕ = 2 ^ root_exponent x * 2 ^ root_exponent x in
      let u-pos : 0 < u = mul-pos (pow_pos (root_exponent x)) (pow_pos (root_exponent x)) in
      let r : ℕ = half_up q in
      elim (eq-zero-or-pos t) [
        | inl z ↦
            eq-eqb t 0 z
            ∙ sym (eq-eqb ((2 * magnitude (rounded q x)) ^ 2) (scaled p)
            (exact_square ∙ ap (λ (y : ℕ). y * u) (exact_of_zero (radicand s x) q t w (s * 2 ^ (x % 2) * 2 ^ 53) radicand_even z) ∙ sym value))
        | inr l ↦
            ne_eqb t 0 (λ z. omega arith)
            ∙ sym (ne_eqb ((2 * magnitude (rounded q x)) ^ 2) (scaled p)
            (λ e. (let z : t ≡ 0 = zero_of_exact (radicand s x) q t w (eq_of_mul-eq-mul_right u u-pos (2 * r * (2 * r)) (radicand s x) (sym exact_square ∙ e ∙ value)) in omega arith)))
      ]

  pub rounded_found : p < 2 ^ 63 → RootFound p (rounded q x) (eqb t 0)
  rounded_found h =
      record {
        bits = rounded_root h;
        exactly = rounded_exact ∙ ap (λ (y : ℕ). squares_to y p) (rounded_root h);
      }
