-- Bisection finds the one pattern that meets document 01's rule: the squares of lower midpoints grow with the pattern, and `root_bits` is the last whose
-- square is below the argument. Assumes nothing.
use mathlib.Core.Path.{◌≡◌, refl, sym, ap, ◌∙◌, subst}
use mathlib.Core.Bool.{Bool, true, false, cond}
use Prim.Native.Nat.{ℕ, zero, suc, ◌+◌, ◌-◌, ◌*◌, ◌^◌, ◌≤◌, ◌<◌}
use native.Mathlib.Nat.{le_trans, le-add_right, add-le-add, add_assoc, add-sub_cancel, mul-le-mul, one-mul, pow-zero, pow-suc, pow-le-pow_left, two-pow-succ}
use native.Mathlib.Omega.{arith}
use lib.Dec.{ltb, lit≤, lit<}
use borrow.Author.Tests.{lt-ltb, le-ltb, ltb-true, ltb-false}
use Rattle.binary64.specs.Root.{magnitude, lower_midpoint, upper_midpoint, scaled, MidpointRule, bisect, root_bits}
use Rattle.binary64.proofs.Magnitudes.{magnitude_mono}

-- ---- midpoints

upper_lower : (p : ℕ) → upper_midpoint p ≡ lower_midpoint (p + 1)
unfolding upper_midpoint lower_midpoint
upper_lower p = ap (λ (x : ℕ). magnitude x + magnitude (p + 1)) (sym (add-sub_cancel p 1))

lower_mono : {p q : ℕ} → p ≤ q → q < 2 ^ 63 → lower_midpoint p ≤ lower_midpoint q
unfolding lower_midpoint
lower_mono {p} {q} h b =
    let before : p - 1 ≤ q - 1 = omega arith in
    add-le-add (magnitude_mono before (omega arith)) (magnitude_mono h b)

pub pow_two : (x : ℕ) → x ^ 2 ≡ x * x
pow_two x = pow-suc x 1 ∙ ap (λ (y : ℕ). y * x) (pow-suc x 0 ∙ ap (λ (y : ℕ). y * x) (pow-zero x) ∙ one-mul x)

-- ---- past the last pattern, where the search's test fails for every argument

top_scale : 2 ^ 1076 ≤ magnitude (2 ^ 63 - 1)
unfolding magnitude
top_scale = lit≤ tt

product_le_square : (a u m z : ℕ) → a ≤ m → u ≤ m → a * u ≤ (m + z) ^ 2
product_le_square a u m z h l =
    le_trans (mul-le-mul h l) (subst (λ (x : ℕ). x ≤ (m + z) ^ 2) (pow_two m) (pow-le-pow_left (le-add_right m z) 2))

top_fails : (p : ℕ) → p < 2 ^ 63 → scaled p ≤ lower_midpoint (2 ^ 63) ^ 2
unfolding scaled lower_midpoint
top_fails p h =
    let last : p ≤ 2 ^ 63 - 1 = omega arith in
    let below : magnitude p ≤ magnitude (2 ^ 63 - 1) = magnitude_mono last (lit< tt) in
    product_le_square (magnitude p) (2 ^ 1076) (magnitude (2 ^ 63 - 1)) (magnitude (2 ^ 63)) below top_scale

-- ---- bisection: the last pattern that passes, the next of which fails

bisect_passes : (test : ℕ → Bool) (k q : ℕ) → test q ≡ true → test (bisect test k q) ≡ true
unfolding bisect
bisect_passes test zero q h = h
bisect_passes test (suc k) q h = bisect_passes test k (cond (test (q + 2 ^ k)) (q + 2 ^ k) q) (go (test (q + 2 ^ k)) refl)
  where
    go : (b : Bool) → test (q + 2 ^ k) ≡ b → test (cond b (q + 2 ^ k) q) ≡ true
    go true e = e
    go false e = h

bisect_lt : (test : ℕ → Bool) (k q : ℕ) → bisect test k q < q + 2 ^ k
unfolding bisect
bisect_lt test zero q = omega arith
bisect_lt test (suc k) q = omega (arith, bisect_lt test k (cond (test (q + 2 ^ k)) (q + 2 ^ k) q), go (test (q + 2 ^ k)), two-pow-succ k)
  where
    go : (b : Bool) → cond b (q + 2 ^ k) q ≤ q + 2 ^ k
    go true = omega arith
    go false = omega arith

bisect_last : (test : ℕ → Bool) (k q : ℕ) → test (q + 2 ^ k) ≡ false → test (bisect test k q + 1) ≡ false
unfolding bisect
bisect_last test zero q h = h
bisect_last test (suc k) q h = bisect_last test k (cond (test (q + 2 ^ k)) (q + 2 ^ k) q) (go (test (q + 2 ^ k)) refl)
  where
    go : (b : Bool) → test (q + 2 ^ k) ≡ b → test (cond b (q + 2 ^ k) q + 2 ^ k) ≡ false
    go true e = ap test (add_assoc q (2 ^ k) (2 ^ k) ∙ ap (λ (x : ℕ). q + x) (sym (two-pow-succ k))) ∙ h
    go false e = e

-- ---- the rule has one answer

abbrev passes : ℕ → ℕ → Bool
passes p q = ltb (lower_midpoint q ^ 2) (scaled p)

lower_zero : lower_midpoint 0 ^ 2 ≡ 0
unfolding lower_midpoint
lower_zero = refl

root_passes : (p : ℕ) → 0 < scaled p → lower_midpoint (root_bits p) ^ 2 < scaled p
unfolding root_bits
root_passes p h =
    ltb-true (lower_midpoint (bisect (passes p) 63 0) ^ 2) (scaled p)
    (bisect_passes (passes p) 63 0 (lt-ltb (lower_midpoint 0 ^ 2) (scaled p) (subst (λ (x : ℕ). x < scaled p) (sym lower_zero) h)))

root_last : (p : ℕ) → scaled p ≤ lower_midpoint (2 ^ 63) ^ 2 → scaled p ≤ lower_midpoint (root_bits p + 1) ^ 2
unfolding root_bits
root_last p h = ltb-false (lower_midpoint (bisect (passes p) 63 0 + 1) ^ 2) (scaled p) (bisect_last (passes p) 63 0 (le-ltb (lower_midpoint (2 ^ 63) ^ 2) (scaled p) h))

-- the squares of lower midpoints grow with the pattern
lower_square : {p q : ℕ} → p ≤ q → q < 2 ^ 63 → lower_midpoint p ^ 2 ≤ lower_midpoint q ^ 2
lower_square h b = pow-le-pow_left (lower_mono h b) 2

root_lt : (p : ℕ) → root_bits p < 2 ^ 63
unfolding root_bits
root_lt p = bisect_lt (passes p) 63 0

pub root_unique : (p r : ℕ) → p < 2 ^ 63 → r < 2 ^ 63 → MidpointRule p r → r ≡ root_bits p
root_unique p r g h m =
    let below : scaled p < lower_midpoint (r + 1) ^ 2 = subst (λ (x : ℕ). scaled p < x ^ 2) (upper_lower r) m.below in
    let positive : 0 < scaled p = omega (arith, m.above) in
    let low = root_passes p positive in
    let high = root_last p (top_fails p g) in
    let inside = root_lt p in
    let not-less : ¬ (suc (root_bits p) ≤ r) = λ g. (let up : root_bits p + 1 ≤ r = omega arith in omega (arith, m.above, lower_square up h)) in
    let not_more : ¬ (suc r ≤ root_bits p) = λ g. (let up : r + 1 ≤ root_bits p = omega arith in omega (arith, lower_square up inside)) in
    omega arith
