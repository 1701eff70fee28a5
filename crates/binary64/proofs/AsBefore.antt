-- What `finite`, `positive`, `root` and, its exactness aside, `judged` give on every value is what they gave before kinds were told by a table: the former
-- definitions stand on the other side of each equation. Assumes nothing.
use Prim.Native.Nat.{ℕ, zero, suc, ◌+◌, ◌-◌, ◌*◌, ◌/◌, ◌%◌, ◌^◌, ◌≤◌, ◌<◌}
use native.Mathlib.Nat.{zero-lt-suc, mod-lt, two-pow-succ}
use native.Mathlib.Omega.{arith}
use mathlib.Core.Path.{◌≡◌, refl, sym, ap, ◌∙◌}
use mathlib.Core.Bool.{Bool, true, false, cond}
use lib.Dec.{T, ltb, eqb, lit≤, lt→ltb}
use lib.Pow.{pow_pos, split}
use lib.IntN.{ℤ}
use lib.Ieee.{Float, nan, inf, fin, binary64, lt, to_bits, of_bits, fits}
use lib.Ieee.Bits.{is_true}
use lib.Ieee.Scale.{finite as library_is_finite}
use borrow.Author.Tests.{ne_eqb}
use Rattle.binary64.specs.declared.Pivot.TheVariants.{Root, Refused}
use Rattle.binary64.specs.declared.kinds.Kind.{Kind}
use Rattle.binary64.specs.Kinds.{kind, finite, positive, zero64}
use Rattle.binary64.specs.Root.{magnitude, lower_midpoint, scaled, bisect, root_bits, root_by, root, exact}
use Rattle.binary64.specs.Judged.{judged}
use Rattle.binary64.proofs.Magnitudes.{magnitude_subnormal, magnitude_normal}
use Rattle.binary64.proofs.Values.{Value, zero_value, subnormal_value, normal_value, infinite_value, nan_value, value_case, finite_as_lem, bits_range}
use Rattle.binary64.proofs.RootLaws.{library_positive}

-- ---- the former definitions: a value's kind by its constructor, a pattern's by the quotient alone

former_magnitude : ℕ → ℕ
former_magnitude p = cond (eqb (p / 2 ^ 52) 0) p ((2 ^ 52 + p % 2 ^ 52) * 2 ^ (p / 2 ^ 52 - 1))

former_root_bits : ℕ → ℕ
former_root_bits p = bisect (λ q. ltb ((former_magnitude (q - 1) + former_magnitude q) ^ 2) (former_magnitude p * 2 ^ 1076)) 63 0

pub former_root : Float → Float
former_root nan = nan
former_root (inf true) = nan
former_root (inf false) = inf false
former_root (fin s zero e) = fin s zero e
former_root (fin true (suc m) e) = nan
former_root (fin false (suc m) e) = of_bits binary64 (former_root_bits (to_bits binary64 (fin false (suc m) e)))

pub record AsBefore (x : Float) : Type 0 where
  pub finite_as : finite x ≡ library_is_finite x
  pub positive_as : positive x ≡ lt zero64 x
  pub root_as : root x ≡ former_root x
  pub judged_as : judged x ≡ cond (lt zero64 x) (Root (former_root x) (exact x)) (Refused x)

-- ---- patterns without a sign's digit

magnitude_former : (p : ℕ) → p < 2 ^ 63 → magnitude p ≡ former_magnitude p
unfolding former_magnitude
magnitude_former p h = go (p / 2 ^ 52) refl (split p 52) (mod-lt p (pow_pos 52))
  where
    go : (x : ℕ) → p / 2 ^ 52 ≡ x → x * 2 ^ 52 + p % 2 ^ 52 ≡ p → p % 2 ^ 52 < 2 ^ 52 → magnitude p ≡ cond (eqb x 0) p ((2 ^ 52 + p % 2 ^ 52) * 2 ^ (x - 1))
    go zero e s l = magnitude_subnormal p (omega arith)
    go (suc k) e s l =
        let less : k ≡ suc k - 1 = omega arith in
        rw (ne_eqb (suc k) 0 (λ z. omega arith))
        (ap magnitude (sym s) ∙ magnitude_normal k (p % 2 ^ 52) l (omega arith) ∙ ap (λ (x : ℕ). (2 ^ 52 + p % 2 ^ 52) * 2 ^ x) less)

bisect_same : (test test' : ℕ → Bool) (k q : ℕ) → q + 2 ^ k ≤ 2 ^ 63 → ((r : ℕ) → r < 2 ^ 63 → test r ≡ test' r) → bisect test k q ≡ bisect test' k q
unfolding bisect
bisect_same test test' zero q h same = refl
bisect_same test test' (suc k) q h same =
    let here : test (q + 2 ^ k) ≡ test' (q + 2 ^ k) = same (q + 2 ^ k) (omega (arith, two-pow-succ k, pow_pos k)) in
    rw here (bisect_same test test' k (cond (test' (q + 2 ^ k)) (q + 2 ^ k) q) (inside (test' (q + 2 ^ k))) same)
  where
    inside : (b : Bool) → cond b (q + 2 ^ k) q + 2 ^ k ≤ 2 ^ 63
    inside true = omega (arith, two-pow-succ k)
    inside false = omega (arith, two-pow-succ k)

root_bits_former : (p : ℕ) → p < 2 ^ 63 → root_bits p ≡ former_root_bits p
unfolding root_bits former_root_bits lower_midpoint scaled
root_bits_former p h =
    bisect_same (λ q. ltb ((magnitude (q - 1) + magnitude q) ^ 2) (magnitude p * 2 ^ 1076))
    (λ q. ltb ((former_magnitude (q - 1) + former_magnitude q) ^ 2) (former_magnitude p * 2 ^ 1076)) 63 0 (lit≤ tt)
    (λ r l. rw (magnitude_former r l, magnitude_former (r - 1) (omega arith), magnitude_former p h) refl)

-- ---- values

positive_size : (m : ℕ) (e : ℤ) → positive (fin false (suc m) e) ≡ true
positive_size m e = is_true (positive (fin false (suc m) e)) (library_positive (fin false (suc m) e) (lt→ltb 0 (suc m) (zero-lt-suc m)))

rooted : (m : ℕ) (e : ℤ) → T (fits binary64 (fin false (suc m) e))
    → of_bits binary64 (root_bits (to_bits binary64 (fin false (suc m) e))) ≡ former_root (fin false (suc m) e)
unfolding former_root
rooted m e f =
    let below : to_bits binary64 (fin false (suc m) e) < 2047 * 2 ^ 52 = (bits_range (fin false (suc m) e) f (lt→ltb 0 (suc m) (zero-lt-suc m))).1 in
    ap (of_bits binary64) (root_bits_former (to_bits binary64 (fin false (suc m) e)) (omega arith))

root_former : (x : Float) (κ : Kind) → T (fits binary64 x) → Value x κ → root_by κ (positive x) x ≡ former_root x
unfolding root_by former_root positive lt
root_former x κ f zero_value = refl
root_former x κ f (subnormal_value {s = true}) = refl
root_former x κ f (subnormal_value {s = false} {m = m} {e = e}) = rw (positive_size m e) (rooted m e f)
root_former x κ f (normal_value {s = true}) = refl
root_former x κ f (normal_value {s = false} {m = m} {e = e}) = rw (positive_size m e) (rooted m e f)
root_former x κ f (infinite_value {s = true}) = refl
root_former x κ f (infinite_value {s = false}) = refl
root_former x κ f nan_value = refl

root_as_lem : (x : Float) → T (fits binary64 x) → root x ≡ former_root x
unfolding root
root_as_lem x f = root_former x (kind x) f (value_case x f)

pub as_before : (x : Float) → T (fits binary64 x) → AsBefore x
unfolding positive judged
as_before x f =
    record {
      finite_as = finite_as_lem x f;
      positive_as = refl;
      root_as = root_as_lem x f;
      judged_as = ap (λ (r : Float). cond (lt zero64 x) (Root r (exact x)) (Refused x)) (root_as_lem x f);
    }
