-- Products, and products subtracted one by one: one more, and a run of them that follows another. Assumes nothing.
use Prim.Native.Nat.{ℕ, ◌+◌, ◌-◌, ◌*◌, ◌≤◌, ◌<◌}
use native.Mathlib.Nat as Nat
use native.Mathlib.Numerals.{add-one}
use native.Mathlib.Omega.{arith}
use mathlib.Core.Path.{◌≡◌, refl, ap, ap₂, ◌∙◌}
use mathlib.Core.Bool.{Bool, true, false, cond}
use mathlib.Core.List.{List, ◌++◌}
use lib.Dec.{eqb}
use lib.ListN.{length, get_or, take, drop, length-take}
use lib.Seq.{get_or-take}
use lib.Ieee.{Float, nan, inf, fin, Format, binary64, sub, mul, round, unlike, up, down}
use Rattle.calls.specs.Arithmetic.{minus_products}
use Rattle.calls.proofs.Columns.{products_same}
use Rattle.kernels.specs.Kernels.{MultipleSubtracted, Filled, rising_from, falling_from}
use Rattle.kernels.proofs.Parts.{get_d_part, length_part, part_replaced, filled_same}

unlike_comm : (s t : Bool) → unlike s t ≡ unlike t s
unlike_comm false false = refl
unlike_comm false true = refl
unlike_comm true false = refl
unlike_comm true true = refl

pub mul_comm : (f : Format) (x y : Float) → mul f x y ≡ mul f y x
unfolding mul
mul_comm f nan nan = refl
mul_comm f nan (inf t) = refl
mul_comm f nan (fin t n d) = refl
mul_comm f (inf s) nan = refl
mul_comm f (inf s) (inf t) = ap inf (unlike_comm s t)
mul_comm f (inf s) (fin t n d) = ap (λ u. cond (eqb n 0) nan (inf u)) (unlike_comm s t)
mul_comm f (fin s m e) nan = refl
mul_comm f (fin s m e) (inf t) = ap (λ u. cond (eqb m 0) nan (inf u)) (unlike_comm s t)
mul_comm f (fin s m e) (fin t n d) =
    ap (λ u. round f u (m * up e * (n * up d)) (down e * down d)) (unlike_comm s t)
    ∙ ap₂ (round f (unlike t s)) (Nat.mul_comm (m * up e) (n * up d)) (Nat.mul_comm (down e) (down d))

pub minus_none : (x y : ℕ → Float) (t : Float) → minus_products x y 0 t ≡ t
unfolding minus_products
minus_none x y t = refl

pub minus_next : (x y : ℕ → Float) (k : ℕ) (t : Float) → minus_products x y (k + 1) t ≡ sub binary64 (minus_products x y k t) (mul binary64 (x k) (y k))
unfolding minus_products
minus_next x y k t = rw add-one

-- a turn of a loop over falling k
pub falling_next :
    (x y : List Float) (at k : ℕ) (t value : Float) → 0 < k → k ≤ length y → value ≡ falling_from x at y (length y - k) t →
    sub binary64 value (mul binary64 (get_or x (at + (k - 1)) nan) (get_or y (k - 1) nan)) ≡ falling_from x at y (length y - (k - 1)) t
falling_next x y at k t value pos le e =
    let next : length y - (k - 1) ≡ length y - k + 1 = omega arith in
    let here : length y - 1 - (length y - k) ≡ k - 1 = omega arith in
    rw (next, minus_next, ← e, here)

-- ---- products with a part of a list

-- with the first m values of v
pub rising_prefix :
    (row : ℕ → Float) (x v : List Float) (at m : ℕ) (t : Float) → m ≤ length v → ((k : ℕ) → k < m → get_or x (at + k) nan ≡ row k) →
    rising_from x at (take m v) (length (take m v)) t ≡ minus_products row (λ k. get_or v k nan) m t
rising_prefix row x v at m t fits same =
    let size : length (take m v) ≡ m = omega (arith, length-take m v) in
    ap (λ c. rising_from x at (take m v) c t) size
    ∙ products_same (λ k. get_or x (at + k) nan) row (λ k. get_or (take m v) k nan) (λ k. get_or v k nan) m t same (λ k h. get_or-take m v k nan h)

-- with those from a on
pub rising_part :
    (x v : List Float) (at a m : ℕ) (t : Float) → a + m ≤ length v →
    rising_from x at (take m (drop a v)) (length (take m (drop a v))) t ≡ minus_products (λ k. get_or x (at + k) nan) (λ k. get_or v (a + k) nan) m t
rising_part x v at a m t fits =
    ap (λ c. rising_from x at (take m (drop a v)) c t) (length_part nan a m v fits)
    ∙ products_same (λ k. get_or x (at + k) nan) (λ k. get_or x (at + k) nan) (λ k. get_or (take m (drop a v)) k nan) (λ k. get_or v (a + k) nan) m t
    (λ k h. refl) (λ k h. get_d_part nan a m v k h)

up_part : (a m e k : ℕ) → a + m ≡ e → k < m → a + (m - 1 - k) ≡ e - 1 - k
up_part a m e k end h = omega arith

up_lt : (m k : ℕ) → k < m → m - 1 - k < m
up_lt m k h = omega arith

-- with the values of v from a on and before e, from the last up
pub falling_part :
    (column : ℕ → Float) (x v : List Float) (at a m e : ℕ) (t : Float) → a + m ≡ e → e ≤ length v →
    ((i : ℕ) → i < m → get_or x (at + i) nan ≡ column (a + i)) →
    falling_from x at (take m (drop a v)) (length (take m (drop a v))) t ≡ minus_products (λ k. column (e - 1 - k)) (λ k. get_or v (e - 1 - k) nan) m t
falling_part column x v at a m e t end fits same =
    let y : List Float = take m (drop a v) in
    ap₂ (λ q c. minus_products (λ k. get_or x (at + (q - 1 - k)) nan) (λ k. get_or y (q - 1 - k) nan) c t) size size
    ∙ products_same (λ k. get_or x (at + (m - 1 - k)) nan) (λ k. column (e - 1 - k)) (λ k. get_or y (m - 1 - k) nan) (λ k. get_or v (e - 1 - k) nan) m t
    (λ k h. same (m - 1 - k) (up_lt m k h) ∙ ap column (up_part a m e k end h))
    (λ k h. get_d_part nan a m v (m - 1 - k) (up_lt m k h) ∙ ap (λ q. get_or v q nan) (up_part a m e k end h))
  where
    size : length (take m (drop a v)) ≡ m
    size = length_part nan a m v (omega arith)

-- ---- v[a..a + k] less a multiple of m[x..x + k]

pub part_multiple :
    (a x k : ℕ) (v m v' : List Float) (y : Float) → a + k ≤ length v → x + k ≤ length m →
    MultipleSubtracted (take (a + k - a) (drop a v)) (take (x + k - x) (drop x m)) y v' →
    Filled nan a k (λ s. sub binary64 (get_or v (a + s) nan) (mul binary64 (get_or m (x + s) nan) y)) v (take a v ++ (v' ++ drop (a + k - a) (drop a v)))
part_multiple a x k v m v' y room room' less =
    let here : a + k - a ≡ k = omega arith in
    let there : x + k - x ≡ k = omega arith in
    let size : length (take k (drop a v)) ≡ k = length_part nan a k v room in
    let less' : MultipleSubtracted (take k (drop a v)) (take k (drop x m)) y v' = rw (here, there) at less in
    rw here
    (filled_same nan a k (λ s. get_or v' s nan) _ v _
    (λ s h.
    less'.value s (omega (arith, size))
    ∙ ap₂ (λ u w. sub binary64 u (mul binary64 w y)) (get_d_part nan a k v s h) (get_d_part nan x k m s h))
    (part_replaced nan a k v v' room (less'.size ∙ size)))
