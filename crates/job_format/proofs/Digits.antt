-- A number as bytes, least byte first, and as bits, lowest bit first: both ways, and as loops write them. Assumes nothing.
use Prim.Native.Nat.{ℕ, zero, suc, ◌+◌, ◌-◌, ◌*◌, ◌/◌, ◌%◌, ◌^◌, ◌≤◌, ◌<◌}
use native.Mathlib.Nat.{pow-suc, pow-zero, div-one, div-div-eq-div-mul}
use native.Mathlib.Omega.{arith}
use mathlib.Core.Path.{◌≡◌, refl, sym, ap, ◌∙◌, subst}
use mathlib.Core.Bool.{Bool, true, false, cond, ◌&&◌}
use mathlib.Core.List.{List, [], ◌∷◌, ◌++◌}
use lib.Dec.{T, eqb, ltb, ltb→lt}
use lib.ListN.{length, get_or, take, drop, replicate}
use lib.Pow.{are_bytes, pow_mono, pow_pos}
use borrow.Author.Tests.{lt-ltb}
use Rattle.job_format.specs.Reading.{little_endian}
use Rattle.job_format.specs.Rewriting.{bytes_of, bits_from}
use Rattle.std.specs.Int.{w16, w64, from_bool, byte_at, bytes_low_first, to_le_bytes, from_le_bytes}

-- ---- bytes

pub length_bytes : (k v : ℕ) → length (bytes_of k v) ≡ k
unfolding bytes_of
length_bytes zero v = refl
length_bytes (suc k) v = ap suc (length_bytes k (v / 256))

-- the number of the bytes of a number that they hold is the number
pub bytes_number : (k v : ℕ) → v < 256 ^ k → little_endian (bytes_of k v) ≡ v
unfolding bytes_of little_endian
bytes_number zero v h = omega (arith, pow-zero 256)
bytes_number (suc k) v h = let r = bytes_number k (v / 256) (omega (arith, pow-suc 256 k)) in rw r (omega arith)

bytes_cons : (x : ℕ) (xs : List ℕ) → T (are_bytes (x ∷ xs)) → (x < 256) × T (are_bytes xs)
bytes_cons x xs h = go (ltb x 256) refl (are_bytes xs) refl h
  where
    go : (a : Bool) → ltb x 256 ≡ a → (b : Bool) → are_bytes xs ≡ b → T (a && b) → (x < 256) × T (are_bytes xs)
    go true p true q t = (ltb→lt x 256 (subst T (sym p) tt), subst T (sym q) tt)
    go true p false q t = absurd t
    go false p b q t = absurd t

-- the bytes of the number of bytes are the bytes
pub number_bytes : (xs : List ℕ) → T (are_bytes xs) → bytes_of (length xs) (little_endian xs) ≡ xs
unfolding bytes_of little_endian
number_bytes [] h = refl
number_bytes (x ∷ xs) h =
    let (small, rest) = bytes_cons x xs h in
    let m : (x + 256 * little_endian xs) % 256 ≡ x = omega arith in
    let d : (x + 256 * little_endian xs) / 256 ≡ little_endian xs = omega arith in
    rw (m, d, number_bytes xs rest)

-- a number of bytes is below the power
pub number_below : (xs : List ℕ) → T (are_bytes xs) → little_endian xs < 256 ^ length xs
unfolding little_endian
number_below [] h = omega (arith, pow-zero 256)
number_below (x ∷ xs) h =
    let (small, rest) = bytes_cons x xs h in
    omega (arith, number_below xs rest, pow-suc 256 (length xs))

pub bytes_at : (xs : List ℕ) (i : ℕ) → T (are_bytes xs) → get_or xs i 0 < 256
bytes_at [] i h = omega arith
bytes_at (x ∷ xs) zero h = (bytes_cons x xs h).0
bytes_at (x ∷ xs) (suc i) h = bytes_at xs i (bytes_cons x xs h).1

pub bytes_take : (k : ℕ) (xs : List ℕ) → T (are_bytes xs) → T (are_bytes (take k xs))
bytes_take zero xs h = tt
bytes_take (suc k) [] h = tt
bytes_take (suc k) (x ∷ xs) h = let (small, rest) = bytes_cons x xs h in rw (lt-ltb x 256 small) (bytes_take k xs rest)

pub bytes_drop : (k : ℕ) (xs : List ℕ) → T (are_bytes xs) → T (are_bytes (drop k xs))
bytes_drop zero xs h = h
bytes_drop (suc k) [] h = tt
bytes_drop (suc k) (x ∷ xs) h = bytes_drop k xs (bytes_cons x xs h).1

-- the first bytes that std gives of a number
first_bytes : (k m i v : ℕ) → k ≤ m → take k (bytes_low_first i m v) ≡ bytes_of k (v / 256 ^ i)
unfolding bytes_of
first_bytes zero m i v h = refl
first_bytes (suc k) zero i v h = absurd (omega arith)
first_bytes (suc k) (suc m) i v h =
    let q : v / 256 ^ suc i ≡ v / 256 ^ i / 256 = sym (div-div-eq-div-mul v (256 ^ i) 256 ∙ ap (λ (x : ℕ). v / x) (sym (pow-suc 256 i))) in
    rw (byte_is i v, first_bytes k m (suc i) v (omega arith), q)
  where
    byte_is : (i v : ℕ) → byte_at i v ≡ v / 256 ^ i % 256
    byte_is zero v = ap (λ (x : ℕ). x % 256) (sym (ap (λ (x : ℕ). v / x) (pow-zero 256) ∙ div-one v))
    byte_is (suc i) v = refl

pub low_bytes : (k v : ℕ) → k ≤ 8 → take k (to_le_bytes w64 v) ≡ bytes_of k v
low_bytes k v h = first_bytes k 8 0 v h ∙ ap (bytes_of k) (ap (λ (x : ℕ). v / x) (pow-zero 256) ∙ div-one v)

pub two_bytes : (v : ℕ) → to_le_bytes w16 v ≡ bytes_of 2 v
unfolding bytes_of
two_bytes v = refl

pub one_byte : (v : ℕ) → v < 256 → v ∷ [] ≡ bytes_of 1 v
unfolding bytes_of
one_byte v h = let e : v ≡ v % 256 = omega arith in ap (λ (x : ℕ). x ∷ []) e

-- bytes and zeros after them give the number of the bytes
pub padded_number : (xs : List ℕ) (k : ℕ) → little_endian (xs ++ replicate k 0) ≡ little_endian xs
unfolding little_endian
padded_number [] zero = refl
padded_number [] (suc k) = omega (arith, padded_number [] k)
padded_number (x ∷ xs) k = ap (λ (n : ℕ). x + 256 * n) (padded_number xs k)

-- the number that std gives of eight bytes
pub eight_number : (xs : List ℕ) → length xs ≤ 8 → from_le_bytes w64 xs ≡ little_endian xs
unfolding little_endian
eight_number (a ∷ b ∷ c ∷ d ∷ e ∷ f ∷ g ∷ h ∷ []) n = omega arith
eight_number xs n = omega arith

-- ---- bits

abbrev pub bit : Bool → ℕ
bit b = cond b 1 0

-- a bool as a byte
pub bit_from : (b : Bool) → from_bool b ≡ bit b
bit_from true = refl
bit_from false = refl

bit_below : (b : Bool) → bit b < 2
bit_below true = omega arith
bit_below false = omega arith

bit_told : (b : Bool) → eqb (bit b) 1 ≡ b
bit_told true = refl
bit_told false = refl

-- the value of a bit of a number
pub bit_of : (x : ℕ) → bit (eqb (x % 2) 1) ≡ x % 2
bit_of x = go (x % 2) (omega arith)
  where
    go : (y : ℕ) → y < 2 → bit (eqb y 1) ≡ y
    go zero h = refl
    go (suc zero) h = refl
    go (suc (suc y)) h = absurd (omega arith)

pub bits_below : (f : ℕ → Bool) (first k : ℕ) → bits_from f first k < 2 ^ k
unfolding bits_from
bits_below f first zero = omega (arith, pow-zero 2)
bits_below f first (suc k) = omega (arith, bits_below f (suc first) k, bit_below (f first), pow-suc 2 k)

-- bit j of the number is the one that was put there
pub bits_at : (f : ℕ → Bool) (first k j : ℕ) → j < k → eqb (bits_from f first k / 2 ^ j % 2) 1 ≡ f (first + j)
unfolding bits_from
bits_at f first zero j h = absurd (omega arith)
bits_at f first (suc k) zero h =
    let x = bits_from f (suc first) k in
    let e : (bit (f first) + 2 * x) / 2 ^ 0 % 2 ≡ bit (f first) =
    ap (λ (y : ℕ). y % 2) (ap (λ (y : ℕ). (bit (f first) + 2 * x) / y) (pow-zero 2) ∙ div-one (bit (f first) + 2 * x)) ∙ omega (arith, bit_below (f first)) in
    let z : first + 0 ≡ first = omega arith in
    rw (e, z) (bit_told (f first))
bits_at f first (suc k) (suc j) h =
    let x = bits_from f (suc first) k in
    let half : (bit (f first) + 2 * x) / 2 ≡ x = omega (arith, bit_below (f first)) in
    let p : 2 ^ suc j ≡ 2 * 2 ^ j = omega (arith, pow-suc 2 j) in
    let e : (bit (f first) + 2 * x) / 2 ^ suc j ≡ x / 2 ^ j =
    ap (λ (y : ℕ). (bit (f first) + 2 * x) / y) p ∙ sym (div-div-eq-div-mul (bit (f first) + 2 * x) 2 (2 ^ j)) ∙ ap (λ (y : ℕ). y / 2 ^ j) half in
    let z : first + suc j ≡ suc first + j = omega arith in
    rw (e, z) (bits_at f (suc first) k j (omega arith))

-- a number whose bits from s on are zeros
pub bits_short : (f : ℕ → Bool) (first k s : ℕ) → ((j : ℕ) → s ≤ j → j < k → f (first + j) ≡ false) → bits_from f first k < 2 ^ s
unfolding bits_from
bits_short f first zero s none = pow_pos s
bits_short f first (suc k) zero none =
    let z : first + 0 ≡ first = omega arith in
    let b : bit (f first) ≡ 0 = ap (λ (x : ℕ). bit (f x)) (sym z) ∙ ap bit (none 0 (omega arith) (omega arith)) in
    omega (arith, bits_short f (suc first) k zero (λ j l h. let e : suc first + j ≡ first + suc j = omega arith in rw e (none (suc j) (omega arith) (omega arith))), pow-zero 2)
bits_short f first (suc k) (suc s) none =
    omega (
      arith,
      bits_short f (suc first) k s (λ j l h. let e : suc first + j ≡ first + suc j = omega arith in rw e (none (suc j) (omega arith) (omega arith))),
      bit_below (f first),
      pow-suc 2 s,
    )

-- a number is told by its bits
pub bits_number : (f : ℕ → Bool) (first k j x : ℕ) → x / 2 ^ j < 2 ^ k → ((i : ℕ) → i < k → f (first + i) ≡ eqb (x / 2 ^ (j + i) % 2) 1) → bits_from f first k ≡ x / 2 ^ j
unfolding bits_from
bits_number f first zero j x h same = omega (arith, pow-zero 2)
bits_number f first (suc k) j x h same =
    let q : x / 2 ^ suc j ≡ x / 2 ^ j / 2 = sym (div-div-eq-div-mul x (2 ^ j) 2 ∙ ap (λ (y : ℕ). x / y) (sym (pow-suc 2 j))) in
    let rest : bits_from f (suc first) k ≡ x / 2 ^ suc j =
    bits_number f (suc first) k (suc j) x (omega (arith, q, pow-suc 2 k))
    (λ i l.
    let a : first + suc i ≡ suc first + i = omega arith in
    let b : j + suc i ≡ suc j + i = omega arith in
    rw (← a, ← b) (same (suc i) (omega arith))) in
    let z : first + 0 ≡ first = omega arith in
    let w : j + 0 ≡ j = omega arith in
    let here : f first ≡ eqb (x / 2 ^ j % 2) 1 = rw (z, w) at (same 0 (omega arith)) in
    let one : bit (f first) ≡ x / 2 ^ j % 2 = ap bit here ∙ bit_of (x / 2 ^ j) in
    rw (one, rest, q) (omega arith)

-- a loop that gathers bits from the highest down: those from k on are in the number
pub record BitsDown (f : ℕ → Bool) (first count value k : ℕ) : Type 0 where
  pub within : k ≤ count
  pub number : value ≡ bits_from f (first + k) (count - k)

pub down_none : (f : ℕ → Bool) (first count : ℕ) → BitsDown f first count 0 count
unfolding bits_from
down_none f first count = let e : count - count ≡ 0 = omega arith in record { within = omega arith; number = rw e refl }

module _ (f : ℕ → Bool) (first count value k : ℕ) (more : 0 < k) (r : BitsDown f first count value k) where
  pub down_turn : (b : ℕ) → b ≡ bit (f (first + (k - 1))) → BitsDown f first count (2 * value + b) (k - 1)
  unfolding bits_from
  down_turn b e =
      let c : count - (k - 1) ≡ suc (count - k) = omega (arith, r.within) in
      let s : suc (first + (k - 1)) ≡ first + k = omega arith in
      record { within = omega (arith, r.within); number = (let n = r.number in rw (c, s, ← n, ← e) (omega arith)) }

  pub down_fits : (b : ℕ) → b ≡ bit (f (first + (k - 1))) → 2 * value + b < 2 ^ count
  down_fits b e =
      let n = (down_turn b e).number in
      let small : 2 ^ (count - (k - 1)) ≤ 2 ^ count = pow_mono (omega arith) in
      omega (arith, n, bits_below f (first + (k - 1)) (count - (k - 1)))

pub down_all : (f : ℕ → Bool) (first count value k : ℕ) → k ≤ 0 → BitsDown f first count value k → value ≡ bits_from f first count
down_all f first count value k h r =
    let z : k ≡ 0 = omega arith in
    r.number ∙ ap (λ (j : ℕ). bits_from f (first + j) (count - j)) z ∙ (let a : first + 0 ≡ first = omega arith in let b : count - 0 ≡ count = omega arith in rw (a, b) refl)
