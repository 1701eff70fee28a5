-- Laws of specs/Format.antt: the sizes, the map and the contents, each from its parts. Assumes nothing.
use Prim.Native.Nat.{ℕ, ◌+◌, ◌-◌, ◌*◌, ◌/◌, ◌%◌, ◌^◌, ◌≤◌, ◌<◌}
use native.Mathlib.Nat.{zero-div, mul-le-mul, le_trans, le_refl}
use native.Mathlib.Omega.{arith}
use mathlib.Core.Path.{◌≡◌, refl, subst}
use mathlib.Core.Bool.{Bool, true, false, ◌&&◌}
use mathlib.Core.List.{List}
use lib.Dec.{leb, eqb}
use lib.ListN.{length, get_or, get_or-eq_default}
use borrow.Author.Tests.{le-leb, lt-leb, leb-true, eq-eqb, ne_eqb}
use Rattle.shape.specs.Places.{triangle}
use Rattle.std.specs.Prelude.{Result}
use Rattle.std.specs.Result.{IsErrAnd}
use Rattle.std.proofs.lemmas.Result.{err_from_is_err_and}
use Rattle.job_format.specs.declared.Sizes.{Sizes}
use Rattle.job_format.specs.declared.reader.Reader.{Reader}
use Rattle.job_format.specs.declared.Fault.{Fault}
use Rattle.job_format.specs.declared.Zeros.{Zeros}
use Rattle.job_format.specs.declared.Zeros.TheVariants.{Kept}
use Rattle.job_format.specs.Reading.{Parsed, fault, found, malformed, field, bounded, values}
use Rattle.job_format.specs.Format.{Contents, InBounds, map_bytes, map_bit, padded, read_sizes, read_map, read_values, read_contents, read_job, parsed_sizes}
use Rattle.job_format.proofs.Fields.{then_found, require_found}

-- ---- lengths: at most 2,080 entries and 1,024 right-side values

half_below : (x y : ℕ) → x ≤ y → x / 2 ≤ y / 2
half_below x y h = omega arith

pub triangle_small : (n : ℕ) → n ≤ 64 → triangle n ≤ 2080
unfolding triangle
triangle_small n h = half_below (n * (n + 1)) 4160 (mul-le-mul h (le_trans (omega arith) (le_refl 65)))

pub values_small : (n m : ℕ) → n ≤ 64 → m ≤ 16 → n * m ≤ 1024
values_small n m h k = mul-le-mul h k

pub entries_fit : (sizes : Sizes) → InBounds sizes → (size : ℕ) → size ≡ triangle sizes.order → size ≤ 2080
entries_fit sizes within size e = omega (arith, triangle_small sizes.order within.order)

pub values_fit : (sizes : Sizes) → InBounds sizes → (size : ℕ) → size ≡ sizes.order * sizes.count → size ≤ 1024
values_fit sizes within size e = omega (arith, values_small sizes.order sizes.count within.order within.count)

-- ---- the map

-- t values, of which the map has a bit each, in m bytes
module _ (file : List ℕ) (n at t m : ℕ) (e : t ≡ triangle n) (k : m ≡ (t + 7) / 8) where
  pub map_short : length file < at + m → fault (malformed (length file)) ≡ read_map file n at
  unfolding read_map map_bytes
  map_short h = rw (← e, ← k, lt-leb (at + m) (length file) h)

  pub map_whole : at + m ≤ length file → t % 8 ≡ 0 → found tt (at + m) ≡ read_map file n at
  unfolding read_map map_bytes padded
  map_whole h z = rw (← e, ← k, le-leb (at + m) (length file) h, eq-eqb (t % 8) 0 z)

  module _ (h : at + m ≤ length file) (z : t % 8 ≡ 0 → ⊥) where
    pub map_unpadded : (get_or file (at + m - 1) 0 / 2 ^ (t % 8) ≡ 0 → ⊥) → fault (malformed (at + m - 1)) ≡ read_map file n at
    unfolding read_map map_bytes padded
    map_unpadded x = rw (← e, ← k, le-leb (at + m) (length file) h, ne_eqb (t % 8) 0 z, ne_eqb (get_or file (at + m - 1) 0 / 2 ^ (t % 8)) 0 x)

    pub map_padded : get_or file (at + m - 1) 0 / 2 ^ (t % 8) ≡ 0 → found tt (at + m) ≡ read_map file n at
    unfolding read_map map_bytes padded
    map_padded x = rw (← e, ← k, le-leb (at + m) (length file) h, ne_eqb (t % 8) 0 z, eq-eqb (get_or file (at + m - 1) 0 / 2 ^ (t % 8)) 0 x)

pub bit_past : (file : List ℕ) (p : ℕ) → length file ≤ 5 + p / 8 → false ≡ map_bit file p
unfolding map_bit
bit_past file p h = rw (get_or-eq_default file 0 h, zero-div (2 ^ (p % 8)))

pub bit_at : (file : List ℕ) (p b : ℕ) → b ≡ get_or file (5 + p / 8) 0 → eqb (b / 2 ^ (p % 8) % 2) 1 ≡ map_bit file p
unfolding map_bit
bit_at file p b e = rw e

-- ---- the sizes

module _ (file : List ℕ) where
  -- a fault that `?` hands on
  sizes_handed_on : (f : Fault) (r : Result (Sizes × Reader) Fault) → IsErrAnd r (λ y. y ≡ f) → fault f ≡ read_sizes file → parsed_sizes r ≡ read_sizes file
  sizes_handed_on f r e h = let q = err_from_is_err_and r e in rw (q.1, q.2) h

  pub sizes_fault_order : (p : Fault) (r : Result (Sizes × Reader) Fault) → IsErrAnd r (λ y. y ≡ p) → fault p ≡ bounded file 0 2 0 64 → parsed_sizes r ≡ read_sizes file
  unfolding read_sizes
  sizes_fault_order p r h e = sizes_handed_on p r h (rw (← e))

  module _ (n at : ℕ) (order : found n at ≡ bounded file 0 2 0 64) where
    pub sizes_fault_block : (p : Fault) (r : Result (Sizes × Reader) Fault) → IsErrAnd r (λ y. y ≡ p) → fault p ≡ bounded file at 2 1 200 → parsed_sizes r ≡ read_sizes file
    unfolding read_sizes
    sizes_fault_block p r h e = sizes_handed_on p r h (rw (← order, ← e))

    module _ (b next : ℕ) (block : found b next ≡ bounded file at 2 1 200) where
      pub sizes_fault_count : (p : Fault) (r : Result (Sizes × Reader) Fault) → IsErrAnd r (λ y. y ≡ p) → fault p ≡ bounded file next 1 0 16 → parsed_sizes r ≡ read_sizes file
      unfolding read_sizes
      sizes_fault_count p r h e = sizes_handed_on p r h (rw (← order, ← block, ← e))

      pub sizes_found : (m end : ℕ) → found m end ≡ bounded file next 1 0 16 → found (record { order = n; block = b; count = m }) end ≡ read_sizes file
      unfolding read_sizes
      sizes_found m end e = rw (← order, ← block, ← e)

-- ---- the bounds of what was read

bounded_found : (file : List ℕ) (at width low high v next : ℕ) → bounded file at width low high ≡ found v next → (low ≤ v) × (v ≤ high)
unfolding bounded
bounded_found file at width low high v next e =
    let (x, y, p, q) = then_found (field file at width) _ v next e in
    let (t, r) = require_found (leb low x && leb x high) (malformed at) (found x y) v next q in
    let s : x ≡ v = cc in
    in_range x s (leb low x) (leb x high) refl refl t
  where
    in_range : (x : ℕ) → x ≡ v → (a b : Bool) → leb low x ≡ a → leb x high ≡ b → a && b ≡ true → (low ≤ v) × (v ≤ high)
    in_range x s true true p q t = (omega (arith, leb-true low x p), omega (arith, leb-true x high q))
    in_range x s true false p q t = let z : ◌≡◌ {A = ℕ} 0 1 = cc in absurd (omega arith)
    in_range x s false b p q t = let z : ◌≡◌ {A = ℕ} 0 1 = cc in absurd (omega arith)

pub sizes_bounds : (file : List ℕ) (sizes : Sizes) (at : ℕ) → read_sizes file ≡ found sizes at → InBounds sizes
unfolding read_sizes
sizes_bounds file sizes at e =
    let (n, i, a, e1) = then_found (bounded file 0 2 0 64) _ sizes at e in
    let (b, j, c, e2) = then_found (bounded file i 2 1 200) _ sizes at e1 in
    let (m, k, d, e3) = then_found (bounded file j 1 0 16) _ sizes at e2 in
    let is : record { order = n; block = b; count = m } ≡ sizes = cc in
    let block = bounded_found file i 2 1 200 b j c in
    subst InBounds is
    (record { order = (bounded_found file 0 2 0 64 n i a).1; block_low = block.0; block_high = block.1; count = (bounded_found file j 1 0 16 m k d).1 })

-- ---- the contents

module _ (zeros : Zeros) (file : List ℕ) (sizes : Sizes) (at : ℕ) where
  module _ (t : ℕ) (h : t ≡ triangle sizes.order) where
    pub contents_fault_matrix : (p : Fault) → fault p ≡ values zeros file (map_bit file) t at → fault p ≡ read_values zeros file sizes at
    unfolding read_values
    contents_fault_matrix p e = rw (← h, ← e)

    module _ (next : ℕ) (matrix : List ℕ) (e : found matrix next ≡ values zeros file (map_bit file) t at) (c : ℕ) (k : c ≡ sizes.order * sizes.count) where
      pub contents_fault_rhs : (p : Fault) → fault p ≡ values Kept file (λ q. true) c next → fault p ≡ read_values zeros file sizes at
      unfolding read_values
      contents_fault_rhs p f = rw (← h, ← e, ← k, ← f)

      module _ (end : ℕ) (rhs : List ℕ) (f : found rhs end ≡ values Kept file (λ q. true) c next) where
        pub contents_extra : (end ≡ length file → ⊥) → fault (malformed end) ≡ read_values zeros file sizes at
        unfolding read_values
        contents_extra x = rw (← h, ← e, ← k, ← f, ne_eqb end (length file) x)

        pub contents_found : end ≡ length file → found (record { sizes = sizes; matrix = matrix; rhs = rhs }) end ≡ read_values zeros file sizes at
        unfolding read_values
        contents_found x = rw (← h, ← e, ← k, ← f, eq-eqb end (length file) x)

  pub contents_fault_map : (p : Fault) → fault p ≡ read_map file sizes.order at → fault p ≡ read_contents zeros file sizes at
  unfolding read_contents
  contents_fault_map p e = rw (← e)

  pub contents_mapped : (next : ℕ) (r : Parsed Contents) → found tt next ≡ read_map file sizes.order at → r ≡ read_values zeros file sizes next → r ≡ read_contents zeros file sizes at
  unfolding read_contents
  contents_mapped next r e f = rw (← e) f

-- ---- the job

module _ (zeros : Zeros) (file : List ℕ) where
  pub job_fault : (p : Fault) → fault p ≡ read_sizes file → fault p ≡ read_job zeros file
  unfolding read_job
  job_fault p e = rw (← e)

  pub job_contents : (sizes : Sizes) (at : ℕ) → found sizes at ≡ read_sizes file → read_contents zeros file sizes at ≡ read_job zeros file
  unfolding read_job
  job_contents sizes at e = rw (← e)
