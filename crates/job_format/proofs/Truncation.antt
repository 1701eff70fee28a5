-- A job has at most 25,097 bytes, so the first 25,098 of a longer file say all: it is read as they are, and rewritten as they are. Assumes nothing.
use Prim.Native.Nat.{ℕ, zero, suc, ◌+◌, ◌-◌, ◌*◌, ◌/◌, ◌≤◌, ◌<◌}
use native.Mathlib.Omega.{arith}
use native.Mathlib.Decide.{dec_le}
use mathlib.Core.Path.{◌≡◌, refl, sym, ap, ◌∙◌}
use mathlib.Core.Logic.{◌⊎◌, inl, inr}
use mathlib.Core.Bool.{Bool, true, false}
use mathlib.Core.List.{List, [], ◌∷◌}
use lib.Dec.{leb}
use lib.ListN.{length, take, drop}
use lib.Seq.{length-take-le, take_all, take-take, get_or-take}
use borrow.Author.Tests.{le-leb, ne_eqb, leb-true}
use Rattle.shape.specs.Places.{triangle}
use Rattle.job_format.specs.declared.Fault.{Fault}
use Rattle.job_format.specs.declared.Sizes.{Sizes}
use Rattle.job_format.specs.declared.Zeros.{Zeros}
use Rattle.job_format.specs.declared.Zeros.TheVariants.{Kept}
use Rattle.job_format.specs.Reading.{Parsed, fault, found, and_then, malformed, little_endian, field, bounded, value, values}
use Rattle.job_format.specs.Format.{map_bytes, map_bit, padded, read_sizes, read_map, read_values, read_contents, read_job}
use Rattle.job_format.specs.Rewriting.{max_job, written, rewritten}
use Rattle.job_format.proofs.Fields.{field_there}
use Rattle.job_format.proofs.Readings.{field_found, value_found, values_found}
use Rattle.job_format.proofs.Formats.{triangle_small, values_small}

-- ---- fields that are there

module _ (file : List ℕ) (at width low high : ℕ) (h : at + width ≤ length file) where
  -- out of its bounds, or a value within them
  bounded_there :
      (bounded file at width low high ≡ fault (malformed at))
      ⊎ ((v : ℕ) × (v ≤ high) × (bounded file at width low high ≡ found v (at + width)))
  unfolding bounded
  bounded_there = go (leb low v) refl (leb v high) refl
    where
      v : ℕ
      v = little_endian (take width (drop at file))

      go :
          (a : Bool) → leb low v ≡ a → (b : Bool) → leb v high ≡ b →
          (bounded file at width low high ≡ fault (malformed at))
          ⊎ ((v : ℕ) × (v ≤ high) × (bounded file at width low high ≡ found v (at + width)))
      go true p true q = inr (v, leb-true v high q, rw (field_there file at width h, p, q))
      go true p false q = inl (rw (field_there file at width h, p, q))
      go false p b q = inl (rw (field_there file at width h, p))

-- a value takes at most 8 bytes
value_next : (zeros : Zeros) (file : List ℕ) (present : Bool) (at v next : ℕ) → value zeros file present at ≡ found v next → next ≤ at + 8
value_next zeros file present at v next e =
    elim (value_found zeros file present at v next e) [
      | inl x ↦ (let (there, is, ends) = field_found file at 8 v next x.1 in omega arith)
      | inr x ↦ (let ends = x.2 in omega arith)
    ]

values_next : (zeros : Zeros) (file : List ℕ) (present : ℕ → Bool) (k at : ℕ) (vs : List ℕ) (next : ℕ) → values zeros file present k at ≡ found vs next → next ≤ at + 8 * k
unfolding values
values_next zeros file present zero at vs next e = let z : at ≡ next = cc in omega arith
values_next zeros file present (suc k) at vs next e =
    let (before, mid, v, p, q, r) = values_found zeros file present k at vs next e in
    omega (arith, values_next zeros file present k at before mid p, value_next zeros file (present k) mid v next q)

-- ---- a prefix that holds them

drop_prefix : (file : List ℕ) (size at width : ℕ) → at + width ≤ size → take width (drop at (take size file)) ≡ take width (drop at file)
drop_prefix file size zero width h = take-take width size file (omega arith)
drop_prefix file zero (suc at) width h = absurd (omega arith)
drop_prefix [] (suc s) (suc at) width h = refl
drop_prefix (x ∷ file) (suc s) (suc at) width h = drop_prefix file s at width (omega arith)

module _ (file : List ℕ) (size : ℕ) (long : size ≤ length file) where
  length_prefix : length (take size file) ≡ size
  length_prefix = length-take-le size file long

  field_prefix : (at width : ℕ) → at + width ≤ size → field (take size file) at width ≡ field file at width
  field_prefix at width h =
      field_there (take size file) at width (omega (arith, length_prefix))
      ∙ ap (λ (xs : List ℕ). found (little_endian xs) (at + width)) (drop_prefix file size at width h)
      ∙ sym (field_there file at width (omega arith))

  bounded_prefix : (at width low high : ℕ) → at + width ≤ size → bounded (take size file) at width low high ≡ bounded file at width low high
  unfolding bounded
  bounded_prefix at width low high h = rw (field_prefix at width h)

  value_prefix : (zeros : Zeros) (present : Bool) (at : ℕ) → at + 8 ≤ size → value zeros (take size file) present at ≡ value zeros file present at
  unfolding value
  value_prefix zeros present at h = rw (field_prefix at 8 h)

  -- what comes after a part that was found within the prefix
  then_prefix : {A B : Type 0} (p : Parsed A) (f g : A → ℕ → Parsed B) → ((a : A) (at : ℕ) → p ≡ found a at → f a at ≡ g a at) → and_then p f ≡ and_then p g
  then_prefix (fault x) f g same = refl
  then_prefix (found a at) f g same = same a at refl

  values_prefix :
      (zeros : Zeros) (present' present : ℕ → Bool) (at k : ℕ) → ((p : ℕ) → p < k → present' p ≡ present p) → at + 8 * k ≤ size →
      values zeros (take size file) present' k at ≡ values zeros file present k at
  unfolding values
  values_prefix zeros present' present at zero same h = refl
  values_prefix zeros present' present at (suc k) same h =
      rw (values_prefix zeros present' present at k (λ p q. same p (omega arith)) (omega arith), same k (omega arith))
      (then_prefix (values zeros file present k at) _ _
      (λ before mid e. rw (value_prefix zeros (present k) mid (omega (arith, values_next zeros file present k at before mid e))) refl))

  bit_prefix : (p : ℕ) → 5 + p / 8 < size → map_bit (take size file) p ≡ map_bit file p
  unfolding map_bit
  bit_prefix p h = rw (get_or-take size file (5 + p / 8) 0 h)

  sizes_prefix : 5 ≤ size → read_sizes (take size file) ≡ read_sizes file
  unfolding read_sizes
  sizes_prefix h =
      elim (bounded_there file 0 2 0 64 (omega arith)) [
        | inl e ↦ rw (bounded_prefix 0 2 0 64 (omega arith), e)
        | inr x ↦
            elim (bounded_there file 2 2 1 200 (omega arith)) [
              | inl f ↦ rw (bounded_prefix 0 2 0 64 (omega arith), x.2, bounded_prefix 2 2 1 200 (omega arith), f)
              | inr y ↦ rw (bounded_prefix 0 2 0 64 (omega arith), x.2, bounded_prefix 2 2 1 200 (omega arith), y.2, bounded_prefix 4 1 0 16 (omega arith))
            ]
      ]

  map_prefix : (n at : ℕ) → 0 < at → at + map_bytes n ≤ size → read_map (take size file) n at ≡ read_map file n at
  unfolding read_map padded
  map_prefix n at some h =
      let next : ℕ = at + map_bytes n in
      rw (
        le-leb next (length (take size file)) (omega (arith, length_prefix)),
        le-leb next (length file) (omega arith),
        get_or-take size file (next - 1) 0 (omega arith),
      )

  -- the values are all there, and a byte more
  contents_prefix :
      (zeros : Zeros) (sizes : Sizes) (at : ℕ) →
      5 + (triangle sizes.order + 7) / 8 ≤ size →
      at + 8 * triangle sizes.order + 8 * (sizes.order * sizes.count) < size →
      read_values zeros (take size file) sizes at ≡ read_values zeros file sizes at
  unfolding read_values
  contents_prefix zeros sizes at m h =
      let t : ℕ = triangle sizes.order in
      let c : ℕ = sizes.order * sizes.count in
      let same : (p : ℕ) → p < t → map_bit (take size file) p ≡ map_bit file p = λ p q. bit_prefix p (omega arith) in
      rw (values_prefix zeros (map_bit (take size file)) (map_bit file) at t same (omega arith))
      (then_prefix (values zeros file (map_bit file) t at) _ _
      (λ matrix next e.
      let a : next ≤ at + 8 * t = values_next zeros file (map_bit file) t at matrix next e in
      rw (values_prefix Kept (λ p. true) (λ p. true) next c (λ p q. refl) (omega arith))
      (then_prefix (values Kept file (λ p. true) c next) _ _
      (λ rhs end f.
      let b : end ≤ next + 8 * c = values_next Kept file (λ p. true) c next rhs end f in
      rw (ne_eqb end (length (take size file)) (λ x. omega (arith, length_prefix)), ne_eqb end (length file) (λ x. omega arith)) refl))))

-- the sizes of a file that holds them: a fault, or sizes within their bounds
sizes_there :
    (file : List ℕ) → 5 ≤ length file →
    ((p : Fault) × (read_sizes file ≡ fault p))
    ⊎ ((sizes : Sizes) × (sizes.order ≤ 64) × (sizes.count ≤ 16) × (read_sizes file ≡ found sizes 5))
unfolding read_sizes
sizes_there file h =
    elim (bounded_there file 0 2 0 64 (omega arith)) [
      | inl e ↦ inl (malformed 0, rw e)
      | inr x ↦
          elim (bounded_there file 2 2 1 200 (omega arith)) [
            | inl f ↦ inl (malformed 2, rw (x.2, f))
            | inr y ↦
                elim (bounded_there file 4 1 0 16 (omega arith)) [
                  | inl g ↦ inl (malformed 4, rw (x.2, y.2, g))
                  | inr z ↦ inr (record { order = x.0; block = y.0; count = z.0 }, x.1, z.1, rw (x.2, y.2, z.2))
                ]
          ]
    ]

-- the map of a file that holds it: a fault, or the position after it
map_there : (file : List ℕ) (n at : ℕ) → at + map_bytes n ≤ length file → ((p : Fault) × (read_map file n at ≡ fault p)) ⊎ (read_map file n at ≡ found tt (at + map_bytes n))
unfolding read_map
map_there file n at h = go (padded file n (at + map_bytes n)) refl
  where
    go : (b : Bool) → padded file n (at + map_bytes n) ≡ b → ((p : Fault) × (read_map file n at ≡ fault p)) ⊎ (read_map file n at ≡ found tt (at + map_bytes n))
    go true e = inr (rw (le-leb (at + map_bytes n) (length file) h, e))
    go false e = inl (malformed (at + map_bytes n - 1), rw (le-leb (at + map_bytes n) (length file) h, e))

map_small : (n : ℕ) → n ≤ 64 → map_bytes n ≤ 260
unfolding map_bytes
map_small n h = omega (arith, triangle_small n h)

map_is : (n : ℕ) → map_bytes n ≡ (triangle n + 7) / 8
unfolding map_bytes
map_is n = refl

long_prefix : (zeros : Zeros) (file : List ℕ) → max_job < length file → read_job zeros (take (max_job + 1) file) ≡ read_job zeros file
unfolding read_job read_contents
long_prefix zeros file long =
    let size : ℕ = max_job + 1 in
    let s : read_sizes (take size file) ≡ read_sizes file = sizes_prefix file size long (omega arith) in
    elim (sizes_there file (omega arith)) [
      | inl x ↦ (let e = x.1 in rw (s, e))
      | inr x ↦
          (let sizes : Sizes = x.0 in
          let e : read_sizes file ≡ found sizes 5 = x.3 in
          let n : ℕ = sizes.order in
          let bytes : map_bytes n ≤ 260 = map_small n x.1 in
          let m : read_map (take size file) n 5 ≡ read_map file n 5 = map_prefix file size long n 5 (omega arith) (omega arith) in
          let entries : triangle n ≤ 2080 = triangle_small n x.1 in
          let rhs : n * sizes.count ≤ 1024 = values_small n sizes.count x.1 x.2 in
          let c : read_values zeros (take size file) sizes (5 + map_bytes n) ≡ read_values zeros file sizes (5 + map_bytes n) =
          contents_prefix file size long zeros sizes (5 + map_bytes n) (omega (arith, map_is n)) (omega arith) in
          elim (map_there file n 5 (omega arith)) [
            | inl y ↦ (let f = y.1 in rw (s, e, m, f))
            | inr f ↦ rw (s, e, m, f, c)
          ])
    ]

-- reading 25,098 bytes is enough
pub job_prefix : (zeros : Zeros) (file : List ℕ) → read_job zeros (take (max_job + 1) file) ≡ read_job zeros file
job_prefix zeros file =
    elim (dec_le (length file) (max_job + 1)) [
      | yes h ↦ ap (read_job zeros) (take_all (max_job + 1) file h)
      | no h ↦ long_prefix zeros file (omega arith)
    ]

pub sizes_enough : (file : List ℕ) → read_sizes (take (max_job + 1) file) ≡ read_sizes file
sizes_enough file =
    elim (dec_le (length file) (max_job + 1)) [
      | yes h ↦ ap read_sizes (take_all (max_job + 1) file h)
      | no h ↦ sizes_prefix file (max_job + 1) (omega arith) (omega arith)
    ]

pub rewritten_prefix : (file : List ℕ) → rewritten (take (max_job + 1) file) ≡ rewritten file
unfolding rewritten
rewritten_prefix file = ap written (job_prefix Kept file)
