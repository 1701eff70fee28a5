-- The statements of specs/Rewriting.antt. A job's parts stand in the file where they are written, so what is written is read back, and what was read without a
-- needless zero is what is written. Assumes nothing.
use Prim.Native.Nat.{ℕ, zero, suc, ◌+◌, ◌-◌, ◌*◌, ◌/◌, ◌%◌, ◌^◌, ◌≤◌, ◌<◌}
use native.Mathlib.Nat.{pow-zero, zero-div, div-one, div-eq_of_lt}
use native.Mathlib.Omega.{arith}
use native.Mathlib.Decide.{dec_lt}
use mathlib.Core.Path.{◌≡◌, refl, sym, ap, ◌∙◌, subst}
use mathlib.Core.Logic.{inl, inr}
use mathlib.Core.Bool.{Bool, true, false, not}
use mathlib.Core.List.{List, [], ◌∷◌, ◌++◌}
use lib.Dec.{T, eqb}
use lib.ListN.{length, get_or, take, drop, length-append, length-drop, get_or-append, get_or-eq_default}
use lib.Pow.{are_bytes, shr-shr}
use lib.Seq.{get_or_at, take-suc, take_all, length-take-le, get_or-take, get_or-drop}
use borrow.Author.Tests.{ne_eqb, eqb-true}
use Rattle.calls.specs.Sequences.{iterate, tabulate}
use Rattle.calls.proofs.Sequences.{iterate_alike, length_tabulate, get_d_tabulate, tabulate_of}
use Rattle.shape.specs.Places.{triangle}
use Rattle.job_format.specs.declared.Sizes.{Sizes}
use Rattle.job_format.specs.declared.Zeros.{Zeros}
use Rattle.job_format.specs.declared.Zeros.TheVariants.{Kept, Needless}
use Rattle.job_format.specs.Reading.{found, bounded, needless, value, values}
use Rattle.job_format.specs.Format.{Contents, InBounds, map_bytes, map_bit, padded, read_sizes, read_map, read_job}
use Rattle.job_format.specs.Rewriting.{bytes_of, sizes_bytes, stands, map_of, value_bytes, values_bytes, job_bytes, written, rewritten, SameBytes, ReadsBack, GivesBack, WrittenIsRead}
use Rattle.job_format.proofs.Fields.{then_found, bounded_in, value_absent, value_read}
use Rattle.job_format.proofs.Formats.{map_whole, map_padded, sizes_found, contents_found, contents_mapped, job_contents}
use Rattle.job_format.proofs.Digits.{length_bytes, bytes_at, bit, bits_at, bits_number, bits_short}
use Rattle.job_format.proofs.JobBytes.{length_sizes, map_byte, length_map, value_dropped, value_whole, values_to, values_all}
use Rattle.job_format.proofs.Parts.{Holds, holds_self, holds_whole, holds_join, holds_first, holds_second, holds_at, field_holds, holds_field}
use Rattle.job_format.proofs.Readings.{field_found, bounded_field, value_found, values_found, length_found, map_found, Read, job_read, Sized, read_sized, Bounded, read_bounded, read_formerly}

-- ---- the sizes

module _ (file : List ℕ) where
  -- a bounded field that was found stands there
  bounded_held : (at width low high v next : ℕ) → T (are_bytes file) → bounded file at width low high ≡ found v next → Holds file at (bytes_of width v) × (next ≡ at + width)
  bounded_held at width low high v next bytes e =
      let (there, is, ends) = field_found file at width v next (bounded_field file at width v next low high e) in
      (subst (λ (x : ℕ). Holds file at (bytes_of width x)) (sym is) (holds_field file at width there bytes), ends)

  pub sizes_held : (sizes : Sizes) (at : ℕ) → T (are_bytes file) → read_sizes file ≡ found sizes at → Holds file 0 (sizes_bytes sizes) × (at ≡ 5)
  unfolding read_sizes sizes_bytes
  sizes_held sizes at bytes e =
      let (n, i, a, e1) = then_found (bounded file 0 2 0 64) _ sizes at e in
      let (b, j, c, e2) = then_found (bounded file i 2 1 200) _ sizes at e1 in
      let (m, k, d, e3) = then_found (bounded file j 1 0 16) _ sizes at e2 in
      let is : record { order = n; block = b; count = m } ≡ sizes = cc in
      let ends : k ≡ at = cc in
      let (h1, p1) = bounded_held 0 2 0 64 n i bytes a in
      let (h2, p2) = bounded_held i 2 1 200 b j bytes c in
      let (h3, p3) = bounded_held j 1 0 16 m k bytes d in
      let at2 : i ≡ 0 + length (bytes_of 2 n) = omega (arith, length_bytes 2 n) in
      let at3 : j ≡ 0 + length (bytes_of 2 n ++ bytes_of 2 b) = omega (arith, length-append (bytes_of 2 n) (bytes_of 2 b), length_bytes 2 n, length_bytes 2 b) in
      let two : Holds file 0 (bytes_of 2 n ++ bytes_of 2 b) =
      holds_join file 0 (bytes_of 2 n) (bytes_of 2 b) h1 (subst (λ (x : ℕ). Holds file x (bytes_of 2 b)) at2 h2) in
      let three : Holds file 0 (bytes_of 2 n ++ bytes_of 2 b ++ bytes_of 1 m) =
      holds_join file 0 (bytes_of 2 n ++ bytes_of 2 b) (bytes_of 1 m) two (subst (λ (x : ℕ). Holds file x (bytes_of 1 m)) at3 h3) in
      (subst (λ (s : Sizes). Holds file 0 (bytes_of 2 s.order ++ bytes_of 2 s.block ++ bytes_of 1 s.count)) is three, omega arith)

  -- a field that stands there is found
  held_bounded :
      (at width low high v : ℕ) → 0 < width → v < 256 ^ width → low ≤ v → v ≤ high → Holds file at (bytes_of width v) → found v (at + width) ≡ bounded file at width low high
  held_bounded at width low high v some below l h k = bounded_in file at width low high v (at + width) (sym (field_holds file at width v some below k)) l h

  pub held_sizes : (sizes : Sizes) → InBounds sizes → Holds file 0 (sizes_bytes sizes) → found sizes 5 ≡ read_sizes file
  unfolding sizes_bytes
  held_sizes sizes inside h =
      let n = bytes_of 2 sizes.order in
      let b = bytes_of 2 sizes.block in
      let m = bytes_of 1 sizes.count in
      let two : Holds file 0 (n ++ b) = holds_first file 0 (n ++ b) m h in
      let at2 : 0 + length n ≡ 2 = omega (arith, length_bytes 2 sizes.order) in
      let at3 : 0 + length (n ++ b) ≡ 4 = omega (arith, length-append n b, length_bytes 2 sizes.order, length_bytes 2 sizes.block) in
      sizes_found file sizes.order 2 (held_bounded 0 2 0 64 sizes.order (omega arith) (omega (arith, inside.order)) (omega arith) inside.order (holds_first file 0 n b two))
      sizes.block 4
      (held_bounded 2 2 1 200 sizes.block (omega arith) (omega (arith, inside.block_high)) inside.block_low inside.block_high
      (subst (λ (x : ℕ). Holds file x b) at2 (holds_second file 0 n b two)))
      sizes.count 5
      (held_bounded 4 1 0 16 sizes.count (omega arith) (omega (arith, inside.count)) (omega arith) inside.count
      (subst (λ (x : ℕ). Holds file x m) at3 (holds_second file 0 (n ++ b) m h)))

-- ---- the values

needless_zero_lem : (zeros : Zeros) (v : ℕ) → needless zeros v ≡ true → v ≡ 0
unfolding needless
needless_zero_lem Kept v e = let z : ◌≡◌ {A = ℕ} 0 1 = cc in absurd (omega arith)
needless_zero_lem Needless v e = eqb-true v 0 e

-- the bytes of the first k values depend on these alone
values_alike : (zeros : Zeros) (xs ys : List ℕ) (k : ℕ) → ((j : ℕ) → j < k → get_or xs j 0 ≡ get_or ys j 0) → values_to zeros xs k ≡ values_to zeros ys k
values_alike zeros xs ys k same =
    iterate_alike (λ j text. text ++ value_bytes zeros (get_or xs j 0)) (λ j text. text ++ value_bytes zeros (get_or ys j 0)) k []
    (λ j h. ap (λ (x : ℕ). values_to zeros ys j ++ value_bytes zeros x) (same j h))

module _ (zeros : Zeros) (file : List ℕ) (present : ℕ → Bool) (at : ℕ) where
  -- what a run of values was read from; +0 for one that is not present is needless
  pub record Held (vs : List ℕ) (k next : ℕ) : Type 0 where
    pub text : Holds file at (values_to zeros vs k)
    pub ends : next ≡ at + length (values_to zeros vs k)
    pub bits : (j : ℕ) → j < k → present j ≡ not (needless zeros (get_or vs j 0))

  value_held :
      T (are_bytes file) → (k mid v next : ℕ) → (present k ≡ false → needless zeros 0 ≡ true) → value zeros file (present k) mid ≡ found v next →
      Holds file mid (value_bytes zeros v) × (next ≡ mid + length (value_bytes zeros v)) × (present k ≡ not (needless zeros v))
  value_held bytes k mid v next absent e =
      elim (value_found zeros file (present k) mid v next e) [
        | inl x ↦
            (let (p, f, n) = x in
            let (there, is, ends) = field_found file mid 8 v next f in
            let b : bytes_of 8 v ≡ value_bytes zeros v = value_whole zeros v n in
            let h : Holds file mid (bytes_of 8 v) = subst (λ (y : ℕ). Holds file mid (bytes_of 8 y)) (sym is) (holds_field file mid 8 there bytes) in
            (subst (Holds file mid) b h, omega (arith, ap length b, length_bytes 8 v), p ∙ sym (ap not n)))
        | inr x ↦
            (let (p, z, ends) = x in
            let n : needless zeros v ≡ true = ap (needless zeros) z ∙ absent p in
            let b : [] ≡ value_bytes zeros v = value_dropped zeros v n in
            (subst (Holds file mid) b refl, omega (arith, ap length b), p ∙ sym (ap not n)))
      ]

  pub values_held :
      T (are_bytes file) → (k : ℕ) (vs : List ℕ) (next : ℕ) → ((j : ℕ) → j < k → present j ≡ false → needless zeros 0 ≡ true) →
      values zeros file present k at ≡ found vs next → Held vs k next
  unfolding values iterate
  values_held bytes zero vs next absent e = record { text = refl; ends = (let z : at ≡ next = cc in omega arith); bits = λ j h. absurd (omega arith) }
  values_held bytes (suc k) vs next absent e =
      let (before, mid, v, p, q, r) = values_found zeros file present k at vs next e in
      let n : length before ≡ k = length_found zeros file present k at before mid p in
      let held = values_held bytes k before mid (λ j h. absent j (omega arith)) p in
      let (h, ends, bit) = value_held bytes k mid v next (absent k (omega arith)) q in
      let old : (j : ℕ) → j < k → get_or before j 0 ≡ get_or vs j 0 =
      λ j l. sym (ap (λ (l : List ℕ). get_or l j 0) r ∙ get_or-append before (v ∷ []) 0 j (omega arith)) in
      let new : v ≡ get_or vs k 0 = sym (ap (λ (l : List ℕ). get_or l k 0) r ∙ get_or_at before v [] 0 k n) in
      let front : List ℕ = values_to zeros before k in
      let last : List ℕ = value_bytes zeros v in
      let all : front ++ last ≡ values_to zeros vs k ++ value_bytes zeros (get_or vs k 0) =
      ap (λ (l : List ℕ). l ++ last) (values_alike zeros before vs k old) ∙ ap (λ (x : ℕ). values_to zeros vs k ++ value_bytes zeros x) new in
      let m : mid ≡ at + length front = held.ends in
      record {
        text = subst (Holds file at) all (holds_join file at front last held.text (subst (λ (x : ℕ). Holds file x last) m h));
        ends = omega (arith, ap length all, length-append front last);
        bits =
            λ j l.
            elim (dec_lt j k) [
              | yes i ↦ held.bits j i ∙ ap (λ (x : ℕ). not (needless zeros x)) (old j i)
              | no i ↦
                  (let z : k ≡ j = omega arith in
                  subst (λ (x : ℕ). present x ≡ not (needless zeros (get_or vs x 0))) z (bit ∙ ap (λ (x : ℕ). not (needless zeros x)) new))
            ];
      }

  -- a run that stands there is read
  held_value :
      (k mid v : ℕ) → v < 256 ^ 8 → present k ≡ not (needless zeros v) → Holds file mid (value_bytes zeros v) →
      value zeros file (present k) mid ≡ found v (mid + length (value_bytes zeros v))
  held_value k mid v below p h = go (needless zeros v) refl
    where
      go : (b : Bool) → needless zeros v ≡ b → value zeros file (present k) mid ≡ found v (mid + length (value_bytes zeros v))
      go true n =
          let b : [] ≡ value_bytes zeros v = value_dropped zeros v n in
          let z : 0 ≡ v = sym (needless_zero_lem zeros v n) in
          let e : mid ≡ mid + length (value_bytes zeros v) = omega (arith, ap length b) in
          sym (value_absent zeros file mid (present k) (p ∙ ap not n)) ∙ ap (λ (x : ℕ). found x mid) z ∙ ap (found v) e
      go false n =
          let b : bytes_of 8 v ≡ value_bytes zeros v = value_whole zeros v n in
          let e : mid + 8 ≡ mid + length (value_bytes zeros v) = omega (arith, ap length b, length_bytes 8 v) in
          sym (value_read zeros file mid (present k) (p ∙ ap not n) v (mid + 8) (sym (field_holds file mid 8 v (omega arith) below (subst (Holds file mid) (sym b) h))) n)
          ∙ ap (found v) e

  pub held_values :
      (vs : List ℕ) → ((j : ℕ) → j < length vs → get_or vs j 0 < 256 ^ 8) → ((j : ℕ) → j < length vs → present j ≡ not (needless zeros (get_or vs j 0))) →
      (k : ℕ) → k ≤ length vs → Holds file at (values_to zeros vs k) → values zeros file present k at ≡ found (take k vs) (at + length (values_to zeros vs k))
  unfolding values iterate
  held_values vs below bits zero l h = ap (found []) (omega arith)
  held_values vs below bits (suc k) l h =
      let v : ℕ = get_or vs k 0 in
      let front : List ℕ = values_to zeros vs k in
      let last : List ℕ = value_bytes zeros v in
      let r = held_values vs below bits k (omega arith) (holds_first file at front last h) in
      let q = held_value k (at + length front) v (below k l) (bits k l) (holds_second file at front last h) in
      let e : at + length front + length last ≡ at + length (front ++ last) = omega (arith, length-append front last) in
      rw (r, q, take-suc vs k 0 l, e)

-- ---- the map

abbrev byte_at : List ℕ → ℕ → ℕ
byte_at file i = get_or file (5 + i) 0

-- bit p of a byte of the map, by the byte's number and the bit's
bit_in : (file : List ℕ) (i t p : ℕ) → t < 8 → p ≡ 8 * i + t → map_bit file p ≡ eqb (byte_at file i / 2 ^ t % 2) 1
unfolding map_bit
bit_in file i t p h e =
    let q : p / 8 ≡ i = omega arith in
    let r : p % 8 ≡ t = omega arith in
    rw (q, r)

no_bit : (x s t : ℕ) → x / 2 ^ s ≡ 0 → s ≤ t → eqb (x / 2 ^ t % 2) 1 ≡ false
no_bit x s t e h =
    let d : s + (t - s) ≡ t = omega arith in
    let z : x / 2 ^ t ≡ 0 = ap (λ (k : ℕ). x / 2 ^ k) (sym d) ∙ sym (shr-shr x s (t - s)) ∙ ap (λ (y : ℕ). y / 2 ^ (t - s)) e ∙ zero-div (2 ^ (t - s)) in
    rw z refl

stands_past : (matrix : List ℕ) (p : ℕ) → length matrix ≤ p → stands matrix p ≡ false
unfolding stands
stands_past matrix p h = rw (get_or-eq_default matrix 0 h) refl

module _ (file matrix : List ℕ) (n : ℕ) (entries : length matrix ≡ triangle n) where
  bytes_are : map_bytes n ≡ (length matrix + 7) / 8
  unfolding map_bytes
  bytes_are = ap (λ (t : ℕ). (t + 7) / 8) (sym entries)

  -- the map that was read is the one that is written
  module _
      (bytes : T (are_bytes file)) (there : 5 + map_bytes n ≤ length file) (zeros : padded file n (5 + map_bytes n) ≡ true)
      (same : (p : ℕ) → p < length matrix → map_bit file p ≡ stands matrix p)
    where
      -- the padding of the last byte
      padding : (i : ℕ) → i < map_bytes n → length matrix < 8 * i + 8 → byte_at file i / 2 ^ (length matrix % 8) ≡ 0
      unfolding padded
      padding i h l =
          let some : triangle n % 8 ≡ 0 → ⊥ = λ z. omega (arith, bytes_are) in
          let last : 5 + map_bytes n - 1 ≡ 5 + i = omega (arith, bytes_are) in
          let z : eqb (get_or file (5 + map_bytes n - 1) 0 / 2 ^ (triangle n % 8)) 0 ≡ true = rw (ne_eqb (triangle n % 8) 0 some) at zeros in
          ap (λ (k : ℕ). get_or file k 0 / 2 ^ (length matrix % 8)) (sym last) ∙ ap (λ (t : ℕ). get_or file (5 + map_bytes n - 1) 0 / 2 ^ (t % 8)) entries
          ∙ eqb-true (get_or file (5 + map_bytes n - 1) 0 / 2 ^ (triangle n % 8)) 0 z

      byte_held : (i : ℕ) → i < map_bytes n → byte_at file i ≡ map_byte matrix i
      byte_held i h =
          let x : ℕ = byte_at file i in
          let one : x / 2 ^ 0 ≡ x = ap (λ (y : ℕ). x / y) (pow-zero 2) ∙ div-one x in
          sym
          (bits_number (stands matrix) (8 * i) 8 0 x (omega (arith, bytes_at file (5 + i) bytes))
          (λ t l.
          let zt : 0 + t ≡ t = omega arith in
          rw zt
          (elim (dec_lt (8 * i + t) (length matrix)) [
            | yes inside ↦ sym (same (8 * i + t) inside) ∙ bit_in file i t (8 * i + t) l refl
            | no past ↦
                stands_past matrix (8 * i + t) (omega arith)
                ∙ sym (no_bit x (length matrix % 8) t (padding i h (omega arith)) (omega (arith, bytes_are)))
          ])) ∙ one)

      pub map_held : Holds file 5 (map_of matrix)
      unfolding map_of
      map_held =
          let c : ℕ = (length matrix + 7) / 8 in
          let part : List ℕ = take c (drop 5 file) in
          let len : length part ≡ c = length-take-le c (drop 5 file) (omega (arith, bytes_are, length-drop 5 file)) in
          let is : tabulate c (map_byte matrix) ≡ part =
          tabulate_of (map_byte matrix) c part 0 len (λ i h. get_or-take c (drop 5 file) i 0 h ∙ get_or-drop 5 file i 0 ∙ byte_held i (omega (arith, bytes_are))) in
          ap (λ (k : ℕ). take k (drop 5 file)) (length_tabulate (map_byte matrix) c) ∙ sym is

  -- a map that stands there is read
  module _ (h : Holds file 5 (map_of matrix)) where
    held_byte : (i : ℕ) → i < map_bytes n → byte_at file i ≡ map_byte matrix i
    unfolding map_of
    held_byte i l =
        holds_at file 5 (tabulate ((length matrix + 7) / 8) (map_byte matrix)) h i (omega (arith, bytes_are, length_tabulate (map_byte matrix) ((length matrix + 7) / 8)))
        ∙ get_d_tabulate (map_byte matrix) ((length matrix + 7) / 8) i 0 (omega (arith, bytes_are))

    pub held_bit : (p : ℕ) → p < length matrix → map_bit file p ≡ stands matrix p
    held_bit p l =
        let e : p ≡ 8 * (p / 8) + p % 8 = omega arith in
        bit_in file (p / 8) (p % 8) p (omega arith) e
        ∙ ap (λ (x : ℕ). eqb (x / 2 ^ (p % 8) % 2) 1) (held_byte (p / 8) (omega (arith, bytes_are)))
        ∙ bits_at (stands matrix) (8 * (p / 8)) 8 (p % 8) (omega arith)
        ∙ ap (stands matrix) (sym e)

    last_byte : 0 < triangle n % 8 → byte_at file (map_bytes n - 1) / 2 ^ (triangle n % 8) ≡ 0
    last_byte some =
        ap (λ (x : ℕ). x / 2 ^ (triangle n % 8)) (held_byte (map_bytes n - 1) (omega (arith, bytes_are)))
        ∙ div-eq_of_lt (bits_short (stands matrix) (8 * (map_bytes n - 1)) 8 (triangle n % 8) (λ j l k. stands_past matrix (8 * (map_bytes n - 1) + j) (omega (arith, bytes_are))))

    pub held_map : 5 + map_bytes n ≤ length file → found tt (5 + map_bytes n) ≡ read_map file n 5
    unfolding map_bytes
    held_map there = go (triangle n % 8) refl
      where
        go : (s : ℕ) → triangle n % 8 ≡ s → found tt (5 + (triangle n + 7) / 8) ≡ read_map file n 5
        go zero z = map_whole file n 5 (triangle n) ((triangle n + 7) / 8) refl refl there z
        go (suc s) z =
            let k : 5 + ((triangle n + 7) / 8 - 1) ≡ 5 + (triangle n + 7) / 8 - 1 = omega arith in
            map_padded file n 5 (triangle n) ((triangle n + 7) / 8) refl refl there (λ e. omega arith)
            (ap (λ (i : ℕ). get_or file i 0 / 2 ^ (triangle n % 8)) (sym k) ∙ last_byte (omega arith))

-- ---- the whole

-- a job that was read without a needless zero is the one that is written
module _ (file : List ℕ) (job : Contents) (at : ℕ) (bytes : T (are_bytes file)) (r : Read Needless file job at) where
  read_written : job_bytes job ≡ file
  unfolding job_bytes needless stands
  read_written =
      let n : ℕ = job.sizes.order in
      let t : ℕ = triangle n in
      let c : ℕ = n * job.sizes.count in
      let b : Sized job = read_sized Needless file job at r in
      let (hs, five) = sizes_held file job.sizes r.start bytes r.sizes in
      let m : read_map file n 5 ≡ found tt r.next = ap (read_map file n) (sym five) ∙ r.map in
      let (there, zeros, ends) = map_found file n 5 r.next m in
      let eh : Held Needless file (map_bit file) r.next job.matrix t r.mid =
      values_held Needless file (map_bit file) r.next bytes t job.matrix r.mid (λ j l p. refl) r.matrix in
      let rh : Held Kept file (λ p. true) r.mid job.rhs c at =
      values_held Kept file (λ p. true) r.mid bytes c job.rhs at (λ j l p. let z : ◌≡◌ {A = ℕ} 0 1 = cc in absurd (omega arith)) r.rhs in
      let hm : Holds file 5 (map_of job.matrix) =
      map_held file job.matrix n b.entries bytes there zeros (λ p l. eh.bits p (omega (arith, b.entries))) in
      let sizes : List ℕ = sizes_bytes job.sizes in
      let map : List ℕ = map_of job.matrix in
      let entries : List ℕ = values_bytes Needless job.matrix in
      let rights : List ℕ = values_bytes Kept job.rhs in
      let ea : values_to Needless job.matrix t ≡ entries = values_all Needless job.matrix t (sym b.entries) in
      let ra : values_to Kept job.rhs c ≡ rights = values_all Kept job.rhs c (sym b.values) in
      let at1 : 5 ≡ 0 + length sizes = omega (arith, length_sizes job.sizes) in
      let at2 : r.next ≡ 0 + length (sizes ++ map) =
      omega (arith, length-append sizes map, length_sizes job.sizes, length_map job.matrix, bytes_are file job.matrix n b.entries) in
      let at3 : r.mid ≡ 0 + length (sizes ++ map ++ entries) = omega (arith, length-append (sizes ++ map) entries, at2, eh.ends, ap length ea) in
      let two : Holds file 0 (sizes ++ map) = holds_join file 0 sizes map hs (subst (λ (x : ℕ). Holds file x map) at1 hm) in
      let three : Holds file 0 (sizes ++ map ++ entries) =
      holds_join file 0 (sizes ++ map) entries two (subst (λ (x : ℕ). Holds file x entries) at2 (subst (Holds file r.next) ea eh.text)) in
      let four : Holds file 0 (sizes ++ map ++ entries ++ rights) =
      holds_join file 0 (sizes ++ map ++ entries) rights three (subst (λ (x : ℕ). Holds file x rights) at3 (subst (Holds file r.mid) ra rh.text)) in
      holds_whole file (sizes ++ map ++ entries ++ rights) four
      (omega (arith, length-append (sizes ++ map ++ entries) rights, at3, rh.ends, ap length ra, r.end))

-- what is written is read
module _ (job : Contents) (b : Bounded job) where
  written_read : found job (length (job_bytes job)) ≡ read_job Needless (job_bytes job)
  unfolding job_bytes needless stands
  written_read =
      let s : Sized job = b.sized in
      let n : ℕ = job.sizes.order in
      let t : ℕ = triangle n in
      let c : ℕ = n * job.sizes.count in
      let sizes : List ℕ = sizes_bytes job.sizes in
      let map : List ℕ = map_of job.matrix in
      let entries : List ℕ = values_bytes Needless job.matrix in
      let rights : List ℕ = values_bytes Kept job.rhs in
      let file : List ℕ = sizes ++ map ++ entries ++ rights in
      let ea : values_to Needless job.matrix t ≡ entries = values_all Needless job.matrix t (sym s.entries) in
      let ra : values_to Kept job.rhs c ≡ rights = values_all Kept job.rhs c (sym s.values) in
      let three : Holds file 0 (sizes ++ map ++ entries) = holds_first file 0 (sizes ++ map ++ entries) rights (holds_self file) in
      let two : Holds file 0 (sizes ++ map) = holds_first file 0 (sizes ++ map) entries three in
      let at1 : 0 + length sizes ≡ 5 = omega (arith, length_sizes job.sizes) in
      let at2 : 0 + length (sizes ++ map) ≡ 5 + map_bytes n =
      omega (arith, length-append sizes map, length_sizes job.sizes, length_map job.matrix, bytes_are file job.matrix n s.entries) in
      let at3 : 0 + length (sizes ++ map ++ entries) ≡ 5 + map_bytes n + length (values_to Needless job.matrix t) =
      omega (arith, length-append (sizes ++ map) entries, at2, ap length ea) in
      let ends : 5 + map_bytes n + length (values_to Needless job.matrix t) + length (values_to Kept job.rhs c) ≡ length file =
      omega (arith, length-append (sizes ++ map ++ entries) rights, at3, ap length ra) in
      let hm : Holds file 5 map = subst (λ (x : ℕ). Holds file x map) at1 (holds_second file 0 sizes map two) in
      let he : Holds file (5 + map_bytes n) (values_to Needless job.matrix t) =
      subst (Holds file (5 + map_bytes n)) (sym ea) (subst (λ (x : ℕ). Holds file x entries) at2 (holds_second file 0 (sizes ++ map) entries three)) in
      let hr : Holds file (5 + map_bytes n + length (values_to Needless job.matrix t)) (values_to Kept job.rhs c) =
      subst (Holds file (5 + map_bytes n + length (values_to Needless job.matrix t))) (sym ra)
      (subst (λ (x : ℕ). Holds file x rights) at3 (holds_second file 0 (sizes ++ map ++ entries) rights (holds_self file))) in
      let h : found job.sizes 5 ≡ read_sizes file = held_sizes file job.sizes s.sizes (holds_first file 0 sizes map two) in
      let m : found tt (5 + map_bytes n) ≡ read_map file n 5 = held_map file job.matrix n s.entries hm (omega (arith, ends)) in
      let e : found job.matrix (5 + map_bytes n + length (values_to Needless job.matrix t)) ≡ values Needless file (map_bit file) t (5 + map_bytes n) =
      sym
      (held_values Needless file (map_bit file) (5 + map_bytes n) job.matrix b.matrix (held_bit file job.matrix n s.entries hm) t (omega (arith, s.entries)) he
      ∙ ap (λ (l : List ℕ). found l (5 + map_bytes n + length (values_to Needless job.matrix t))) (take_all t job.matrix (omega (arith, s.entries)))) in
      let v :
      found job.rhs (5 + map_bytes n + length (values_to Needless job.matrix t) + length (values_to Kept job.rhs c))
      ≡ values Kept file (λ p. true) c (5 + map_bytes n + length (values_to Needless job.matrix t)) =
      sym
      (held_values Kept file (λ p. true) (5 + map_bytes n + length (values_to Needless job.matrix t)) job.rhs b.rhs (λ j l. refl) c (omega (arith, s.values)) hr
      ∙ ap (λ (l : List ℕ). found l (5 + map_bytes n + length (values_to Needless job.matrix t) + length (values_to Kept job.rhs c)))
      (take_all c job.rhs (omega (arith, s.values)))) in
      ap (found job) (sym ends)
      ∙ contents_mapped Needless file job.sizes 5 (5 + map_bytes n) _ m
      (contents_found Needless file job.sizes (5 + map_bytes n) t refl _ job.matrix e c refl _ job.rhs v ends)
      ∙ job_contents Needless file job.sizes 5 h

-- ---- the statements

pub written_is_read : WrittenIsRead
written_is_read job inside entries values matrix rhs =
    sym (written_read job (record { sized = record { sizes = inside; entries = entries; values = values }; matrix = matrix; rhs = rhs }))

pub same_bytes : SameBytes
same_bytes file file' bytes bytes' job job' at at' e e' = (
  (λ same. let f : found job at ≡ found job' at' = sym e ∙ ap (read_job Needless) same ∙ e' in (cc)),
  (λ same.
      sym (read_written file job at bytes (job_read Needless file job at e)) ∙ ap job_bytes same ∙ read_written file' job' at' bytes' (job_read Needless file' job' at' e')),
)

pub reads_back : ReadsBack
unfolding rewritten written
reads_back file text end bytes e =
    let (job, at, p, q) = then_found (read_job Kept file) _ text end e in
    let t : job_bytes job ≡ text = cc in
    let l : length (job_bytes job) ≡ end = cc in
    let r : read_job Needless (job_bytes job) ≡ found job (length (job_bytes job)) = sym (written_read job (read_bounded Kept file job at (job_read Kept file job at p) bytes)) in
    (job, at, p, ap (read_job Needless) (sym t) ∙ r ∙ ap (found job) l)

pub gives_back : GivesBack
unfolding rewritten written
gives_back file job at bytes e =
    let f = read_formerly file job at e in
    let w : job_bytes job ≡ file = read_written file job at bytes (job_read Needless file job at e) in
    rw (f, w) refl
