-- Laws of specs/Rows.antt: a part of the rows, what follows what was moved, and rows that follow one another. Assumes nothing.
use Prim.Native.Nat.{ℕ, zero, suc, ◌+◌, ◌-◌, ◌*◌, ◌/◌, ◌≤◌, ◌<◌}
use native.Mathlib.Omega.{arith}
use mathlib.Core.Path.{◌≡◌, refl, ap, ◌∙◌}
use mathlib.Core.List.{List, []}
use lib.ListN.{length, get_or, take, drop}
use lib.Seq.{drop-drop}
use Rattle.std.proofs.lemmas.List.{length-take, length-drop, get_or-take, get_or-drop}
use lib.Ieee.{Float, nan}
use Rattle.std.specs.Simd.{first_chunks}
use Rattle.calls.specs.Sequences.{Rising}
use Rattle.strike.proofs.Selections.{rising_gap}
use Rattle.kernels.specs.Kernels.{Filled}
use Rattle.kernels.proofs.Parts.{filled_append}
use Rattle.strike.specs.Rows.{rows_at, Ahead}

-- the rows from position k on, as many as the part has
pub record PartOf (rows part : List ℕ) (k : ℕ) : Type 0 where
  pub fits : k + length part ≤ length rows
  pub same : (x : ℕ) → x < length part → get_or part x 0 ≡ get_or rows (k + x) 0

-- n rows from k on, and all of them
module _ (rows : List ℕ) (k : ℕ) where
  pub length_slice : (n : ℕ) → k + n ≤ length rows → length (take n (drop k rows)) ≡ n
  length_slice n h = simp (length-take, length-drop) (omega arith)

  pub part_slice : (n : ℕ) → k + n ≤ length rows → PartOf rows (take n (drop k rows)) k
  part_slice n h =
      record {
        fits = omega (arith, length_slice n h);
        same = λ x i. let inside : x < n = omega (arith, length_slice n h) in rw (get_or-take, get_or-drop);
      }

  pub part_drop : k ≤ length rows → PartOf rows (drop k rows) k
  part_drop h = record { fits = omega (arith, length-drop k rows); same = λ x i. get_or-drop k rows x 0 }

-- a chunk of sixteen
chunk_is : (rows : List ℕ) (count k : ℕ) → k < count → get_or (first_chunks 16 count rows) k [] ≡ take 16 (drop (16 * k) rows)
chunk_is rows zero k h = absurd (omega arith)
chunk_is rows (suc count) zero h = refl
chunk_is rows (suc count) (suc k) h =
    let next : 16 + 16 * k ≡ 16 * suc k = omega arith in
    chunk_is (drop 16 rows) count k (omega arith) ∙ ap (take 16) (drop-drop (16 * k) 16 rows) ∙ ap (λ x. take 16 (drop x rows)) next

module _ (rows : List ℕ) (k : ℕ) (h : k < length rows / 16) where
  pub length_chunk : length (get_or (first_chunks 16 (length rows / 16) rows) k []) ≡ 16
  length_chunk = ap length (chunk_is rows (length rows / 16) k h) ∙ length_slice rows (16 * k) 16 (omega arith)

  pub part_chunk : PartOf rows (get_or (first_chunks 16 (length rows / 16) rows) k []) (16 * k)
  part_chunk = rw (chunk_is rows (length rows / 16) k h) (part_slice rows (16 * k) 16 (omega arith))

pub rising_part : {rows part : List ℕ} {k : ℕ} → PartOf rows part k → Rising rows → Rising part
rising_part {k = k} p r i j h inside = omega (arith, p.same i (omega arith), p.same j inside, r (k + i) (k + j) (omega arith) (omega (arith, p.fits)))

module _ (rows part : List ℕ) (base to k to' size : ℕ) (next : to' ≡ to + k) (p : PartOf rows part k) (a : Ahead rows base to size) where
  pub ahead_part : Ahead part base to' size
  ahead_part =
      record {
        room = omega (arith, p.fits, a.room);
        inside = λ x h. omega (arith, p.same x h, p.fits, a.inside (k + x) (omega (arith, p.fits)));
        ahead = λ x h. omega (arith, p.same x h, p.fits, a.ahead (k + x) (omega (arith, p.fits)));
      }

  -- moved after those before it
  pub moved_next :
      (count : ℕ) (m m' m'' : List Float) → length part ≡ count → Filled nan to k (rows_at m rows base) m m' → Filled nan to' count (rows_at m' part base) m' m'' →
      Filled nan to (k + count) (rows_at m rows base) m m''
  moved_next count m m' m'' all first second =
      filled_append nan to k to' count (rows_at m rows base) (rows_at m' part base) m m' m'' next first second
      (λ x h.
      let inside : x < length part = omega arith in
      ap (λ y. get_or m' (base + y) nan) (p.same x inside)
      ∙ first.after (base + get_or rows (k + x) 0) (omega (arith, p.fits, a.ahead (k + x) (omega (arith, p.fits)))))

-- rows as far apart as their positions follow one another
pub rows_follow :
    (rows : List ℕ) → Rising rows → (d : ℕ) → d < length rows → get_or rows d 0 ≡ get_or rows 0 0 + d →
    (k : ℕ) → k ≤ d → get_or rows k 0 ≡ get_or rows 0 0 + k
rows_follow rows r d h e k le =
    let first : 0 + k ≡ k = omega arith in
    let back : k + (d - k) ≡ d = omega arith in
    omega (
      arith,
      rising_gap rows r 0 k (omega arith),
      ap (λ y. get_or rows y 0) first,
      rising_gap rows r k (d - k) (omega arith),
      ap (λ y. get_or rows y 0) back,
    )
