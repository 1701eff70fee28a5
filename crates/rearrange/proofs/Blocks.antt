-- The block columns of the whole matrix, moved one after another. What stands behind the moved ones is as it was, so that each is moved from
-- its entry values; when all are moved the memory is that of the definition in `calls`. Assumes nothing.
use mathlib.Core.Path.{◌≡◌, refl, ◌∙◌}
use mathlib.Core.List.{List, ◌++◌}
use Prim.Native.Nat.{ℕ, zero, suc, ◌+◌, ◌-◌, ◌*◌, ◌≤◌, ◌<◌, min}
use native.Mathlib.Nat.{mul-le-mul}
use native.Mathlib.Decide.{dec_lt}
use native.Mathlib.Omega.{arith}
use lib.ListN.{length, get_or, take, drop}
use lib.Ieee.{Float, nan}
use Rattle.shape.specs.Places.{triangle, block_of, block_start, width, block_work}
use Rattle.shape.specs.Layouts.{Entry}
use Rattle.shape.proofs.Columns.{block_start_double, block_start_split}
use Rattle.shape.proofs.Blocks.{width_le}
use Rattle.shape.proofs.Bounds.{block_start_le}
use Rattle.calls.specs.declared.Layout.{Layout}
use Rattle.calls.specs.Triangles.{place_of}
use Rattle.calls.specs.Calls.{moved}
use Rattle.calls.proofs.Rearranging.{layout_bijection, transfer_entries}
use Rattle.kernels.specs.Kernels.{Replaced}
use Rattle.kernels.proofs.Parts.{length_part, get_d_part, part_replaced}
use Rattle.rearrange.specs.Moves.{other, place_in_part, Held, MovedWithin}
use Rattle.rearrange.proofs.Places.{place_in_part_lt, place_before, place_of_part}

-- the columns before c are moved, and the places from column c on as they were
pub record MovedBefore (to : Layout) (n b c : ℕ) (m m' : List Float) : Type 0 where
  pub size : length m' ≡ length m
  pub moved : (i j : ℕ) → Entry n i j → j < c → get_or m' (place_of to n b i j) nan ≡ get_or m (place_of (other to) n b i j) nan
  pub kept : (p : ℕ) → block_start n (min c n) ≤ p → p < triangle n → get_or m' p nan ≡ get_or m p nan

-- ---- sizes

self_le_square : (w : ℕ) → w ≤ w * w
self_le_square zero = omega arith
self_le_square (suc w) = omega arith

block_start_work : (n b c : ℕ) → c ≤ n → block_start (n - c) (width n b c) ≤ block_work n b
unfolding block_work width
block_start_work n b c h =
    let product : (n - c) * width n b c ≤ n * min n b = mul-le-mul (omega arith) (omega arith) in
    omega (arith, product, block_start_double (n - c) (width n b c) (width_le n b c), self_le_square (width n b c))

block_start_part : (n b c : ℕ) → c ≤ n → block_start n c + block_start (n - c) (width n b c) ≤ triangle n
block_start_part n b c h =
    omega (
      arith,
      width_le n b c,
      block_start_split n c (width n b c) (omega (arith, width_le n b c)),
      block_start_le n (c + width n b c) (omega (arith, width_le n b c)),
    )

-- the rest of the matrix holds the block column, and so does the work memory
pub part_held : (n b c at n' w : ℕ) (m work : List Float)
    → c ≤ n
    → at ≡ block_start n c
    → n' ≡ n - c
    → w ≡ width n b c
    → length m ≡ triangle n
    → block_work n b ≤ length work
    → Held n' w (take (length m - at) (drop at m)) work
part_held n b c at n' w m work h start rows columns whole enough =
    let whole-rest : length (take (length m - at) (drop at m)) ≡ length m - at =
    length_part nan at (length m - at) m (omega (arith, block_start_part n b c h)) in (
      rw (rows, columns) (omega (arith, whole-rest, block_start_part n b c h)),
      rw (rows, columns) (omega (arith, block_start_work n b c h)),
    )

-- ---- the first and the next block column

pub moved_before_first : (to : Layout) (n b : ℕ) (m : List Float) → MovedBefore to n b 0 m m
moved_before_first to n b m = record { size = refl; moved = λ i j e h. absurd (omega arith); kept = λ p h inside. refl }

module _ (to : Layout) (n b c at n' w : ℕ) (m m' part : List Float)
    (positive : 0 < b)
    (inside : c < n)
    (first : block_of b c ≡ c)
    (start : at ≡ block_start n c)
    (rows : n' ≡ n - c)
    (columns : w ≡ width n b c)
    (whole : length m' ≡ triangle n)
    (same : length part ≡ length (take (length m' - at) (drop at m')))
    (before : MovedBefore to n b c m m')
    (here : MovedWithin to n' w (take (length m' - at) (drop at m')) part)
  where
    abbrev next : List Float
    next = take at m' ++ (part ++ drop (length m' - at) (drop at m'))

    fits : at + block_start n' w ≤ triangle n
    fits = rw (start, rows, columns) (block_start_part n b c (omega arith))

    whole_part : length part ≡ length m' - at
    whole_part = same ∙ length_part nan at (length m' - at) m' (omega (arith, fits))

    put : Replaced nan at (length m' - at) m' part next
    put = part_replaced nan at (length m' - at) m' part (omega (arith, fits)) whole_part

    at_kept : (p : ℕ) → at ≤ p → p < triangle n → get_or m' p nan ≡ get_or m p nan
    at_kept p h h' =
        let least : min c n ≡ c = omega arith in
        before.kept p (rw (least, ← start) h) h'

    place_here : (layout : Layout) (r s : ℕ) → Entry n' r s → s < w → place_of layout n b (c + r) (c + s) ≡ at + place_in_part layout n' w r s
    place_here layout r s e h =
        rw (start, rows, columns) (place_of_part layout n b c r s first (rw rows at e) (rw columns at h))

    moved_here : (r s : ℕ)
        → Entry n' r s
        → s < w
        → get_or next (place_of to n b (c + r) (c + s)) nan ≡ get_or m (place_of (other to) n b (c + r) (c + s)) nan
    moved_here r s e h =
        let p : ℕ = place_in_part to n' w r s in
        let q : ℕ = place_in_part (other to) n' w r s in
        let full : w ≤ n' = omega (arith, width_le n b c) in
        let below : p < block_start n' w = place_in_part_lt to n' w r s full e h in
        let below' : q < block_start n' w = place_in_part_lt (other to) n' w r s full e h in
        rw (place_here to r s e h, place_here (other to) r s e h)
        (put.inside p (omega (arith, fits))
        ∙ here.moved r s e h
        ∙ get_d_part nan at (length m' - at) m' q (omega (arith, fits))
        ∙ at_kept (at + q) (omega arith) (omega (arith, fits)))

    pub moved_before_next : MovedBefore to n b (c + b) m next
    unfolding width
    moved_before_next =
        record {
          size = put.size ∙ before.size;
          moved = λ i j e h.
              elim (dec_lt j c) [
                | yes p ↦
                    put.before (place_of to n b i j) (rw start (place_before to n b c i j positive first (omega arith) e p))
                    ∙ before.moved i j e p
                | no p ↦
                    let row : c + (i - c) ≡ i = omega arith in
                    let column : c + (j - c) ≡ j = omega arith in
                    let entry : Entry n' (i - c) (j - c) = omega (arith, e.lower, e.inside) in
                    rw (row, column) at (moved_here (i - c) (j - c) entry (omega (arith, e.lower, e.inside)))
              ];
          kept = λ p h h'.
              let last : min (c + b) n ≡ c + w = omega arith in
              let end : block_start n (c + w) ≡ block_start n c + block_start (n - c) w = block_start_split n c w (omega arith) in
              let past : block_start n (c + w) ≤ p = rw last at h in
              let behind : at + block_start n' w ≤ p = rw (start, rows) (omega arith) in
              let place : at + (p - at) ≡ p = omega arith in
              rw place at
              (put.inside (p - at) (omega arith)
              ∙ here.kept (p - at) (omega arith)
              ∙ get_d_part nan at (length m' - at) m' (p - at) (omega arith)
              ∙ at_kept (at + (p - at)) (omega arith) (omega arith));
        }

-- ---- all block columns

pub moved_all : (to : Layout) (n b c : ℕ) (m m' : List Float)
    → 0 < b
    → n ≤ c
    → length m ≡ triangle n
    → MovedBefore to n b c m m'
    → m' ≡ moved (other to) to n b m
unfolding moved
moved_all to n b c m m' positive all whole before =
    transfer_entries (place_of (other to) n b) (place_of to n b) n (layout_bijection to n b positive) m m whole m' (before.size ∙ whole)
    (λ i j e. before.moved i j e (omega (arith, e.lower, e.inside)))
