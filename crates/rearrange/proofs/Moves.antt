-- Laws of specs/Moves.antt: moving one entry, a column or several columns of a row, and the way back from the work memory. Assumes nothing.
use mathlib.Core.Path.{◌≡◌, refl, ◌∙◌}
use mathlib.Core.List.{List, ◌++◌}
use Prim.Native.Nat.{ℕ, ◌+◌, ◌≤◌, ◌<◌}
use native.Mathlib.Nat.{zero-add}
use native.Mathlib.Omega.{arith}
use lib.ListN.{length, get_or, set, take, drop, length-set}
use lib.Seq.{get_or-take, length-take-le}
use lib.Ieee.{Float, nan}
use Rattle.shape.specs.Places.{packed_place, block_start, place_in_block}
use Rattle.shape.specs.Layouts.{Entry}
use Rattle.shape.proofs.Columns.{packed_place_next_row}
use Rattle.shape.proofs.Rows.{place_in_block_row, place_in_block_next_row_under}
use Rattle.calls.specs.declared.Layout.{Layout}
use Rattle.calls.specs.declared.Layout.TheVariants.{Packed, Blocked}
use Rattle.kernels.specs.Kernels.{Replaced}
use Rattle.kernels.proofs.Parts.{prefix_replaced}
use Rattle.kernels.proofs.Transfers as Transfers
use Rattle.kernels.proofs.Transfers.{moved_no_rows, join_rows}
use Rattle.rearrange.specs.Moves.{other, in_layout, place_in_part, InColumn, Held, Moved, MovedWithin}
use Rattle.rearrange.proofs.Places.{place_in_part_lt, place_in_part_apart}

-- the columns of a row end with its diagonal
pub to_diagonal : (to : Layout) (n w : ℕ) {source : List Float} {r left mid right : ℕ} {t t' : List Float}
    → mid ≡ r + 1
    → Moved to n w r (r + 1) left mid source t t'
    → Moved to n w r (r + 1) left right source t t'
to_diagonal to n w end m = record { moved = λ r s e a b c d. m.moved r s e a b c (omega (arith, e.0.lower)); kept = m.kept }

-- the places in the target are apart
apart : (to : Layout) (n w r s r' s' : ℕ)
    → InColumn n w r s
    → InColumn n w r' s'
    → place_in_part to n w r s ≡ place_in_part to n w r' s'
    → (r ≡ r') × (s ≡ s')
apart to n w r s r' s' e e' p = place_in_part_apart to n w r s r' s' e.0 e'.0 e.1 e'.1 p

-- ---- one entry, where `from` and `at` are its places

pub places_inside : (to : Layout) {n w r s from at : ℕ}
    → w ≤ n
    → Entry n r s × (s < w)
    → (from ≡ place_in_part (other to) n w r s) × (at ≡ place_in_part to n w r s)
    → (from < block_start n w) × (at < block_start n w)
places_inside to {n = n} {w = w} {r = r} {s = s} full e at =
    (rw at.0 (place_in_part_lt (other to) n w r s full e.0 e.1), rw at.1 (place_in_part_lt to n w r s full e.0 e.1))

pub moved_entry : (to : Layout) (n w : ℕ) {r s from at : ℕ} {source t t' : List Float}
    → Entry n r s
    → s < w
    → w ≤ n
    → block_start n w ≤ length t
    → from ≡ place_in_part (other to) n w r s
    → at ≡ place_in_part to n w r s
    → t' ≡ set t at (get_or source from nan)
    → Moved to n w r (r + 1) s (s + 1) source t t'
moved_entry to n w {r = r} {s = s} {source = source} {t = t} e h full fit at-from at-to step =
    rw (step, at-from, at-to)
    (Transfers.moved_entry (place_in_part (other to) n w) (place_in_part to n w) (InColumn n w) (apart to n w) source t r s (e, h)
    (omega (arith, place_in_part_lt to n w r s full e h)))

-- ---- down column s below the diagonal block: the rows from first to r are moved, and p and q are the places of entry (r, s)

pub record ColumnMoved (to : Layout) (n w s first r : ℕ) (source t t' : List Float) (p q : ℕ) : Type 0 where
  pub size : length t' ≡ length t
  pub low : first ≤ r
  pub source_place : p ≡ place_in_part (other to) n w r s
  pub target_place : q ≡ place_in_part to n w r s
  pub moved : Moved to n w first r s (s + 1) source t t'

-- the places of a column of either order are as far apart as these
next_row : (layout : Layout) (n w r s : ℕ) → w ≤ r → place_in_part layout n w (r + 1) s ≡ place_in_part layout n w r s + in_layout layout 1 w
next_row Packed n w r s h = omega (arith, packed_place_next_row n r s)
next_row Blocked n w r s h = omega (arith, place_in_block_next_row_under w r s h)

module _ {to : Layout} {n w s first r p q : ℕ} {source t t' : List Float}
    (width : w ≤ n)
    (held : Held n w source t)
    (under : (s < w) × (w ≤ first) × (r < n))
    (done : ColumnMoved to n w s first r source t t' p q)
  where
    pub column_next : {from_step to_step : ℕ}
        → (from_step ≡ in_layout (other to) 1 w) × (to_step ≡ in_layout to 1 w)
        → ColumnMoved to n w s first (r + 1) source t (set t' q (get_or source p nan)) (p + from_step) (q + to_step)
    column_next steps =
        record {
          size = simp length-set done.size;
          low = omega arith;
          source_place = omega (arith, next_row (other to) n w r s (omega arith));
          target_place = omega (arith, next_row to n w r s (omega arith));
          moved =
              join_rows done.moved
              (moved_entry to n w (omega arith) under.0 width (omega (arith, held.1)) done.source_place done.target_place refl);
        }

pub step_le : (layout : Layout) (w : ℕ) → in_layout layout 1 w ≤ w + 1
step_le Packed w = omega arith
step_le Blocked w = omega arith

-- ---- columns of a row below the diagonal block, stored together in blocked order from q on

module _ (to : Layout) (blocked : to ≡ Blocked) (n w r s count q : ℕ) (source t t' values : List Float)
    (under : w ≤ r)
    (inside : r < n)
    (columns : s + count ≤ w)
    (at : q ≡ place_in_block w r s)
    (read : (k : ℕ) → k < count → get_or values k nan ≡ get_or source (packed_place n r (s + k)) nan)
    (stored : Replaced nan q count t values t')
  where
    pub moved_columns : Moved to n w r (r + 1) s (s + count) source t t'
    moved_columns =
        rw blocked
        (Transfers.moved_columns (place_in_part Packed n w) (place_in_part Blocked n w) (InColumn n w) (apart Blocked n w) source t q count
        (λ k. get_or values k nan) t' stored r s
        (λ k h. let e : Entry n r (s + k) = omega arith in (e, omega arith))
        (λ k h. omega (arith, place_in_block_row w r s, place_in_block_row w r (s + k)))
        read)

-- ---- back from the work memory

module _ (to : Layout) (n w : ℕ) (memory work : List Float) (l : ℕ) (values : l ≡ block_start n w)
    (fit : l ≤ length memory)
    (fit' : l ≤ length work)
  where
    back : Replaced nan 0 l memory (take l work) (take l work ++ drop l memory)
    back = prefix_replaced nan l memory (take l work) fit (length-take-le l work fit')

    pub moved_back : {t : List Float}
        → w ≤ n
        → Moved to n w 0 n 0 w memory t work
        → MovedWithin to n w memory (take l work ++ drop l memory)
    moved_back full m =
        record {
          moved = λ r s e h.
              let p : ℕ = place_in_part to n w r s in
              let below : p < l = omega (arith, place_in_part_lt to n w r s full e h) in
              rw zero-add at (back.inside p below)
              ∙ get_or-take l work p nan below
              ∙ m.moved r s (e, h) (omega arith) e.inside (omega arith) h;
          kept = λ p h. back.after p (omega arith);
        }
