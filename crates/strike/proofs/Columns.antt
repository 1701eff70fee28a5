-- Columns of the unknowns kept, moved one after another: what stands at each place after column c. A value goes to its own place or before it, so the columns
-- that are left stand as they did. Assumes nothing.
use Prim.Native.Nat.{ℕ, ◌+◌, ◌-◌, ◌≤◌, ◌<◌}
use native.Mathlib.Omega.{arith}
use native.Mathlib.Decide.{dec_lt}
use mathlib.Core.Path.{◌≡◌, refl, sym, ap, ◌∙◌}
use mathlib.Core.List.{List}
use lib.ListN.{length, get_or, take, drop}
use lib.Seq.{get_or-take, length-take-le}
use lib.Ieee.{Float, nan}
use Rattle.shape.specs.Places.{triangle, packed_place, block_start}
use Rattle.shape.specs.Layouts.{Entry}
use Rattle.shape.proofs.Columns.{block_start_next, packed_place_column, packed_place_lt, packed_place_rows}
use Rattle.shape.proofs.Bounds.{triangle_mono, block_start_le, block_start_mono}
use Rattle.shape.proofs.Bijections.{packed_bijection}
use Rattle.calls.specs.Strikes.{Fresh}
use Rattle.strike.proofs.Selections.{rising_length}
use Rattle.strike.proofs.Strikes.{rising_entry, rising_forward}
use Rattle.kernels.specs.Kernels.{Filled}
use Rattle.strike.specs.Rows.{rows_at, Ahead, Unknowns}
use Rattle.strike.proofs.Rows.{PartOf, length_slice, part_slice}

pub row_le_place : (n i j : ℕ) → i ≤ packed_place n i j
unfolding packed_place
row_le_place n i j = omega arith

-- where an entry stood
abbrev source_of : ℕ → List ℕ → ℕ → ℕ → ℕ
source_of n unknowns i j = packed_place n (get_or unknowns i 0) (get_or unknowns j 0)

-- the columns before c stand where they go, the others where they stood
pub record ColumnsMoved (n : ℕ) (unknowns : List ℕ) (m : List Float) (c : ℕ) (m' : List Float) : Type 0 where
  pub done :
      (i j : ℕ) → Entry (length unknowns) i j → j < c → get_or m' (packed_place (length unknowns) i j) nan ≡ get_or m (source_of n unknowns i j) nan
  pub left : (i j : ℕ) → Entry (length unknowns) i j → c ≤ j → get_or m' (source_of n unknowns i j) nan ≡ get_or m (source_of n unknowns i j) nan

pub none_moved : (n : ℕ) (unknowns : List ℕ) (m : List Float) → ColumnsMoved n unknowns m 0 m
none_moved n unknowns m = record { done = λ i j e h. absurd (omega arith); left = λ i j e h. refl }

module _ (n : ℕ) (unknowns : List ℕ) (u : Unknowns n unknowns) where
  abbrev p : ℕ
  p = length unknowns

  abbrev target : ℕ → ℕ → ℕ
  target = packed_place p

  abbrev source : ℕ → ℕ → ℕ
  source = source_of n unknowns

  pub order_le : p ≤ n
  order_le = rising_length unknowns n u.rising u.below

  pub entry_of : (i j : ℕ) → Entry p i j → Entry n (get_or unknowns i 0) (get_or unknowns j 0)
  entry_of = rising_entry unknowns n u.rising u.below

  source_below : (i j : ℕ) → Entry p i j → source i j < triangle n
  source_below i j e = (packed_bijection n).below (get_or unknowns i 0) (get_or unknowns j 0) (entry_of i j e)

  pub all_moved : (m m' : List Float) → length m' ≡ triangle n → ColumnsMoved n unknowns m p m' → Fresh unknowns n m (take (triangle p) m')
  all_moved m m' size moved =
      record {
        size = length-take-le (triangle p) m' (omega (arith, triangle_mono p n order_le));
        entries = λ i j e.
            get_or-take (triangle p) m' (target i j) nan ((packed_bijection p).below i j e) ∙ moved.done i j e (omega (arith, e.lower, e.inside));
      }

  -- ---- column c

  module _ (c base to : ℕ) (inside : c < p) (first : base + get_or unknowns c 0 ≡ source c c) (start : to ≡ block_start p c) where
    abbrev rows : List ℕ
    rows = take (p - c) (drop c unknowns)

    rest : PartOf unknowns rows c
    rest = part_slice unknowns c (p - c) (omega arith)

    all : c + length rows ≡ p
    all = omega (arith, length_slice unknowns c (p - c) (omega arith))

    at_row : (i : ℕ) → Entry p i c → base + get_or unknowns i 0 ≡ source i c
    at_row i e =
        omega (arith, first, packed_place_rows n (get_or unknowns c 0) (get_or unknowns i 0) (get_or unknowns c 0) (entry_of i c e).lower, (entry_of i c e).lower)

    to_row : (i : ℕ) → Entry p i c → to + (i - c) ≡ target i c
    to_row i e = omega (arith, start, packed_place_column p i c e.lower (omega arith))

    row : (k : ℕ) → k < length rows → Entry p (c + k) c
    row k h = record { lower = omega arith; inside = omega (arith, all) }

    pub next_start : to + length rows ≡ block_start p (c + 1)
    next_start = omega (arith, all, start, block_start_next p c inside)

    pub column_ahead : Ahead rows base to (triangle n)
    column_ahead =
        record {
          room = omega (arith, next_start, block_start_le p (c + 1) (omega arith), triangle_mono p n order_le);
          inside = λ k h. omega (arith, rest.same k h, at_row (c + k) (row k h), source_below (c + k) c (row k h));
          ahead = λ k h.
              omega (
                arith,
                rest.same k h,
                at_row (c + k) (row k h),
                to_row (c + k) (row k h),
                rising_forward unknowns n u.rising u.below (c + k) c (row k h),
              );
        }

    pub column_moved :
        (m m' m'' : List Float) → ColumnsMoved n unknowns m c m' → Filled nan to (length rows) (rows_at m' rows base) m' m'' → ColumnsMoved n unknowns m (c + 1) m''
    column_moved m m' m'' before filled = record { done = done; left = left }
      where
        done : (i j : ℕ) → Entry p i j → j < c + 1 → get_or m'' (target i j) nan ≡ get_or m (source i j) nan
        done i j e h =
            elim (dec_lt j c) [
              | yes q ↦ filled.before (target i j) (omega (arith, start, packed_place_lt p c i j e q (omega arith))) ∙ before.done i j e q
              | no q ↦
                  let same : j ≡ c = omega arith in
                  let e' : Entry p i c = rw (← same) e in
                  let back : c + (i - c) ≡ i = omega (arith, e'.lower) in
                  rw same
                  (ap (λ x. get_or m'' x nan) (sym (to_row i e'))
                  ∙ filled.inside (i - c) (omega (arith, all, e'.lower, e'.inside))
                  ∙ ap (λ x. get_or m' (base + x) nan) (rest.same (i - c) (omega (arith, all, e'.lower, e'.inside)) ∙ ap (λ x. get_or unknowns x 0) back)
                  ∙ ap (λ x. get_or m' x nan) (at_row i e')
                  ∙ before.left i c e' (omega arith))
            ]

        left : (i j : ℕ) → Entry p i j → c + 1 ≤ j → get_or m'' (source i j) nan ≡ get_or m (source i j) nan
        left i j e h =
            filled.after (source i j)
            (omega (
              arith,
              next_start,
              block_start_mono p (c + 1) j h (omega (arith, e.lower, e.inside)),
              packed_place_column p i j e.lower (omega (arith, e.lower, e.inside)),
              rising_forward unknowns n u.rising u.below i j e,
            ))
            ∙ before.left i j e (omega arith)
