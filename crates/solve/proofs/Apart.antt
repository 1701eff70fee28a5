-- Rows below a triangle, eight at a time, one of each eighth. Assumes nothing.
use Prim.Native.Nat.{ℕ, zero, suc, ◌+◌, ◌-◌, ◌*◌, ◌≤◌, ◌<◌}
use native.Mathlib.Nat.{zero-mul, suc-mul, mul_assoc, mul-le-mul_right, add-zero}
use native.Mathlib.Omega.{arith}
use native.Mathlib.Decide.{dec_lt}
use mathlib.Core.Path.{◌≡◌, refl, sym, ap, ◌∙◌}
use mathlib.Core.List.{List}
use lib.ListN.{length, get_or, take}
use lib.Ieee.{Float, nan}
use Rattle.calls.specs.Arithmetic.{minus_products}
use Rattle.calls.proofs.Columns.{products_same}
use Rattle.kernels.specs.Kernels.{Scattered, rising_from}
use Rattle.kernels.proofs.Products.{rising_prefix}
use Rattle.solve.specs.declared.block_column.BlockColumn.{BlockColumn}
use Rattle.solve.specs.Parts.{block_entries}
use Rattle.solve.specs.Substitution.{RowsApart, RowsSubtracted}
use Rattle.solve.proofs.BlockPlaces.{row_place, room, row_entries, room_under, next_under}

-- ---- numbers as i + s · q, i below q

record Split (q m r : ℕ) : Type 0 where
  s : ℕ
  i : ℕ
  few : s < m
  short : i < q
  sum : i + s * q ≡ r

split : (q m r : ℕ) → r < m * q → Split q m r
split q zero r h = absurd (omega (arith, zero-mul q))
split q (suc m) r h =
    elim (dec_lt r (m * q)) [
      | yes p ↦
          let below = split q m r p in
          record { s = below.s; i = below.i; few = omega (arith, below.few); short = below.short; sum = below.sum }
      | no p ↦ record { s = m; i = r - m * q; few = omega arith; short = omega (arith, suc-mul m q); sum = omega arith }
    ]

apart_le : (q s s' : ℕ) → s < s' → s * q + q ≤ s' * q
apart_le q s s' less = omega (arith, suc-mul s q, mul-le-mul_right {m = suc s} {n = s'} q (omega arith))

pub apart_same : (q s s' i i' : ℕ) → i < q → i' < q → i + s * q ≡ i' + s' * q → (s ≡ s') × (i ≡ i')
apart_same q s s' i i' h h' e =
    elim (dec_lt s s') [
      | yes p ↦ absurd (omega (arith, apart_le q s s' p))
      | no p ↦
          elim (dec_lt s' s) [
            | yes p' ↦ absurd (omega (arith, apart_le q s' s p'))
            | no p' ↦
                let same : s ≡ s' = omega arith in
                (same, omega (arith, ap (λ k. k * q) same))
          ]
    ]

-- a row of an eighth is before the last eighth's end
pub apart_inside : (q s t : ℕ) → s < 8 → t < q → t + s * q < 8 * q
apart_inside q s t few short = omega (arith, apart_le q s 8 few)

-- ---- where rows begin

module _ (block : BlockColumn) where
  abbrev width : ℕ
  width = block.skip + block.w

  place_apart : (r k : ℕ) → block.w ≤ r → row_place block (r + k) ≡ row_place block r + k * width
  place_apart r zero low = rw (add-zero r) (omega (arith, zero-mul width))
  place_apart r (suc k) low =
      let next : r + k + 1 ≡ r + suc k = omega arith in
      sym (ap (row_place block) next) ∙ next_under block (r + k) block.skip (omega arith) ∙ omega (arith, place_apart r k low, suc-mul k width)

  pub step_le : (q : ℕ) → block.w + q < block.h → q * width ≤ room block
  step_le q fits =
      omega (arith, place_apart block.w q (omega arith), room_under block (block.w + q) (omega arith) (omega arith))

  pub place_apart8 :
      (q t s from : ℕ) → from ≡ row_place block (block.w + t) → from + s * (q * width) ≡ row_place block (block.w + t + s * q)
  place_apart8 q t s from place = omega (arith, sym (mul_assoc s q width), place_apart (block.w + t) (s * q) (omega arith))

-- ---- eight rows

module _ (block : BlockColumn) (q t : ℕ) (v : List Float) where
  pub apart8_done :
      (loaded reduced v' : List Float) (places rows : ℕ → ℕ) → block.w ≤ length v → ((s : ℕ) → s < 8 → rows s ≡ block.w + t + s * q) →
      ((s : ℕ) → s < 8 → get_or loaded s nan ≡ get_or v (rows s + 0) nan) → ((s : ℕ) → s < 8 → places s ≡ row_place block (block.w + t + s * q)) →
      ((s : ℕ) → s < 8 → get_or reduced s nan ≡ rising_from block.part.now (places s) (take block.w v) (length (take block.w v)) (get_or loaded s nan)) →
      Scattered 8 (λ s. rows s + 0) (λ s. get_or reduced s nan) v v' → RowsApart (block_entries block) block.w q t v v'
  apart8_done loaded reduced v' places rows fits placed load begins reduce scattered =
      record {
        size = scattered.size;
        inside = λ s few.
            ap (λ p. get_or v' p nan) (sym (position s few))
            ∙ scattered.inside s few
            ∙ reduce s few
            ∙ rising_prefix (λ k. block_entries block (block.w + t + s * q) k) block.part.now v (places s) block.w (get_or loaded s nan) fits
            (λ k p. row_entries block (block.w + t + s * q) (places s) k (begins s few))
            ∙ ap (minus_products (λ k. block_entries block (block.w + t + s * q) k) (λ k. get_or v k nan) block.w)
            (load s few ∙ ap (λ p. get_or v p nan) (position s few));
        outside = λ p none. scattered.outside p (λ s few e. none s few (e ∙ position s few));
      }
    where
      position : (s : ℕ) → s < 8 → rows s + 0 ≡ block.w + t + s * q
      position s few = omega (arith, placed s few)

-- ---- all rows of the eighths

module _ (coefficient : ℕ → ℕ → Float) (w q : ℕ) where
  -- a row less its products
  abbrev less : List Float → ℕ → Float
  less v r = minus_products (λ k. coefficient r k) (λ k. get_or v k nan) w (get_or v r nan)

  -- the first t rows of each eighth are done
  pub record EighthsDone (t : ℕ) (v v' : List Float) : Type 0 where
    pub size : length v' ≡ length v
    pub done : (s i : ℕ) → s < 8 → i < t → get_or v' (w + i + s * q) nan ≡ less v (w + i + s * q)
    pub later : (s i : ℕ) → s < 8 → t ≤ i → i < q → get_or v' (w + i + s * q) nan ≡ get_or v (w + i + s * q) nan
    pub before : (r : ℕ) → r < w → get_or v' r nan ≡ get_or v r nan
    pub after : (r : ℕ) → w + 8 * q ≤ r → get_or v' r nan ≡ get_or v r nan

  pub eighths_none : (v : List Float) → EighthsDone 0 v v
  eighths_none v =
      record {
        size = refl;
        done = λ s i few less. absurd (omega arith);
        later = λ s i few low high. refl;
        before = λ r h. refl;
        after = λ r h. refl;
      }

  module _ (t : ℕ) (v₀ v v' : List Float) (inside : t < q) (so : EighthsDone t v₀ v) (rows : RowsApart coefficient w q t v v') where
    other : (s i : ℕ) → i < q → (i ≡ t → ⊥) → get_or v' (w + i + s * q) nan ≡ get_or v (w + i + s * q) nan
    other s i short apart =
        rows.outside (w + i + s * q) (λ s' few e. apart (apart_same q s s' i t short inside (omega arith)).1)

    here : (s : ℕ) → s < 8 → get_or v' (w + t + s * q) nan ≡ less v₀ (w + t + s * q)
    here s few =
        rows.inside s few
        ∙ ap (minus_products (λ k. coefficient (w + t + s * q) k) (λ k. get_or v k nan) w) (so.later s t few (omega arith) inside)
        ∙ products_same (λ k. coefficient (w + t + s * q) k) (λ k. coefficient (w + t + s * q) k) (λ k. get_or v k nan) (λ k. get_or v₀ k nan) w
        (get_or v₀ (w + t + s * q) nan) (λ k p. refl) (λ k p. so.before k p)

    pub eighths_next : EighthsDone (t + 1) v₀ v'
    eighths_next =
        record {
          size = rows.size ∙ so.size;
          done = λ s i few short.
              elim (dec_lt i t) [
                | yes p ↦ other s i (omega arith) (λ e. omega arith) ∙ so.done s i few p
                | no p ↦
                    let same : i ≡ t = omega arith in
                    rw same (here s few)
              ];
          later = λ s i few low high. other s i high (λ e. omega arith) ∙ so.later s i few (omega arith) high;
          before = λ r h. rows.outside r (λ s few e. omega arith) ∙ so.before r h;
          after = λ r h. rows.outside r (λ s few e. omega (arith, apart_inside q s t few inside)) ∙ so.after r h;
        }

  pub eighths_all : (v v' : List Float) → EighthsDone q v v' → RowsSubtracted coefficient w w (w + 8 * q) v v'
  eighths_all v v' so =
      record {
        size = so.size;
        inside = λ r low high.
            let at = split q 8 (r - w) (omega arith) in
            let row : w + at.i + at.s * q ≡ r = omega (arith, at.sum) in
            rw row at (so.done at.s at.i at.few at.short);
        before = so.before;
        after = so.after;
      }
