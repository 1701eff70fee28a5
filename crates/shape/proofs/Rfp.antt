-- Rectangular full packed order. Every position of the array holds one entry, that which document 02 names, so that each form is a layout, for every n;
-- and places from row to row and column to column. Assumes nothing.
use mathlib.Core.Path.{◌≡◌, refl, sym, ap, ap₂, ◌∙◌}
use mathlib.Core.Logic.{◌≢◌}
use Prim.Native.Nat.{ℕ, zero, suc, ◌+◌, ◌-◌, ◌*◌, ◌/◌, ◌%◌, ◌≤◌, ◌<◌}
use native.Mathlib.Decide.{dec_lt, ℕ_discrete}
use native.Mathlib.Omega.{arith}
use borrow.Author.Tests.{lt-ltb, le-ltb, ne_eqb}
use Rattle.shape.specs.Places.{triangle, rfp_rows, rfp_columns, rfp_row, rfp_column, rfp_place}
use Rattle.shape.specs.Layouts.{Entry, Bijection, Holds, RectangularFullPacked}
use Rattle.shape.proofs.Parts.{starts, starts_lt, starts_apart, starts_onto, InPart}
use Rattle.shape.proofs.Columns.{triangle_exact}

-- ---- an array of b columns with a rows each, one column after another

constant_starts : (a k : ℕ) → starts (λ c. a) k ≡ k * a
unfolding starts
constant_starts a zero = omega arith
constant_starts a (suc k) = omega (arith, constant_starts a k)

-- each position of the array is that of one entry
record Positions (n a b : ℕ) (row column : ℕ → ℕ → ℕ) : Type 0 where
  size : b * a ≡ triangle n
  inside : (i j : ℕ) → Entry n i j → (row i j < a) × (column i j < b)
  apart : (i j i' j' : ℕ) → Entry n i j → Entry n i' j' → row i j ≡ row i' j' → column i j ≡ column i' j' → (i ≡ i') × (j ≡ j')
  every : (r c : ℕ) → r < a → c < b → (i : ℕ) × (j : ℕ) × Entry n i j × (row i j ≡ r) × (column i j ≡ c)

module _ (n a b : ℕ) (row column : ℕ → ℕ → ℕ) (ps : Positions n a b row column) where
  abbrev place : ℕ → ℕ → ℕ
  place i j = column i j * a + row i j

  positions_below : (i j : ℕ) → Entry n i j → place i j < triangle n
  positions_below i j e =
      let at = ps.inside i j e in
      omega (
        arith,
        ps.size,
        constant_starts a (column i j),
        constant_starts a b,
        starts_lt (λ c. a) (column i j) b (row i j) at.1 at.0,
      )

  positions_apart : (i j i' j' : ℕ) → Entry n i j → Entry n i' j' → place i j ≡ place i' j' → (i ≡ i') × (j ≡ j')
  positions_apart i j i' j' e e' p =
      let same : (column i j ≡ column i' j') × (row i j ≡ row i' j') =
      starts_apart (λ c. a) (column i j) (column i' j') (row i j) (row i' j') (ps.inside i j e).0 (ps.inside i' j' e').0
      (omega (arith, p, constant_starts a (column i j), constant_starts a (column i' j')))
      in
      ps.apart i j i' j' e e' same.1 same.0

  positions_onto : (p : ℕ) → p < triangle n → (i : ℕ) × (j : ℕ) × Entry n i j × (place i j ≡ p)
  positions_onto p h =
      let at : InPart (λ c. a) b p = starts_onto (λ c. a) b p (omega (arith, ps.size, constant_starts a b)) in
      let held = ps.every at.s at.k at.inside at.part in (
        held.0,
        held.1,
        held.2,
        ap (λ c. c * a + row held.0 held.1) held.4
            ∙ ap (λ r. at.k * a + r) held.3
            ∙ ap (λ s. s + at.s) (sym (constant_starts a at.k))
            ∙ at.place,
      )

  positions_bijection : (place' : ℕ → ℕ → ℕ) → ((i j : ℕ) → place' i j ≡ place i j) → Bijection place' n
  positions_bijection place' same =
      record {
        below = λ i j e. omega (arith, same i j, positions_below i j e);
        apart = λ i j i' j' e e' p. positions_apart i j i' j' e e' (sym (same i j) ∙ p ∙ same i' j');
        onto = λ p h. let at = positions_onto p h in (at.0, at.1, at.2, same at.0 at.1 ∙ at.3);
      }

-- ---- the array's size, n being 2k + o

pub rfp_rows_half : (n : ℕ) → rfp_rows n ≡ 2 * (n / 2) + 1
unfolding rfp_rows
rfp_rows_half n = omega arith

pub rfp_columns_half : (n : ℕ) → rfp_columns n + n / 2 ≡ n
unfolding rfp_columns
rfp_columns_half n = omega arith

area : (k c n t : ℕ) → c + k ≡ n → k ≤ c → c ≤ k + 1 → 2 * t ≡ n * (n + 1) → c * (2 * k + 1) ≡ t
area k c n t order low high exact =
    elim (dec_lt k c) [
      | yes odd ↦
          let columns : c ≡ k + 1 = omega arith in
          let whole : n ≡ 2 * k + 1 = omega arith in
          rw columns (omega (arith, rw whole at exact))
      | no even ↦
          let columns : c ≡ k = omega arith in
          let whole : n ≡ 2 * k = omega arith in
          rw columns (omega (arith, rw whole at exact))
    ]

rfp_area : (n : ℕ) → rfp_columns n * rfp_rows n ≡ triangle n
unfolding rfp_columns
rfp_area n = rw (rfp_rows_half n) (area (n / 2) (rfp_columns n) n (triangle n) (omega arith) (omega arith) (omega arith) (triangle_exact n))

-- ---- positions

module _ (n i j : ℕ) where
  -- the array's own columns
  pub own_row : j < rfp_columns n → rfp_row n i j ≡ i + 1 - n % 2
  unfolding rfp_row
  own_row h = rw (lt-ltb j (rfp_columns n) h)

  pub own_column : j < rfp_columns n → rfp_column n i j ≡ j
  unfolding rfp_column
  own_column h = rw (lt-ltb j (rfp_columns n) h)

  -- the others
  pub other_row : rfp_columns n ≤ j → rfp_row n i j ≡ j - rfp_columns n
  unfolding rfp_row
  other_row h = rw (le-ltb j (rfp_columns n) h)

  pub other_column : rfp_columns n ≤ j → rfp_column n i j ≡ i - n / 2
  unfolding rfp_column
  other_column h = rw (le-ltb j (rfp_columns n) h)

module _ (n : ℕ) where
  rfp_inside : (i j : ℕ) → Entry n i j → (rfp_row n i j < rfp_rows n) × (rfp_column n i j < rfp_columns n)
  rfp_inside i j e =
      elim (dec_lt j (rfp_columns n)) [
        | yes own ↦ omega (arith, own_row n i j own, own_column n i j own, rfp_rows_half n)
        | no other ↦
            let past : rfp_columns n ≤ j = omega arith in
            omega (arith, other_row n i j past, other_column n i j past, rfp_rows_half n, rfp_columns_half n)
      ]

  -- under the diagonal of the array stand its own columns, above it the others
  own_under : (i j : ℕ) → Entry n i j → j < rfp_columns n → rfp_column n i j + 1 ≤ rfp_row n i j + n % 2
  own_under i j e own = omega (arith, own_row n i j own, own_column n i j own)

  other_above : (i j : ℕ) → Entry n i j → rfp_columns n ≤ j → rfp_row n i j + n % 2 ≤ rfp_column n i j
  unfolding rfp_columns
  other_above i j e past = omega (arith, other_row n i j past, other_column n i j past)

  rfp_apart :
      (i j i' j' : ℕ) → Entry n i j → Entry n i' j' → rfp_row n i j ≡ rfp_row n i' j' → rfp_column n i j ≡ rfp_column n i' j' → (i ≡ i') × (j ≡ j')
  rfp_apart i j i' j' e e' r c = go (dec_lt j (rfp_columns n)) (dec_lt j' (rfp_columns n))
    where
      go : Dec (j < rfp_columns n) → Dec (j' < rfp_columns n) → (i ≡ i') × (j ≡ j')
      go (yes p) (yes q) = omega (arith, own_row n i j p, own_column n i j p, own_row n i' j' q, own_column n i' j' q)
      go (yes p) (no q) = absurd (omega (arith, own_under i j e p, other_above i' j' e' (omega arith)))
      go (no p) (yes q) = absurd (omega (arith, own_under i' j' e' q, other_above i j e (omega arith)))
      go (no p) (no q) =
          let past : rfp_columns n ≤ j = omega arith in
          let past' : rfp_columns n ≤ j' = omega arith in
          omega (
            arith,
            rfp_columns_half n,
            other_row n i j past,
            other_column n i j past,
            other_row n i' j' past',
            other_column n i' j' past',
          )

  rfp_every :
      (r c : ℕ) → r < rfp_rows n → c < rfp_columns n → (i : ℕ) × (j : ℕ) × Entry n i j × (rfp_row n i j ≡ r) × (rfp_column n i j ≡ c)
  rfp_every r c h h' = go (dec_lt c (r + n % 2))
    where
      go : Dec (c < r + n % 2) → (i : ℕ) × (j : ℕ) × Entry n i j × (rfp_row n i j ≡ r) × (rfp_column n i j ≡ c)
      go (yes under) =
          let i : ℕ = r + n % 2 - 1 in
          let entry : Entry n i c = omega (arith, rfp_rows_half n) in
          (i, c, entry, omega (arith, own_row n i c h'), own_column n i c h')
      go (no above) =
          let i : ℕ = n / 2 + c in
          let j : ℕ = rfp_columns n + r in
          let past : rfp_columns n ≤ j = omega arith in
          let entry : Entry n i j = omega (arith, rfp_columns_half n) in
          (i, j, entry, omega (arith, other_row n i j past), omega (arith, other_column n i j past))

-- ---- places

module _ (n i j : ℕ) where
  pub form_0 : rfp_place 0 n i j ≡ rfp_column n i j * rfp_rows n + rfp_row n i j
  unfolding rfp_place
  form_0 = refl

  pub form_1 : (form : ℕ) → form ≢ 0 → rfp_place form n i j ≡ rfp_row n i j * rfp_columns n + rfp_column n i j
  unfolding rfp_place
  form_1 form h = rw (ne_eqb form 0 h)

rfp_positions : (n : ℕ) → Positions n (rfp_rows n) (rfp_columns n) (rfp_row n) (rfp_column n)
rfp_positions n = record { size = rfp_area n; inside = rfp_inside n; apart = rfp_apart n; every = rfp_every n }

transposed : (n : ℕ) → Positions n (rfp_columns n) (rfp_rows n) (rfp_column n) (rfp_row n)
transposed n =
    record {
      size = omega (arith, rfp_area n);
      inside = λ i j e. let at = rfp_inside n i j e in (at.1, at.0);
      apart = λ i j i' j' e e' c r. rfp_apart n i j i' j' e e' r c;
      every = λ c r h h'. let at = rfp_every n r c h' h in (at.0, at.1, at.2, at.4, at.3);
    }

-- both forms and both parities
pub rfp_bijection : (form n : ℕ) → Bijection (rfp_place form n) n
rfp_bijection form n =
    elim (ℕ_discrete form 0) [
      | yes normal ↦
          rw normal (positions_bijection n (rfp_rows n) (rfp_columns n) (rfp_row n) (rfp_column n) (rfp_positions n) (rfp_place 0 n) (form_0 n))
      | no transpose ↦
          positions_bijection n (rfp_columns n) (rfp_rows n) (rfp_column n) (rfp_row n) (transposed n) (rfp_place form n)
          (λ i j. form_1 n i j form transpose)
    ]

holds :
    (n rows columns r c i j : ℕ) → rfp_rows n ≡ rows → rfp_columns n ≡ columns → Entry n i j → rfp_row n i j ≡ r → rfp_column n i j ≡ c →
    Holds n rows columns r c i j
holds n rows columns r c i j height width e row column =
    record {
      entry = e;
      form0 = omega (arith, form_0 n i j ∙ ap₂ (λ q a. q * a + rfp_row n i j) column height, row);
      form1 = omega (arith, form_1 n i j 1 (λ h. omega arith) ∙ ap₂ (λ q b. q * b + rfp_column n i j) row width, column);
    }

pub rectangular_full_packed : (k : ℕ) → RectangularFullPacked k
unfolding rfp_rows rfp_columns
rectangular_full_packed k =
    record {
      even_lower = λ r c h h' under.
          let own : c < rfp_columns (2 * k) = omega arith in
          holds (2 * k) (2 * k + 1) k r c (r - 1) c (omega arith) (omega arith) (omega arith) (omega (arith, own_row (2 * k) (r - 1) c own)) (own_column (2 * k) (r - 1) c own);
      even_upper = λ r c h h' above.
          let past : rfp_columns (2 * k) ≤ k + r = omega arith in
          holds (2 * k) (2 * k + 1) k r c (k + c) (k + r) (omega arith) (omega arith) (omega arith) (omega (arith, other_row (2 * k) (k + c) (k + r) past))
          (omega (arith, other_column (2 * k) (k + c) (k + r) past));
      odd_lower = λ r c h h' under.
          let own : c < rfp_columns (2 * k + 1) = omega arith in
          holds (2 * k + 1) (2 * k + 1) (k + 1) r c r c (omega arith) (omega arith) (omega arith) (omega (arith, own_row (2 * k + 1) r c own)) (own_column (2 * k + 1) r c own);
      odd_upper = λ r c h h' above.
          let past : rfp_columns (2 * k + 1) ≤ k + 1 + r = omega arith in
          holds (2 * k + 1) (2 * k + 1) (k + 1) r c (k + c) (k + 1 + r) (omega arith) (omega arith) (omega arith) (omega (arith, other_row (2 * k + 1) (k + c) (k + 1 + r) past))
          (omega (arith, other_column (2 * k + 1) (k + c) (k + 1 + r) past));
    }

-- ---- from entry (i, j) to entry (i + x, j + y) in the same half of the columns

module _ (n i j x y : ℕ) where
  pub own_along : j + y < rfp_columns n → (rfp_row n (i + x) (j + y) ≡ rfp_row n i j + x) × (rfp_column n (i + x) (j + y) ≡ rfp_column n i j + y)
  own_along h =
      let here : j < rfp_columns n = omega arith in
      omega (
        arith,
        own_row n i j here,
        own_column n i j here,
        own_row n (i + x) (j + y) h,
        own_column n (i + x) (j + y) h,
      )

  pub other_along :
      rfp_columns n ≤ j → j ≤ i → (rfp_row n (i + x) (j + y) ≡ rfp_row n i j + y) × (rfp_column n (i + x) (j + y) ≡ rfp_column n i j + x)
  unfolding rfp_columns
  other_along h low =
      let there : rfp_columns n ≤ j + y = omega arith in
      omega (
        arith,
        other_row n i j h,
        other_column n i j h,
        other_row n (i + x) (j + y) there,
        other_column n (i + x) (j + y) there,
      )
