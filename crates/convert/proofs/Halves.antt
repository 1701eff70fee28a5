-- Laws of specs/Halves.antt: which half stands by columns and which by rows, places in a half from row to row and column to column, and regions of entries
-- whose columns begin, or whose rows end, with the diagonal. Assumes nothing.
use Prim.Native.Nat.{ℕ, ◌+◌, ◌-◌, ◌*◌, ◌≤◌, ◌<◌}
use native.Mathlib.Nat.{add-zero}
use native.Mathlib.Omega.{arith}
use native.Mathlib.Decide.{ℕ_discrete}
use mathlib.Core.Path.{◌≡◌, refl, ap₂, ◌∙◌}
use mathlib.Core.Logic.{◌≢◌}
use mathlib.Core.List.{List}
use borrow.Author.Tests.{ne_eqb}
use lib.ListN.{length, get_or, set}
use lib.Ieee.{Float, nan}
use Rattle.shape.specs.Places.{triangle, packed_place, rfp_rows, rfp_columns, rfp_place}
use Rattle.shape.specs.Layouts.{Entry}
use Rattle.shape.proofs.Columns.{packed_place_rows, packed_place_next_row}
use Rattle.shape.proofs.Bijections.{packed_bijection}
use Rattle.shape.proofs.Rfp.{rfp_rows_half, rfp_columns_half, form_0, form_1, rfp_bijection, own_along, other_along}
use Rattle.calls.specs.declared.Conversion.{Conversion}
use Rattle.calls.specs.declared.Conversion.TheVariants.{PackedToRfp, RfpToPacked}
use Rattle.calls.specs.Conversions.{source_place, target_place}
use Rattle.calls.proofs.Conversions.{source_bijection, target_bijection}
use Rattle.kernels.proofs.Transfers.{moved_entry}
use Rattle.convert.specs.Halves.{stride, ByColumns, ByRows, Moved, source_end}

-- ---- the length of a column of the array

pub stride_0 : (n : ℕ) → stride 0 n ≡ rfp_rows n
unfolding stride
stride_0 n = refl

pub stride_1 : (form n : ℕ) → form ≢ 0 → stride form n ≡ rfp_columns n
unfolding stride
stride_1 form n h = rw (ne_eqb form 0 h)

pub stride_le : (form n : ℕ) → stride form n ≤ n + 1
unfolding stride
stride_le form n = elim (ℕ_discrete form 0) [ yes e ↦ rw e (omega (arith, rfp_rows_half n)) | no e ↦ rw (ne_eqb form 0 e) (omega (arith, rfp_columns_half n)) ]

-- ---- the halves

module _ (n : ℕ) where
  normal_columns : (i j x y : ℕ) → j + y < rfp_columns n → rfp_place 0 n (i + x) (j + y) ≡ rfp_place 0 n i j + y * rfp_rows n + x
  normal_columns i j x y h =
      let along = own_along n i j x y h in
      form_0 n (i + x) (j + y)
      ∙ ap₂ (λ c r. c * rfp_rows n + r) along.1 along.0
      ∙ omega (arith, form_0 n i j)

  normal_rows : (i j x y : ℕ) → rfp_columns n ≤ j → j ≤ i → rfp_place 0 n (i + x) (j + y) ≡ rfp_place 0 n i j + x * rfp_rows n + y
  normal_rows i j x y h low =
      let along = other_along n i j x y h low in
      form_0 n (i + x) (j + y)
      ∙ ap₂ (λ c r. c * rfp_rows n + r) along.1 along.0
      ∙ omega (arith, form_0 n i j)

  module _ (form : ℕ) (transpose : form ≢ 0) where
    transposed_rows : (i j x y : ℕ) → j + y < rfp_columns n → rfp_place form n (i + x) (j + y) ≡ rfp_place form n i j + x * rfp_columns n + y
    transposed_rows i j x y h =
        let along = own_along n i j x y h in
        form_1 n (i + x) (j + y) form transpose
        ∙ ap₂ (λ r c. r * rfp_columns n + c) along.0 along.1
        ∙ omega (arith, form_1 n i j form transpose)

    transposed_columns : (i j x y : ℕ) → rfp_columns n ≤ j → j ≤ i → rfp_place form n (i + x) (j + y) ≡ rfp_place form n i j + y * rfp_columns n + x
    transposed_columns i j x y h low =
        let along = other_along n i j x y h low in
        form_1 n (i + x) (j + y) form transpose
        ∙ ap₂ (λ r c. r * rfp_columns n + c) along.0 along.1
        ∙ omega (arith, form_1 n i j form transpose)

  pub by_columns_0 : ByColumns 0 n 0 (rfp_columns n)
  by_columns_0 i j x low high e = let at = normal_columns i j x 0 (omega arith) in omega (arith, rw (add-zero j) at at)

  pub by_rows_0 : ByRows 0 n (rfp_columns n) n
  by_rows_0 i j x y low high e = rw (stride_0 n) (normal_rows i j x y low e.lower)

  pub by_rows_1 : (form : ℕ) → form ≢ 0 → ByRows form n 0 (rfp_columns n)
  by_rows_1 form h i j x y low high e = rw (stride_1 form n h) (transposed_rows form h i j x y high)

  pub by_columns_1 : (form : ℕ) → form ≢ 0 → ByColumns form n (rfp_columns n) n
  by_columns_1 form h i j x low high e =
      let at = transposed_columns form h i j x 0 low e.lower in omega (arith, rw (add-zero j) at at)

-- ---- places

pub rfp_place_below : (form n i j : ℕ) → Entry n i j → rfp_place form n i j < triangle n
rfp_place_below form n i j e = (rfp_bijection form n).below i j e

pub packed_place_below : (n i j : ℕ) → Entry n i j → packed_place n i j < triangle n
packed_place_below n i j e = (packed_bijection n).below i j e

pub source_below : (conversion : Conversion) (form n i j : ℕ) → Entry n i j → source_place conversion form n i j < triangle n
source_below conversion form n i j e = (source_bijection conversion form n).below i j e

pub step_le : (conversion : Conversion) (form n : ℕ) → source_end conversion 1 (stride form n) ≤ n + 1
step_le PackedToRfp form n = omega arith
step_le RfpToPacked form n = stride_le form n

module _ (form n left right : ℕ) (rows : ByRows form n left right) where
  pub next_row : (i j : ℕ) → left ≤ j → j < right → Entry n i j → rfp_place form n (i + 1) j ≡ rfp_place form n i j + stride form n
  next_row i j low high e =
      let at = rows i j 1 0 low (omega arith) e in
      omega (arith, rw (add-zero j) at at)

  pub along_row : (i j y : ℕ) → left ≤ j → j + y < right → Entry n i j → rfp_place form n i (j + y) ≡ rfp_place form n i j + y
  along_row i j y low high e =
      let at = rows i j 0 y low high e in
      omega (arith, rw (add-zero i) at at)

  -- from the first column of row i on
  pub place_from_left : (i j k : ℕ)
      → left ≤ j
      → j < right
      → Entry n i left
      → rfp_place form n (i + k) j ≡ rfp_place form n i left + k * stride form n + (j - left)
  place_from_left i j k low high e =
      let column : left + (j - left) ≡ j = omega arith in
      rw column at (rows i left k (j - left) (omega arith) (omega arith) e)

  -- to the next row of a column, in source and target alike
  pub next_place :
      (conversion : Conversion) (i j : ℕ) → left ≤ j → j < right → Entry n i j →
      source_place conversion form n (i + 1) j ≡ source_place conversion form n i j + source_end conversion 1 (stride form n)
  next_place PackedToRfp i j low high e = omega (arith, packed_place_next_row n i j)
  next_place RfpToPacked i j low high e = next_row i j low high e

-- down column j, in source and target alike
pub down_column :
    (conversion : Conversion) (form n left right j k : ℕ) → ByColumns form n left right → left ≤ j → j < right → j < n →
    source_place conversion form n (j + k) j ≡ source_place conversion form n j j + k
down_column PackedToRfp form n left right j k columns low high h = omega (arith, packed_place_rows n j (j + k) j (omega arith))
down_column RfpToPacked form n left right j k columns low high h = columns j j k low high (omega arith)

pub column_fits :
    (conversion : Conversion) (form n left right j : ℕ) → ByColumns form n left right → left ≤ j → j < right → j < n →
    source_place conversion form n j j + (n - j) ≤ triangle n
column_fits conversion form n left right j columns low high h =
    let e : Entry n (j + (n - j - 1)) j = omega arith in
    omega (
      arith,
      down_column conversion form n left right j (n - j - 1) columns low high h,
      (source_bijection conversion form n).below (j + (n - j - 1)) j e,
    )

-- ---- regions

-- one entry, where p and q are its places
pub moved_at : (conversion : Conversion) (form n : ℕ) {i j p q : ℕ} {source t : List Float}
    → Entry n i j
    → triangle n ≤ length t
    → p ≡ source_place conversion form n i j
    → q ≡ target_place conversion form n i j
    → Moved conversion form n i (i + 1) j (j + 1) source t (set t q (get_or source p nan))
moved_at conversion form n {i = i} {j = j} {source = source} {t = t} e fit at_p at-q =
    rw (at_p, at-q)
    (moved_entry (source_place conversion form n) (target_place conversion form n) (Entry n) (target_bijection conversion form n).apart source t i j e
    (omega (arith, (target_bijection conversion form n).below i j e)))

module _ (conversion : Conversion) (form n : ℕ) where
  -- the rows of columns from `left` on begin with row `left`
  pub from_left : {first end left right : ℕ} {source t t' : List Float}
      → Moved conversion form n left end left right source t t'
      → Moved conversion form n first end left right source t t'
  from_left m = record { moved = λ i j e a b c d. m.moved i j e (omega (arith, e.lower)) b c d; kept = m.kept }
