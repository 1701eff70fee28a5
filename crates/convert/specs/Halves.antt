-- Between packed order and rectangular full packed order of a form, one half of the columns stands by columns in both, the other half by columns in packed
-- order and by rows in the other.
use Rattle.std.specs.Prelude.{ℕ, ◌+◌, ◌*◌, ◌≤◌, ◌<◌, ◌≡◌, cond, List, eqb, length, Float}
use Rattle.shape.specs.Places.{triangle, rfp_rows, rfp_columns, rfp_place}
use Rattle.shape.specs.Layouts.{Entry}
use Rattle.calls.specs.declared.Conversion.{Conversion}
use Rattle.calls.specs.declared.Conversion.TheVariants.{PackedToRfp, RfpToPacked}
use Rattle.calls.specs.Conversions.{reverse, source_place, target_place}
use Rattle.kernels.specs.Transfers.{Transferred}

-- the length of the columns of the form's array
unfoldable pub stride : ℕ → ℕ → ℕ
stride form n = cond (eqb form 0) (rfp_rows n) (rfp_columns n)

-- columns left .. right − 1 stand by columns
abbrev pub ByColumns : ℕ → ℕ → ℕ → ℕ → Type 0
ByColumns form n left right =
    (i j x : ℕ) → left ≤ j → j < right → Entry n i j → rfp_place form n (i + x) j ≡ rfp_place form n i j + x

-- they stand by rows, `stride` places from row to row
abbrev pub ByRows : ℕ → ℕ → ℕ → ℕ → Type 0
ByRows form n left right =
    (i j x y : ℕ) → left ≤ j → j + y < right → Entry n i j → rfp_place form n (i + x) (j + y) ≡ rfp_place form n i j + x * stride form n + y

-- both memories hold the triangle
abbrev pub Held : ℕ → List Float → List Float → Type 0
Held n source target = (length source ≡ triangle n) × (length target ≡ triangle n)

-- of a number for packed order and one for rectangular full packed order, that of the source and that of the target
abbrev pub source_end : Conversion → ℕ → ℕ → ℕ
source_end PackedToRfp packed rfp = packed
source_end RfpToPacked packed rfp = rfp

abbrev pub target_end : Conversion → ℕ → ℕ → ℕ
target_end conversion = source_end (reverse conversion)

-- the entries of rows first .. end − 1 and columns left .. right − 1 were moved
abbrev pub Moved : Conversion → ℕ → ℕ → ℕ → ℕ → ℕ → ℕ → List Float → List Float → List Float → Type 0
Moved conversion form n first end left right source target target' =
    Transferred (source_place conversion form n) (target_place conversion form n) (Entry n) first end left right source target target'
