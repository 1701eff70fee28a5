-- Document 02, (h): the two converters, between packed memory and rectangular full packed memory of a form. The source and the state do not change.
use Rattle.std.specs.Prelude.{ℕ, ◌≡◌, cond, List, [], ◌∷◌, T, length, Float}
use Rattle.shape.specs.Places.{packed_place, rfp_place}
use Rattle.shape.specs.declared.Shape.{Shape}
use Rattle.calls.specs.declared.Verdict.{Verdict}
use Rattle.calls.specs.declared.CallResult.{CallResult}
use Rattle.calls.specs.declared.Conversion.{Conversion}
use Rattle.calls.specs.declared.Conversion.TheVariants.{PackedToRfp, RfpToPacked}
use Rattle.calls.specs.declared.Call.TheVariants.{Converter}
use Rattle.calls.specs.Triangles.{transfer}
use Rattle.calls.specs.Refusals.{success, accepted, first_refusal, rule1, rule2, rule17, rule15, rule3}
use Rattle.calls.specs.Calls.{result_of, succeeded}

abbrev pub reverse : Conversion → Conversion
reverse PackedToRfp = RfpToPacked
reverse RfpToPacked = PackedToRfp

-- where the source and the target keep an entry
abbrev pub source_place : Conversion → ℕ → ℕ → ℕ → ℕ → ℕ
source_place PackedToRfp form n = packed_place n
source_place RfpToPacked form n = rfp_place form n

abbrev pub target_place : Conversion → ℕ → ℕ → ℕ → ℕ → ℕ
target_place conversion = source_place (reverse conversion)

unfoldable pub converter_checks : ℕ → Shape → ℕ → ℕ → Verdict
converter_checks form shape source_length target_length =
    let n = shape.order in
    first_refusal
    (rule1 n ∷ rule2 Converter shape.block ∷ rule17 form ∷ rule15 Converter shape.state ∷ rule3 n source_length ∷ rule3 n target_length ∷ [])

-- what a converter returns and leaves; it alters no source
pub record Converted : Type 0 where
  pub result : CallResult
  pub target : List Float

pub record ConvertedAs (d : Converted) (r : CallResult) (target' : List Float) : Type 0 where
  pub result : r ≡ d.result
  pub target : target' ≡ d.target

unfoldable pub convert : Conversion → ℕ → Shape → List Float → List Float → Converted
convert conversion form shape source target =
    let n = shape.order in
    let checks = converter_checks form shape (length source) (length target) in
    cond (accepted checks)
    (record {
      result = result_of Converter shape success;
      target = transfer (source_place conversion form n) (target_place conversion form n) n source target;
    })
    (record { result = result_of Converter shape checks; target = target })

-- ---- what is proved of it

-- the shape that is returned is the one handed in, whatever the answer
abbrev pub ShapeStays : Type 0
ShapeStays = (conversion : Conversion) (form : ℕ) (shape : Shape) (source target : List Float) → (convert conversion form shape source target).result.shape ≡ shape

-- The target is written whole: what it held does not matter.
abbrev pub WritesWhole : Type 0
WritesWhole =
    (conversion : Conversion) (form : ℕ) (shape : Shape) (source target target' : List Float) →
    length target ≡ length target' →
    T (succeeded (convert conversion form shape source target).result) →
    convert conversion form shape source target ≡ convert conversion form shape source target'

-- Each direction undoes the other, over both forms and both parities: into any memory of the source's length.
abbrev pub Undoes : Type 0
Undoes =
    (conversion : Conversion) (form : ℕ) (shape : Shape) (source target other : List Float) →
    length other ≡ length source →
    let there = convert conversion form shape source target in
    T (succeeded there.result) →
    convert (reverse conversion) form there.result.shape there.target other ≡ record { result = there.result; target = source }
