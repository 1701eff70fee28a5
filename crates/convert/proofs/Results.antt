-- What a converter returns and leaves, from the result of its checks and from its moves. Assumes nothing.
use mathlib.Core.Path.{◌≡◌, refl, ap, ◌∙◌}
use mathlib.Core.Bool.{false}
use mathlib.Core.List.{List}
use Prim.Native.Nat.{ℕ}
use native.Mathlib.Omega.{arith}
use lib.ListN.{length}
use lib.Ieee.{Float}
use Rattle.shape.specs.declared.Shape.{Shape}
use Rattle.calls.specs.declared.outcomes.Refusal.{Refusal}
use Rattle.calls.specs.declared.Conversion.{Conversion}
use Rattle.calls.specs.declared.Call.TheVariants.{Converter}
use Rattle.calls.specs.Triangles.{transfer}
use Rattle.calls.specs.Refusals.{success, accepted}
use Rattle.calls.specs.Outcomes.{verdict_of_refusal}
use Rattle.calls.specs.Calls.{result_of}
use Rattle.calls.specs.Conversions.{source_place, target_place, converter_checks, ConvertedAs, convert}
use Rattle.calls.proofs.Rearranging.{transfer_entries}
use Rattle.calls.proofs.Conversions.{target_bijection, ConverterAccepted, converter_accepted, convert_refused, convert_passed}
use Rattle.calls.proofs.OutcomeLaws.{not_accepted}
use Rattle.convert.specs.Halves.{Held, Moved}

-- all entries moved
pub moved_all :
    (conversion : Conversion) (form n : ℕ) (source target t : List Float) → Held n source target → length t ≡ length target →
    Moved conversion form n 0 n 0 n source target t →
    t ≡ transfer (source_place conversion form n) (target_place conversion form n) n source target
moved_all conversion form n source target t held same m =
    transfer_entries (source_place conversion form n) (target_place conversion form n) n (target_bijection conversion form n) source target held.1 t
    (same ∙ held.1) (λ i j e. m.moved i j e (omega arith) e.inside (omega arith) (omega (arith, e.lower, e.inside)))

module _ (conversion : Conversion) (form : ℕ) (shape : Shape) (source target : List Float) where
  pub refused_done :
      (r : Refusal) → verdict_of_refusal r ≡ converter_checks form shape (length source) (length target) →
      ConvertedAs (convert conversion form shape source target) (result_of Converter shape (verdict_of_refusal r)) target
  refused_done r refused =
      let g : accepted (converter_checks form shape (length source) (length target)) ≡ false = rw (← refused) (not_accepted r) in
      rw (convert_refused conversion form shape source target g) (record { result = ap (result_of Converter shape) refused; target = refl })

  -- past the checks
  module _ (passed : success ≡ converter_checks form shape (length source) (length target)) where
    pub accepted_sizes : ConverterAccepted form shape (length source) (length target)
    accepted_sizes = converter_accepted form shape (length source) (length target) (rw (← passed) tt)

    pub accepted_done :
        {target' : List Float} →
        target' ≡ transfer (source_place conversion form shape.order) (target_place conversion form shape.order) shape.order source target →
        ConvertedAs (convert conversion form shape source target) (result_of Converter shape success) target'
    accepted_done written =
        rw (convert_passed conversion form shape source target accepted_sizes) (record { result = refl; target = written })
