-- Laws of the converters, specs/Conversions.antt: the places are bijections, what an accepted check says, and the three laws stated there. Assumes nothing.
use Prim.Native.Nat.{ℕ, ◌≤◌}
use mathlib.Core.Path.{◌≡◌, refl, sym, ap, ◌∙◌, subst}
use mathlib.Core.Bool.{Bool, true, false}
use mathlib.Core.List.{List, [], ◌∷◌}
use lib.Dec.{T}
use lib.ListN.{length}
use lib.Ieee.{Float}
use Rattle.shape.specs.Bounds.{max_order}
use Rattle.shape.specs.Places.{triangle}
use Rattle.shape.specs.Layouts.{Bijection}
use Rattle.shape.specs.declared.Shape.{Shape}
use Rattle.shape.proofs.Bijections.{packed_bijection}
use Rattle.shape.proofs.Rfp.{rfp_bijection}
use Rattle.calls.specs.declared.Verdict.{Verdict}
use Rattle.calls.specs.declared.Layout.TheVariants.{Packed}
use Rattle.calls.specs.declared.states.State.TheVariants.{Raw, Factored}
use Rattle.calls.specs.declared.Conversion.{Conversion}
use Rattle.calls.specs.declared.Conversion.TheVariants.{PackedToRfp, RfpToPacked}
use Rattle.calls.specs.declared.Call.TheVariants.{Converter}
use Rattle.calls.specs.Triangles.{transfer}
use Rattle.calls.specs.States.{next, suits}
use Rattle.calls.specs.Refusals.{success, accepted, rule2}
use Rattle.calls.specs.Calls.{result_of, succeeded}
use Rattle.calls.specs.Conversions.{reverse, source_place, target_place, converter_checks, Converted, convert, ShapeStays, WritesWhole, Undoes}
use Rattle.calls.proofs.Refusals.{cond_both, first_passes, first_accepted, none_holds, first_holds}
use Rattle.calls.proofs.Checks.{rule1_passes, rule17_passes, rule15_passes, rule3_passes}
use Rattle.calls.proofs.CheckLaws.{rule1_accepted, rule17_accepted, rule15_accepted, rule3_accepted, Keeps, low_keeps, rule1_holds, rule2_holds, rule3_holds, rule15_keeps, rule17_keeps}
use Rattle.calls.proofs.StateLaws.{given_same, shape_same}
use Rattle.calls.proofs.Rearranging.{length_transfer, transfer_whole, transfer_back}

pub source_bijection : (conversion : Conversion) (form n : ℕ) → Bijection (source_place conversion form n) n
source_bijection PackedToRfp form n = packed_bijection n
source_bijection RfpToPacked form n = rfp_bijection form n

pub target_bijection : (conversion : Conversion) (form n : ℕ) → Bijection (target_place conversion form n) n
target_bijection PackedToRfp form n = rfp_bijection form n
target_bijection RfpToPacked form n = packed_bijection n

-- ---- the checks

pub record ConverterAccepted (form : ℕ) (shape : Shape) (source_length target_length : ℕ) : Type 0 where
  pub order : shape.order ≤ max_order
  pub form_low : form ≤ 1
  pub state : T (suits (next Converter shape.state))
  pub source : source_length ≡ triangle shape.order
  pub target : target_length ≡ triangle shape.order

-- b is not judged
rule2_converter : (b : ℕ) → rule2 Converter b ≡ success
unfolding rule2
rule2_converter b = refl

module _ (form : ℕ) (shape : Shape) (sl tl : ℕ) where
  pub converter_accepted : T (accepted (converter_checks form shape sl tl)) → ConverterAccepted form shape sl tl
  unfolding converter_checks
  converter_accepted h =
      let p1 = first_accepted _ _ h in
      let p2 = first_accepted _ _ p1.1 in
      let p17 = first_accepted _ _ p2.1 in
      let p15 = first_accepted _ _ p17.1 in
      let p3 = first_accepted _ _ p15.1 in
      let p3' = first_accepted _ _ p3.1 in
      record {
        order = rule1_accepted shape.order p1.0;
        form_low = rule17_accepted form p17.0;
        state = rule15_accepted Converter shape.state p15.0;
        source = rule3_accepted shape.order sl p3.0;
        target = rule3_accepted shape.order tl p3'.0;
      }

  pub converter_passes : ConverterAccepted form shape sl tl → converter_checks form shape sl tl ≡ success
  unfolding converter_checks
  converter_passes a =
      first_passes _ _ (rule1_passes shape.order a.order)
      ∙ first_passes _ _ (rule2_converter shape.block)
      ∙ first_passes _ _ (rule17_passes form a.form_low)
      ∙ first_passes _ _ (rule15_passes Converter shape.state a.state)
      ∙ first_passes _ _ (rule3_passes shape.order sl a.source)
      ∙ first_passes _ _ (rule3_passes shape.order tl a.target)
      ∙ none_holds (λ v. v ≡ success) refl

  checks_keep : Keeps (converter_checks form shape sl tl)
  unfolding converter_checks
  checks_keep =
      first_holds Keeps refl _ _ (rule1_holds Keeps refl low_keeps shape.order)
      (first_holds Keeps refl _ _ (rule2_holds Keeps refl low_keeps Converter shape.block)
      (first_holds Keeps refl _ _ (rule17_keeps form)
      (first_holds Keeps refl _ _ (rule15_keeps Converter shape.state)
      (first_holds Keeps refl _ _ (rule3_holds Keeps refl low_keeps shape.order sl)
      (first_holds Keeps refl _ _ (rule3_holds Keeps refl low_keeps shape.order tl) (none_holds Keeps refl))))))

-- ---- the call after its checks

abbrev pub written : Conversion → ℕ → ℕ → List Float → List Float → List Float
written conversion form n source target = transfer (source_place conversion form n) (target_place conversion form n) n source target

module _ (conversion : Conversion) (form : ℕ) (shape : Shape) (source target : List Float) where
  abbrev checks : Verdict
  checks = converter_checks form shape (length source) (length target)

  pub convert_refused : accepted checks ≡ false → convert conversion form shape source target ≡ record { result = result_of Converter shape checks; target = target }
  unfolding convert
  convert_refused e = rw e refl

  pub convert_passed :
      ConverterAccepted form shape (length source) (length target) →
      convert conversion form shape source target
      ≡ record { result = result_of Converter shape success; target = written conversion form shape.order source target }
  unfolding convert
  convert_passed a = rw (converter_passes form shape (length source) (length target) a) refl

  shape_of : (v : Verdict) → Keeps v → (result_of Converter shape v).shape ≡ shape
  shape_of v k = shape_same Converter shape v (given_same (Raw Packed ∷ Factored Packed ∷ []) shape.state) k

  stays : (convert conversion form shape source target).result.shape ≡ shape
  unfolding convert
  stays =
      cond_both (λ (c : Converted). c.result.shape ≡ shape) (accepted checks) _ _ (shape_of success refl)
      (shape_of checks (checks_keep form shape (length source) (length target)))

  -- success comes of accepted checks
  succeeded_checks : T (succeeded (convert conversion form shape source target).result) → ConverterAccepted form shape (length source) (length target)
  succeeded_checks h = converter_accepted form shape (length source) (length target) (go (accepted checks) refl)
    where
      go : (b : Bool) → accepted checks ≡ b → T (accepted checks)
      go true e = rw e tt
      go false e = subst (λ (c : Converted). T (succeeded c.result)) (convert_refused e) h

pub shape_stays : ShapeStays
shape_stays = stays

pub writes_whole : WritesWhole
writes_whole conversion form shape source target target' e h =
    let n = shape.order in
    let a = succeeded_checks conversion form shape source target h in
    let a' : ConverterAccepted form shape (length source) (length target') = subst (ConverterAccepted form shape (length source)) e a in
    convert_passed conversion form shape source target a
    ∙ ap (λ t. record { result = result_of Converter shape success; target = t })
    (transfer_whole (source_place conversion form n) (target_place conversion form n) n (target_bijection conversion form n) source target a.target target'
    a'.target)
    ∙ sym (convert_passed conversion form shape source target' a')

-- the other way, with the places as the first one has them
back :
    (conversion : Conversion) (form n : ℕ) (source target other : List Float) → length source ≡ triangle n → length target ≡ triangle n →
    length other ≡ triangle n → written (reverse conversion) form n (written conversion form n source target) other ≡ source
back PackedToRfp form n source target other e e' e'' =
    transfer_back (source_place PackedToRfp form n) (target_place PackedToRfp form n) n (packed_bijection n) (rfp_bijection form n) source target other e e' e''
back RfpToPacked form n source target other e e' e'' =
    transfer_back (source_place RfpToPacked form n) (target_place RfpToPacked form n) n (rfp_bijection form n) (packed_bijection n) source target other e e' e''

pub undoes : Undoes
undoes conversion form shape source target other e h =
    let n = shape.order in
    let a = succeeded_checks conversion form shape source target h in
    let there : convert conversion form shape source target
    ≡ record { result = result_of Converter shape success; target = written conversion form n source target } =
    convert_passed conversion form shape source target a in
    let size : length (written conversion form n source target) ≡ triangle n =
    length_transfer (source_place conversion form n) (target_place conversion form n) n (target_bijection conversion form n) source target a.target in
    let a' : ConverterAccepted form shape (length (written conversion form n source target)) (length other) =
    record { order = a.order; form_low = a.form_low; state = a.state; source = size; target = e ∙ a.source } in
    ap (λ s. convert (reverse conversion) form s (convert conversion form shape source target).target other) (stays conversion form shape source target)
    ∙ ap (λ (c : Converted). convert (reverse conversion) form shape c.target other) there
    ∙ convert_passed (reverse conversion) form shape (written conversion form n source target) other a'
    ∙ ap (λ t. record { result = result_of Converter shape success; target = t })
    (back conversion form n source target other a.source a.target (e ∙ a.source))
    ∙ ap (λ (c : Converted). record { result = c.result; target = source }) (sym there)
