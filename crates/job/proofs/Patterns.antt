-- Which patterns and which values are NaN, by their kinds, which pattern is +0, and a run of values from their bits. Assumes nothing.
use Prim.Native.Nat.{ℕ, suc, ◌+◌, ◌^◌, ◌≤◌, ◌<◌}
use native.Mathlib.Numerals.{add-one}
use native.Mathlib.Omega.{arith}
use mathlib.Core.Path.{◌≡◌, refl, sym, ap, ◌∙◌, subst}
use mathlib.Core.List.{List, [], ◌∷◌, ◌++◌}
use mathlib.Core.Bool.{Bool, not}
use lib.Dec.{T}
use lib.ListN.{length, get_or, take, set, length-set, length-map, get_or-map}
use lib.Seq.{take-suc, take-suc-set, take_all}
use lib.Ieee.{Float, nan, is_nan, binary64, div, nan_bits, fits, of_bits, to_bits}
use lib.Ieee.Bits.{nan_bits_is, of_bits-fits, to_bits-of_bits}
use Rattle.binary64.specs.declared.kinds.Kind.TheVariants.{NaN}
use Rattle.binary64.specs.Kinds.{zero64, kind_of_bits, kind}
use Rattle.binary64.proofs.KindLaws.{kind_of_pattern}
use Rattle.binary64.proofs.Values.{nan_of_kind, number_of_kind}
use Rattle.job.specs.Listing.{floats}

quotient_nan : div binary64 (of_bits binary64 0) (of_bits binary64 0) ≡ nan
unfolding div of_bits
quotient_nan = refl

module _ (p : ℕ) (h : p < 2 ^ 64) where
  pub pattern_nan : kind_of_bits p ≡ NaN → div binary64 (of_bits binary64 0) (of_bits binary64 0) ≡ of_bits binary64 p
  pattern_nan e = quotient_nan ∙ sym (nan_of_kind (of_bits binary64 p) (of_bits-fits binary64 p) (kind_of_pattern p h ∙ e))

  pub pattern_number : ¬ (kind_of_bits p ≡ NaN) → T (not (nan_bits binary64 p))
  pattern_number n =
      subst (λ (b : Bool). T (not b)) (sym (nan_bits_is binary64 p)) (number_of_kind (of_bits binary64 p) (λ e. n (sym (kind_of_pattern p h) ∙ e)))

pub nan_bits_lem : (v : Float) → T (fits binary64 v) → kind v ≡ NaN → 0x7ff8_0000_0000_0000 ≡ to_bits binary64 v
unfolding to_bits
nan_bits_lem v f e = rw (nan_of_kind v f e)

-- +0 is the pattern 0, and no other pattern is
pub zero_pattern : (p : ℕ) → p < 2 ^ 64 → (of_bits binary64 p ≡ zero64 → p ≡ 0) × (p ≡ 0 → of_bits binary64 p ≡ zero64)
unfolding to_bits of_bits is_nan
zero_pattern p h = (
  (λ e. sym (to_bits-of_bits binary64 p h (subst (λ (v : Float). T (not (is_nan v))) (sym e) tt)) ∙ ap (to_bits binary64) e),
  (λ z. ap (of_bits binary64) z),
)

-- a loop that turns bits into values: the first k are there
pub record FloatsTo (bits : List ℕ) (out : List Float) (k : ℕ) : Type 0 where
  pub kept : length out ≡ length bits
  pub within : k ≤ length bits
  pub front : take k out ≡ take k (floats bits)

module _ (bits : List ℕ) (out : List Float) (k : ℕ) where
  pub floats_turn : (v : Float) → k < length bits → v ≡ of_bits binary64 (get_or bits k 0) → FloatsTo bits out k → FloatsTo bits (set out k v) (k + 1)
  floats_turn v h e r =
      let s : k + 1 ≡ suc k = add-one k in
      let at : get_or (floats bits) k (of_bits binary64 0) ≡ v = get_or-map (of_bits binary64) bits k 0 ∙ sym e in
      let f : take (suc k) (floats bits) ≡ take k (floats bits) ++ (v ∷ []) =
      take-suc (floats bits) k (of_bits binary64 0) (omega (arith, length-map bits (of_bits binary64))) ∙ ap (λ (x : Float). take k (floats bits) ++ (x ∷ [])) at in
      record {
        kept = length-set out k v ∙ r.kept;
        within = omega arith;
        front = (let g = r.front in rw (s, f, take-suc-set out k v (omega (arith, r.kept)), g) refl);
      }

  pub floats_all : length bits ≤ k → FloatsTo bits out k → out ≡ floats bits
  floats_all h r =
      sym (take_all k out (omega (arith, r.kept))) ∙ r.front ∙ take_all k (floats bits) (omega (arith, length-map bits (of_bits binary64)))
