-- Laws of specs/Reading.antt: steps that found something, a field, a bounded field and a run of values, each from what the one before it gave. Assumes nothing.
use Prim.Native.Nat.{ℕ, zero, suc, ◌+◌, ◌-◌, ◌≤◌, ◌<◌}
use native.Mathlib.Numerals.{add-one}
use native.Mathlib.Omega.{arith}
use native.Mathlib.Decide.{dec_lt}
use mathlib.Core.Path.{◌≡◌, refl, sym, ap, ◌∙◌}
use mathlib.Core.Bool.{Bool, true, false}
use mathlib.Core.List.{List, ◌++◌}
use lib.ListN.{length, take, drop, set, replicate, length-set, length-append, length-drop, length-replicate}
use lib.Seq.{take-suc-set, length-take-le}
use Rattle.std.specs.Int.{w64, from_le_bytes}
use Rattle.std.specs.Prelude.{Result}
use Rattle.std.specs.Result.{IsErrAnd}
use Rattle.std.proofs.lemmas.Result.{err_from_is_err_and}
use Rattle.std.proofs.lemmas.List.{drop-replicate}
use borrow.Author.Tests.{le-leb, lt-leb}
use Rattle.job_format.specs.declared.Fault.{Fault}
use Rattle.job_format.specs.declared.Zeros.{Zeros}
use Rattle.job_format.specs.Reading.{Parsed, fault, found, and_then, require, malformed, needless_zero, little_endian, field, bounded, needless, value, values, parsed, parsed_as}
use Rattle.job_format.proofs.Digits.{padded_number, eight_number}

-- ---- steps

pub fault_found : {A B : Type 0} {f : Fault} {a : A} {at : ℕ} → fault f ≡ found a at → B
fault_found e = let z : ◌≡◌ {A = ℕ} 0 1 = cc in absurd (omega arith)

pub then_found :
    {A B : Type 0} (p : Parsed A) (rest : A → ℕ → Parsed B) (b : B) (end : ℕ) → and_then p rest ≡ found b end →
    (a : A) × (at : ℕ) × (p ≡ found a at) × (rest a at ≡ found b end)
then_found (fault f) rest b end e = fault_found e
then_found (found a at) rest b end e = (a, at, refl, e)

pub require_found : {A : Type 0} (t : Bool) (f : Fault) (p : Parsed A) (b : A) (end : ℕ) → require t f p ≡ found b end → (t ≡ true) × (p ≡ found b end)
require_found true f p b end e = (refl, e)
require_found false f p b end e = fault_found e

-- a fault that `?` hands on
module _ {B : Type 0} (f : Fault) (at : ℕ) (p : Parsed B) (h : fault f ≡ p) where
  pub handed_on : (r : Result B Fault) → IsErrAnd r (λ y. y ≡ f) → parsed r at ≡ p
  handed_on r e = let q = err_from_is_err_and r e in rw (q.1, q.2) h

  pub handed_on_as : (b : B) (r : Result (Unit {0}) Fault) → IsErrAnd r (λ y. y ≡ f) → parsed_as b r at ≡ p
  handed_on_as b r e = let q = err_from_is_err_and r e in rw (q.1, q.2) h

-- ---- a field

module _ (file : List ℕ) (at width : ℕ) where
  pub field_there : at + width ≤ length file → field file at width ≡ found (little_endian (take width (drop at file))) (at + width)
  unfolding field
  field_there h = rw (le-leb (at + width) (length file) h)

  pub field_short : length file < at + width → field file at width ≡ fault (malformed (length file))
  unfolding field
  field_short h = rw (lt-leb (at + width) (length file) h)

  -- the field's bytes, copied to the front of eight zeros
  pub field_copied :
      (part : List ℕ) (v : ℕ) → width ≤ 8 → at + width ≤ length file → part ≡ take width (drop at file) →
      v ≡ from_le_bytes w64 (part ++ drop width (replicate 8 0)) → found v (at + width) ≡ field file at width
  field_copied part v short h p f =
      let n : length part ≡ width = ap length p ∙ length-take-le width (drop at file) (omega (arith, length-drop at file)) in
      let zeros : List ℕ = replicate (8 - width) 0 in
      let z : drop width (replicate 8 0) ≡ zeros = drop-replicate width 8 0 in
      let all : length (part ++ zeros) ≤ 8 = omega (arith, length-append part zeros, length-replicate {A = ℕ} (8 - width) 0, n) in
      let number : v ≡ little_endian part = f ∙ ap (λ (r : List ℕ). from_le_bytes w64 (part ++ r)) z ∙ eight_number (part ++ zeros) all ∙ padded_number part (8 - width) in
      ap (λ (x : ℕ). found x (at + width)) (number ∙ ap little_endian p) ∙ sym (field_there h)

  -- ---- a bounded field

  module _ (low high : ℕ) where
    pub bounded_fault : (place : Fault) → fault place ≡ field file at width → fault place ≡ bounded file at width low high
    unfolding bounded
    bounded_fault place e = rw (← e)

    pub bounded_low : (v next : ℕ) → found v next ≡ field file at width → v < low → fault (malformed at) ≡ bounded file at width low high
    unfolding bounded
    bounded_low v next e h = rw (← e, lt-leb low v h)

    pub bounded_high : (v next : ℕ) → found v next ≡ field file at width → low ≤ v → high < v → fault (malformed at) ≡ bounded file at width low high
    unfolding bounded
    bounded_high v next e l h = rw (← e, le-leb low v l, lt-leb v high h)

    pub bounded_in : (v next : ℕ) → found v next ≡ field file at width → low ≤ v → v ≤ high → found v next ≡ bounded file at width low high
    unfolding bounded
    bounded_in v next e l h = rw (← e, le-leb low v l, le-leb v high h)

-- ---- values

module _ (zeros : Zeros) (file : List ℕ) (at : ℕ) (present : Bool) where
  pub value_absent : present ≡ false → found 0 at ≡ value zeros file present at
  unfolding value
  value_absent e = rw e

  module _ (there : present ≡ true) where
    pub value_read : (bits next : ℕ) → found bits next ≡ field file at 8 → needless zeros bits ≡ false → found bits next ≡ value zeros file present at
    unfolding value
    value_read bits next f n = rw (there, ← f, n)

    pub value_needless : (bits next : ℕ) → found bits next ≡ field file at 8 → needless zeros bits ≡ true → fault (needless_zero at) ≡ value zeros file present at
    unfolding value
    value_needless bits next f n = rw (there, ← f, n)

    pub value_fault : (p : Fault) → fault p ≡ field file at 8 → fault p ≡ value zeros file present at
    unfolding value
    value_fault p f = rw (there, ← f)

-- a loop that reads values: the first k of them are in out
pub record ReadTo (zeros : Zeros) (file : List ℕ) (present : ℕ → Bool) (at size : ℕ) (out : List ℕ) (next k : ℕ) : Type 0 where
  pub kept : length out ≡ size
  pub within : k ≤ size
  pub read : values zeros file present k at ≡ found (take k out) next

module _ (zeros : Zeros) (file : List ℕ) (present : ℕ → Bool) (at : ℕ) where
  pub read_none : (out : List ℕ) → ReadTo zeros file present at (length out) out at 0
  unfolding values
  read_none out = record { kept = refl; within = omega arith; read = refl }

  pub read_turn :
      (size next k after : ℕ) (out : List ℕ) (v : ℕ) →
      ReadTo zeros file present at size out next k →
      k < length out →
      found v after ≡ value zeros file (present k) next →
      ReadTo zeros file present at size (set out k v) after (k + 1)
  unfolding values
  read_turn size next k after out v r h e =
      let s : k + 1 ≡ suc k = add-one k in
      let p = r.read in
      record {
        kept = simp length-set r.kept;
        within = omega (arith, r.kept);
        read = rw (s, p, ← e, take-suc-set out k v h);
      }

  -- a fault decides for every longer run
  values_fault : (p : Fault) (k count : ℕ) → k ≤ count → values zeros file present k at ≡ fault p → values zeros file present count at ≡ fault p
  unfolding values
  values_fault p k zero h e = let z : 0 ≡ k = omega arith in ap (λ (j : ℕ). values zeros file present j at) z ∙ e
  values_fault p k (suc n) h e =
      elim (dec_lt n k) [
        | yes q ↦ (let z : suc n ≡ k = omega arith in ap (λ (j : ℕ). values zeros file present j at) z ∙ e)
        | no q ↦ (let z = values_fault p k n (omega arith) e in rw z)
      ]

  pub read_fault :
      (size next k : ℕ) (p : Fault) (out : List ℕ) →
      ReadTo zeros file present at size out next k →
      k < length out →
      fault p ≡ value zeros file (present k) next →
      fault p ≡ values zeros file present size at
  unfolding values
  read_fault size next k p out r h e =
      let w = r.read in
      let q : values zeros file present (suc k) at ≡ fault p = rw (w, ← e) in
      sym (values_fault p (suc k) size (omega (arith, r.kept)) q)
