-- A text that stands in a file at a position: its parts, and what is read there. Assumes nothing.
use Prim.Native.Nat.{ℕ, ◌+◌, ◌^◌, ◌≤◌, ◌<◌}
use native.Mathlib.Omega.{arith}
use mathlib.Core.Path.{◌≡◌, refl, sym, ap, ◌∙◌}
use mathlib.Core.List.{List, ◌++◌}
use lib.Dec.{T}
use lib.ListN.{length, get_or, take, drop, length-append, length-take, length-drop}
use lib.Pow.{are_bytes}
use lib.Seq.{take-length, take_all, take-add, take_at, drop_at, take-take, drop-drop, length-take-le, get_or-take, get_or-drop}
use Rattle.job_format.specs.Reading.{found, little_endian, field}
use Rattle.job_format.specs.Rewriting.{bytes_of}
use Rattle.job_format.proofs.Fields.{field_there}
use Rattle.job_format.proofs.Digits.{length_bytes, bytes_number, number_bytes, number_below, bytes_take, bytes_drop}

abbrev pub Holds : List ℕ → ℕ → List ℕ → Type 0
Holds file at text = take (length text) (drop at file) ≡ text

pub holds_self : (file : List ℕ) → Holds file 0 file
holds_self file = take-length file

pub holds_whole : (file text : List ℕ) → Holds file 0 text → length text ≡ length file → text ≡ file
holds_whole file text h e = sym h ∙ take_all (length text) file (omega arith)

module _ (file : List ℕ) (at : ℕ) where
  -- one text after another
  module _ (a b : List ℕ) where
    both : take (length (a ++ b)) (drop at file) ≡ take (length a) (drop at file) ++ take (length b) (drop (at + length a) file)
    both =
        ap (λ (k : ℕ). take k (drop at file)) (length-append a b)
        ∙ take-add (length a) (length b) (drop at file)
        ∙ ap (λ (l : List ℕ). take (length a) (drop at file) ++ take (length b) l) (drop-drop (length a) at file)

    pub holds_join : Holds file at a → Holds file (at + length a) b → Holds file at (a ++ b)
    holds_join h k = both ∙ ap (λ (l : List ℕ). l ++ take (length b) (drop (at + length a) file)) h ∙ ap (λ (l : List ℕ). a ++ l) k

    pub holds_first : Holds file at (a ++ b) → Holds file at a
    holds_first h =
        sym (take-take (length a) (length (a ++ b)) (drop at file) (omega (arith, length-append a b)))
        ∙ ap (take (length a)) h
        ∙ take_at a b (length a) refl

    pub holds_second : Holds file at (a ++ b) → Holds file (at + length a) b
    holds_second h =
        let front : length (take (length a) (drop at file)) ≡ length a = ap length (holds_first h) in
        sym (drop_at (take (length a) (drop at file)) (take (length b) (drop (at + length a) file)) (length a) front)
        ∙ ap (drop (length a)) (sym both ∙ h)
        ∙ drop_at a b (length a) refl

  module _ (text : List ℕ) (h : Holds file at text) where
    pub holds_within : 0 < length text → at + length text ≤ length file
    holds_within some =
        omega (arith, sym (length-take (length text) (drop at file)) ∙ ap length h, length-drop at file)

    pub holds_at : (i : ℕ) → i < length text → get_or file (at + i) 0 ≡ get_or text i 0
    holds_at i l =
        sym (sym (ap (λ (t : List ℕ). get_or t i 0) h) ∙ get_or-take (length text) (drop at file) i 0 l ∙ get_or-drop at file i 0)

-- ---- fields

module _ (file : List ℕ) (at width : ℕ) where
  -- the bytes of a number that are there are read as the number
  pub field_holds : (v : ℕ) → 0 < width → v < 256 ^ width → Holds file at (bytes_of width v) → field file at width ≡ found v (at + width)
  field_holds v some below h =
      let n : length (bytes_of width v) ≡ width = length_bytes width v in
      let there : at + width ≤ length file = omega (arith, holds_within file at (bytes_of width v) h (omega arith)) in
      let part : take width (drop at file) ≡ bytes_of width v = ap (λ (k : ℕ). take k (drop at file)) (sym n) ∙ h in
      field_there file at width there ∙ ap (λ (x : ℕ). found x (at + width)) (ap little_endian part ∙ bytes_number width v below)

  module _ (there : at + width ≤ length file) where
    length_part : length (take width (drop at file)) ≡ width
    length_part = length-take-le width (drop at file) (omega (arith, length-drop at file))

    -- and the bytes that were read are those of the number
    pub holds_field : T (are_bytes file) → Holds file at (bytes_of width (little_endian (take width (drop at file))))
    holds_field bytes =
        let part : List ℕ = take width (drop at file) in
        let e : bytes_of width (little_endian part) ≡ part =
        ap (λ (k : ℕ). bytes_of k (little_endian part)) (sym length_part) ∙ number_bytes part (bytes_take width (drop at file) (bytes_drop at file bytes)) in
        ap (λ (k : ℕ). take k (drop at file)) (length_bytes width (little_endian part)) ∙ sym e

    pub field_below : T (are_bytes file) → little_endian (take width (drop at file)) < 256 ^ width
    field_below bytes =
        omega (arith, ap (λ (k : ℕ). 256 ^ k) length_part, number_below (take width (drop at file)) (bytes_take width (drop at file) (bytes_drop at file bytes)))
