-- What the present reader accepts has the listing that it had, a listing that changed is one of code 18, and a rewritten job has the listing that its input had. The
-- former definitions stand on the other side of each equation. Assumes nothing.
use Prim.Native.Nat.{ℕ, zero, suc, ◌*◌}
use native.Mathlib.Omega.{arith}
use mathlib.Core.Path.{◌≡◌, refl, sym, ap, ◌∙◌}
use mathlib.Core.Logic.{◌⊎◌, inl, inr}
use mathlib.Core.Bool.{Bool, true, false, cond, not}
use mathlib.Core.List.{List, [], ◌∷◌, ◌++◌, map-append}
use lib.Dec.{T, eqb}
use lib.ListN.{length}
use lib.Pow.{are_bytes}
use lib.Ieee.{Float, binary64, of_bits}
use borrow.Author.Tests.{eq-eqb}
use Rattle.binary64.specs.Kinds.{zero64}
use Rattle.shape.specs.Places.{triangle}
use Rattle.job_format.specs.declared.Sizes.{Sizes}
use Rattle.job_format.specs.declared.Zeros.TheVariants.{Kept, Needless}
use Rattle.job_format.specs.Reading.{Parsed, fault, found, and_then, require, fault_code, fault_place, malformed, needless_zero, field, needless, value, values}
use Rattle.job_format.specs.Format.{Contents, map_bit, read_sizes, read_map, read_values, read_contents, read_job}
use Rattle.job_format.specs.Rewriting.{rewritten}
use Rattle.job_format.proofs.Canonical.{reads_back}
use Rattle.job_format.proofs.Readings.{Under13, sizes_13, contents_13, only_needless_zeros, read_formerly}
use Rattle.job.specs.Listing.{Job, floats, job_of, job_line, end_line, fault_lines, listing_of, listed, listed_from, listing}

-- ---- the former definitions: values were read as such, and a standing bit over +0 was no fault; every fault was listed as 13

former_value : List ℕ → Bool → ℕ → Parsed Float
former_value file present at = cond present (and_then (field file at 8) (λ bits next. found (of_bits binary64 bits) next)) (found zero64 at)

former_values : List ℕ → (ℕ → Bool) → ℕ → ℕ → Parsed (List Float)
former_values file present zero at = found [] at
former_values file present (suc k) at =
    and_then (former_values file present k at) (λ before at. and_then (former_value file (present k) at) (λ v next. found (before ++ (v ∷ [])) next))

former_read_values : List ℕ → Sizes → ℕ → Parsed Job
former_read_values file sizes at =
    and_then (former_values file (map_bit file) (triangle sizes.order) at) (λ matrix at.
    and_then (former_values file (λ p. true) (sizes.order * sizes.count) at) (λ rhs at.
    require (eqb at (length file)) (malformed at)
    (found (record { sizes = sizes; matrix = matrix; rhs = rhs }) at)))

former_read_job : List ℕ → Parsed Job
former_read_job file =
    and_then (read_sizes file) (λ sizes at.
    and_then (read_map file sizes.order at) (λ _ at.
    former_read_values file sizes at))

former_listed : Parsed Job → List ℕ
former_listed (fault f) = end_line 13 (fault_place f)
former_listed (found job at) = listing_of job

pub former_listing : List ℕ → List ℕ
former_listing file = former_listed (former_read_job file)

pub record AsBefore (file : List ℕ) : Type 0 where
  pub accepted_as : (job : Contents) (at : ℕ) → read_job Needless file ≡ found job at → listing file ≡ former_listing file
  pub changed :
      (listing file ≡ former_listing file)
      ⊎ ((sizes : Sizes) × (at place : ℕ) × (read_sizes file ≡ found sizes at) × (read_job Needless file ≡ fault (needless_zero place))
      × (listing file ≡ job_line sizes.order sizes.block sizes.count ++ end_line 18 place))

-- ---- the former reading is the one that keeps zeros, its values by their bits

abbrev onto : {A B : Type 0} → (A → B) → Parsed A → Parsed B
onto f (fault x) = fault x
onto f (found a at) = found (f a) at

then_onto :
    {A A' B B' : Type 0} (f : A → A') (h : B → B') (p : Parsed A) (k : A → ℕ → Parsed B) (g : A' → ℕ → Parsed B') →
    ((a : A) (at : ℕ) → g (f a) at ≡ onto h (k a at)) → and_then (onto f p) g ≡ onto h (and_then p k)
then_onto f h (fault x) k g same = refl
then_onto f h (found a at) k g same = same a at

module _ (file : List ℕ) where
  value_onto : (present : Bool) (at : ℕ) → former_value file present at ≡ onto (of_bits binary64) (value Kept file present at)
  unfolding former_value value needless of_bits
  value_onto true at = go (field file at 8)
    where
      go :
          (p : Parsed ℕ) →
          and_then p (λ bits next. found (of_bits binary64 bits) next) ≡ onto (of_bits binary64) (and_then p (λ bits next. require (not (needless Kept bits)) (needless_zero at) (found bits next)))
      go (fault x) = refl
      go (found v next) = refl
  value_onto false at = refl

  values_onto : (present : ℕ → Bool) (k at : ℕ) → former_values file present k at ≡ onto floats (values Kept file present k at)
  unfolding former_values values
  values_onto present zero at = refl
  values_onto present (suc k) at =
      rw (values_onto present k at)
      (then_onto floats floats (values Kept file present k at) _ _
      (λ before mid. rw (value_onto (present k) mid)
      (then_onto (of_bits binary64) floats (value Kept file (present k) mid) _ _
      (λ v next. ap (λ (l : List Float). found l next) (sym (map-append (of_bits binary64) before (v ∷ [])))))))

  contents_onto : (sizes : Sizes) (at : ℕ) → and_then (read_map file sizes.order at) (λ _ at. former_read_values file sizes at) ≡ onto job_of (read_contents Kept file sizes at)
  unfolding former_read_values read_contents read_values
  contents_onto sizes at = go (read_map file sizes.order at)
    where
      go :
          (p : Parsed (Unit {0})) →
          and_then p (λ _ at. former_read_values file sizes at) ≡ onto job_of (and_then p (λ _ at. read_values Kept file sizes at))
      go (fault x) = refl
      go (found _ next) =
          rw (values_onto (map_bit file) (triangle sizes.order) next)
          (then_onto floats job_of (values Kept file (map_bit file) (triangle sizes.order) next) _ _
          (λ matrix mid. rw (values_onto (λ p. true) (sizes.order * sizes.count) mid)
          (then_onto floats job_of (values Kept file (λ p. true) (sizes.order * sizes.count) mid) _ _
          (λ rhs end. ends (eqb end (length file)) matrix rhs end))))
        where
          ends :
              (t : Bool) (matrix rhs : List ℕ) (end : ℕ) →
              require t (malformed end) (found (record { sizes = sizes; matrix = floats matrix; rhs = floats rhs }) end)
              ≡ onto job_of (require t (malformed end) (found (record { sizes = sizes; matrix = matrix; rhs = rhs }) end))
          ends true matrix rhs end = refl
          ends false matrix rhs end = refl

  job_onto : former_read_job file ≡ onto job_of (read_job Kept file)
  unfolding former_read_job read_job
  job_onto = go (read_sizes file)
    where
      go :
          (p : Parsed Sizes) →
          and_then p (λ sizes at. and_then (read_map file sizes.order at) (λ _ at. former_read_values file sizes at)) ≡ onto job_of (and_then p (λ sizes at. read_contents Kept file sizes at))
      go (fault x) = refl
      go (found sizes at) = contents_onto sizes at

  -- ---- the listings

  contents_listed : (sizes : Sizes) (p : Parsed Contents) → Under13 p → listed sizes p ≡ former_listed (onto job_of p)
  unfolding former_listed fault_lines
  contents_listed sizes (fault f) h = rw (eq-eqb (fault_code f) 13 h) (ap (λ (c : ℕ). end_line c (fault_place f)) h)
  contents_listed sizes (found job at) h = refl

  listed_alike :
      (p : Parsed Sizes) → Under13 p → and_then p (λ sizes at. read_contents Needless file sizes at) ≡ and_then p (λ sizes at. read_contents Kept file sizes at) →
      listed_from file p ≡ former_listed (onto job_of (and_then p (λ sizes at. read_contents Kept file sizes at)))
  unfolding former_listed
  listed_alike (fault f) h same = ap (λ (c : ℕ). end_line c (fault_place f)) h
  listed_alike (found sizes at) h same = ap (listed sizes) same ∙ contents_listed sizes (read_contents Kept file sizes at) (contents_13 file sizes at)

  same_listing : read_job Needless file ≡ read_job Kept file → listing file ≡ former_listing file
  unfolding listing former_listing read_job
  same_listing same = listed_alike (read_sizes file) (sizes_13 file) same ∙ ap former_listed (sym job_onto)

  -- a needless zero is met after the sizes, so it is listed with them
  needless_listing :
      (place : ℕ) → read_job Needless file ≡ fault (needless_zero place) →
      (sizes : Sizes) × (at : ℕ) × (read_sizes file ≡ found sizes at) × (listing file ≡ job_line sizes.order sizes.block sizes.count ++ end_line 18 place)
  unfolding listing read_job fault_lines
  needless_listing place e = go (read_sizes file) (sizes_13 file) e
    where
      go :
          (p : Parsed Sizes) → Under13 p → and_then p (λ sizes at. read_contents Needless file sizes at) ≡ fault (needless_zero place) →
          (sizes : Sizes) × (at : ℕ) × (p ≡ found sizes at) × (listed_from file p ≡ job_line sizes.order sizes.block sizes.count ++ end_line 18 place)
      go (fault f) h x = let z : f ≡ needless_zero place = cc in absurd (omega (arith, ap fault_code z, h))
      go (found sizes at) h x = (sizes, at, refl, ap (listed sizes) x)

pub as_before : (file : List ℕ) → AsBefore file
as_before file =
    record {
      accepted_as =
          λ job at e.
          elim (only_needless_zeros file) [
            | inl same ↦ same_listing file same
            | inr x ↦ (let z : ◌≡◌ {A = ℕ} 0 1 = cc x.1 in absurd (omega arith))
          ];
      changed =
          elim (only_needless_zeros file) [
            | inl same ↦ inl (same_listing file same)
            | inr x ↦ (let (sizes, at, e, l) = needless_listing file x.0 x.1 in inr (sizes, at, x.0, e, x.1, l))
          ];
    }

-- ---- rewriting keeps the listing

former_found : (file : List ℕ) (job : Contents) (at : ℕ) → read_job Kept file ≡ found job at → former_listing file ≡ listing_of (job_of job)
unfolding former_listing former_listed
former_found file job at e = ap former_listed (job_onto file ∙ ap (onto job_of) e)

pub rewritten_listing : (file text : List ℕ) (end : ℕ) → T (are_bytes file) → rewritten file ≡ found text end → listing text ≡ former_listing file
rewritten_listing file text end bytes e =
    let (job, at, p, q) = reads_back file text end bytes e in
    (as_before text).accepted_as job end q ∙ former_found text job end (read_formerly text job end q) ∙ sym (former_found file job at p)
