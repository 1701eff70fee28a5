-- What was read, from the fact that it was found: each field, the bounds of the contents, and how the present rules differ from the former ones. Assumes nothing.
use Prim.Native.Nat.{ℕ, zero, suc, ◌+◌, ◌-◌, ◌*◌, ◌^◌, ◌≤◌, ◌<◌}
use native.Mathlib.Omega.{arith}
use native.Mathlib.Decide.{dec_lt}
use mathlib.Core.Path.{◌≡◌, refl, sym, ap, ◌∙◌, subst}
use mathlib.Core.Logic.{◌⊎◌, inl, inr}
use mathlib.Core.Bool.{Bool, true, false, cond, not, ◌&&◌}
use mathlib.Core.List.{List, [], ◌∷◌, ◌++◌}
use lib.Dec.{T, leb, eqb}
use lib.ListN.{length, get_or, take, drop, length-append, get_or-append}
use lib.Pow.{are_bytes}
use lib.Seq.{get_or_at}
use borrow.Author.Tests.{leb-true, eqb-true}
use Rattle.shape.specs.Places.{triangle}
use Rattle.job_format.specs.declared.Sizes.{Sizes}
use Rattle.job_format.specs.declared.Zeros.{Zeros}
use Rattle.job_format.specs.declared.Zeros.TheVariants.{Kept, Needless}
use Rattle.job_format.specs.Reading.{Parsed, fault, found, and_then, require, malformed, needless_zero, fault_code, little_endian, field, bounded, needless, value, values}
use Rattle.job_format.specs.Format.{Contents, InBounds, map_bytes, map_bit, padded, read_sizes, read_map, read_values, read_contents, read_job}
use Rattle.job_format.specs.Rewriting.{job_bytes, written, rewritten, RefusedBy13, OnlyNeedlessZeros}
use Rattle.job_format.proofs.Fields.{fault_found, then_found, require_found}
use Rattle.job_format.proofs.Formats.{sizes_bounds}
use Rattle.job_format.proofs.Parts.{field_below}

-- ---- fields

module _ (file : List ℕ) (at width v next : ℕ) where
  pub field_found : field file at width ≡ found v next → (at + width ≤ length file) × (v ≡ little_endian (take width (drop at file))) × (next ≡ at + width)
  unfolding field
  field_found e = go (leb (at + width) (length file)) refl e
    where
      go :
          (t : Bool) → leb (at + width) (length file) ≡ t →
          cond t (found (little_endian (take width (drop at file))) (at + width)) (fault (malformed (length file))) ≡ found v next →
          (at + width ≤ length file) × (v ≡ little_endian (take width (drop at file))) × (next ≡ at + width)
      go true p f = (leb-true (at + width) (length file) p, (cc), (cc))
      go false p f = fault_found f

  pub bounded_field : (low high : ℕ) → bounded file at width low high ≡ found v next → field file at width ≡ found v next
  unfolding bounded
  bounded_field low high e =
      let (x, y, p, q) = then_found (field file at width) _ v next e in
      let r = require_found (leb low x && leb x high) (malformed at) (found x y) v next q in
      p ∙ r.1

-- ---- values

module _ (zeros : Zeros) (file : List ℕ) where
  -- a value that was there is read from its field and is not needless; one that was not is +0
  pub value_found :
      (present : Bool) (at v next : ℕ) → value zeros file present at ≡ found v next →
      ((present ≡ true) × (field file at 8 ≡ found v next) × (needless zeros v ≡ false)) ⊎ ((present ≡ false) × (v ≡ 0) × (next ≡ at))
  unfolding value
  value_found true at v next e =
      let (x, y, p, q) = then_found (field file at 8) _ v next e in
      let (t, r) = require_found (not (needless zeros x)) (needless_zero at) (found x y) v next q in
      let s : x ≡ v = cc in
      inl (refl, p ∙ r, ap (needless zeros) (sym s) ∙ lower (needless zeros x) t)
    where
      lower : (b : Bool) → not b ≡ true → b ≡ false
      lower true f = let z : ◌≡◌ {A = ℕ} 0 1 = cc in absurd (omega arith)
      lower false f = refl
  value_found false at v next e = inr (refl, (cc), (cc))

  pub values_found :
      (present : ℕ → Bool) (k at : ℕ) (vs : List ℕ) (next : ℕ) → values zeros file present (suc k) at ≡ found vs next →
      (before : List ℕ) × (mid : ℕ) × (v : ℕ) × (values zeros file present k at ≡ found before mid) × (value zeros file (present k) mid ≡ found v next) × (vs ≡ before ++ (v ∷ []))
  unfolding values
  values_found present k at vs next e =
      let (before, mid, p, q) = then_found (values zeros file present k at) _ vs next e in
      let (v, end, r, s) = then_found (value zeros file (present k) mid) _ vs next q in
      let n : end ≡ next = cc in
      (before, mid, v, p, r ∙ ap (found v) n, (cc))

  pub length_found : (present : ℕ → Bool) (k at : ℕ) (vs : List ℕ) (next : ℕ) → values zeros file present k at ≡ found vs next → length vs ≡ k
  unfolding values
  length_found present zero at vs next e = let z : [] ≡ vs = cc in ap length (sym z)
  length_found present (suc k) at vs next e =
      let (before, mid, v, p, q, r) = values_found present k at vs next e in
      omega (arith, ap length r, length-append before (v ∷ []), length_found present k at before mid p)

  -- values of a file of bytes are below 2^64
  value_below : T (are_bytes file) → (present : Bool) (at v next : ℕ) → value zeros file present at ≡ found v next → v < 256 ^ 8
  value_below bytes present at v next e =
      elim (value_found present at v next e) [
        | inl x ↦
            (let (there, is, _) = field_found file at 8 v next x.1 in
            omega (arith, field_below file at 8 there bytes))
        | inr x ↦ omega arith
      ]

  pub values_below :
      T (are_bytes file) → (present : ℕ → Bool) (k at : ℕ) (vs : List ℕ) (next : ℕ) → values zeros file present k at ≡ found vs next →
      (j : ℕ) → j < k → get_or vs j 0 < 256 ^ 8
  values_below bytes present zero at vs next e j h = absurd (omega arith)
  values_below bytes present (suc k) at vs next e j h =
      let (before, mid, v, p, q, r) = values_found present k at vs next e in
      let n : length before ≡ k = length_found present k at before mid p in
      elim (dec_lt j k) [
        | yes l ↦
            (let g : get_or vs j 0 ≡ get_or before j 0 = ap (λ (l : List ℕ). get_or l j 0) r ∙ get_or-append before (v ∷ []) 0 j (omega arith) in
            omega (arith, values_below bytes present k at before mid p j l))
        | no l ↦
            (let i : j ≡ k = omega arith in
            let g : get_or vs j 0 ≡ v = ap (λ (l : List ℕ). get_or l j 0) r ∙ get_or_at before v [] 0 j (n ∙ sym i) in
            omega (arith, value_below bytes (present k) mid v next q))
      ]

-- ---- the map

pub map_found : (file : List ℕ) (n at next : ℕ) → read_map file n at ≡ found tt next → (at + map_bytes n ≤ length file) × (padded file n (at + map_bytes n) ≡ true) × (next ≡ at + map_bytes n)
unfolding read_map
map_found file n at next e =
    let (a, p) = require_found (leb (at + map_bytes n) (length file)) (malformed (length file)) _ tt next e in
    let (b, q) = require_found (padded file n (at + map_bytes n)) (malformed (at + map_bytes n - 1)) (found tt (at + map_bytes n)) tt next p in
    (leb-true (at + map_bytes n) (length file) a, b, (cc))

-- ---- the job

-- the parts that a job was read from
pub record Read (zeros : Zeros) (file : List ℕ) (job : Contents) (at : ℕ) : Type 0 where
  pub start : ℕ
  pub next : ℕ
  pub mid : ℕ
  pub sizes : read_sizes file ≡ found job.sizes start
  pub map : read_map file job.sizes.order start ≡ found tt next
  pub matrix : values zeros file (map_bit file) (triangle job.sizes.order) next ≡ found job.matrix mid
  pub rhs : values Kept file (λ p. true) (job.sizes.order * job.sizes.count) mid ≡ found job.rhs at
  pub end : at ≡ length file

pub job_read : (zeros : Zeros) (file : List ℕ) (job : Contents) (at : ℕ) → read_job zeros file ≡ found job at → Read zeros file job at
unfolding read_job read_contents read_values
job_read zeros file job at e =
    let (sizes, start, a, e1) = then_found (read_sizes file) _ job at e in
    let (_, next, b, e2) = then_found (read_map file sizes.order start) _ job at e1 in
    let (matrix, mid, c, e3) = then_found (values zeros file (map_bit file) (triangle sizes.order) next) _ job at e2 in
    let (rhs, last, d, e4) = then_found (values Kept file (λ p. true) (sizes.order * sizes.count) mid) _ job at e3 in
    let (f, g) = require_found (eqb last (length file)) (malformed last) (found (record { sizes = sizes; matrix = matrix; rhs = rhs }) last) job at e4 in
    let is : record { sizes = sizes; matrix = matrix; rhs = rhs } ≡ job = cc in
    let ends : last ≡ at = cc in
    subst (λ (j : Contents). Read zeros file j at) is
    (record {
      start = start;
      next = next;
      mid = mid;
      sizes = a;
      map = b;
      matrix = c;
      rhs = d ∙ ap (found rhs) ends;
      end = sym ends ∙ eqb-true last (length file) f;
    })

-- contents that a job can have: their number, and the values of a file of bytes
pub record Sized (job : Contents) : Type 0 where
  pub sizes : InBounds job.sizes
  pub entries : length job.matrix ≡ triangle job.sizes.order
  pub values : length job.rhs ≡ job.sizes.order * job.sizes.count

pub record Bounded (job : Contents) : Type 0 where
  pub sized : Sized job
  pub matrix : (j : ℕ) → j < length job.matrix → get_or job.matrix j 0 < 256 ^ 8
  pub rhs : (j : ℕ) → j < length job.rhs → get_or job.rhs j 0 < 256 ^ 8

module _ (zeros : Zeros) (file : List ℕ) (job : Contents) (at : ℕ) (r : Read zeros file job at) where
  pub read_sized : Sized job
  read_sized =
      record {
        sizes = sizes_bounds file job.sizes r.start r.sizes;
        entries = length_found zeros file (map_bit file) (triangle job.sizes.order) r.next job.matrix r.mid r.matrix;
        values = length_found Kept file (λ p. true) (job.sizes.order * job.sizes.count) r.mid job.rhs at r.rhs;
      }

  pub read_bounded : T (are_bytes file) → Bounded job
  read_bounded bytes =
      let t : ℕ = triangle job.sizes.order in
      let c : ℕ = job.sizes.order * job.sizes.count in
      record {
        sized = read_sized;
        matrix = λ j h. values_below zeros file bytes (map_bit file) t r.next job.matrix r.mid r.matrix j (omega (arith, read_sized.entries));
        rhs = λ j h. values_below Kept file bytes (λ p. true) c r.mid job.rhs at r.rhs j (omega (arith, read_sized.values));
      }

-- ---- the present rules beside the former ones

abbrev Either : {A : Type 0} → Parsed A → Parsed A → Type 0
Either p q = (p ≡ q) ⊎ ((place : ℕ) × (p ≡ fault (needless_zero place)))

then_either : {A B : Type 0} (p q : Parsed A) (f g : A → ℕ → Parsed B) → Either p q → ((a : A) (at : ℕ) → Either (f a at) (g a at)) → Either (and_then p f) (and_then q g)
then_either p q f g (inr x) h = inr (x.0, ap (λ p. and_then p f) x.1)
then_either p (fault x) f g (inl e) h = inl (ap (λ p. and_then p f) e)
then_either p (found a at) f g (inl e) h =
    elim (h a at) [
      | inl i ↦ inl (ap (λ p. and_then p f) e ∙ i)
      | inr i ↦ inr (i.0, ap (λ p. and_then p f) e ∙ i.1)
    ]

module _ (file : List ℕ) where
  value_either : (present : Bool) (at : ℕ) → Either (value Needless file present at) (value Kept file present at)
  unfolding value needless
  value_either true at = then_either (field file at 8) (field file at 8) _ _ (inl refl) (λ bits next. go bits next (eqb bits 0) refl)
    where
      go : (bits next : ℕ) (b : Bool) → eqb bits 0 ≡ b → Either (require (not (eqb bits 0)) (needless_zero at) (found bits next)) (found bits next)
      go bits next true e = inr (at, rw e)
      go bits next false e = inl (rw e)
  value_either false at = inl refl

  values_either : (present : ℕ → Bool) (k at : ℕ) → Either (values Needless file present k at) (values Kept file present k at)
  unfolding values
  values_either present zero at = inl refl
  values_either present (suc k) at =
      then_either (values Needless file present k at) (values Kept file present k at) _ _ (values_either present k at)
      (λ before mid. then_either (value Needless file (present k) mid) (value Kept file (present k) mid) _ _ (value_either (present k) mid) (λ v next. inl refl))

pub only_needless_zeros : OnlyNeedlessZeros
unfolding read_job read_contents read_values
only_needless_zeros file =
    then_either (read_sizes file) (read_sizes file) _ _ (inl refl)
    (λ sizes at. then_either (read_map file sizes.order at) (read_map file sizes.order at) _ _ (inl refl)
    (λ _ next. then_either (values Needless file (map_bit file) (triangle sizes.order) next) (values Kept file (map_bit file) (triangle sizes.order) next) _ _
    (values_either file (map_bit file) (triangle sizes.order) next) (λ matrix mid. inl refl)))

-- what the present rules accept the former ones read alike
pub read_formerly : (file : List ℕ) (job : Contents) (at : ℕ) → read_job Needless file ≡ found job at → read_job Kept file ≡ found job at
read_formerly file job at e =
    elim (only_needless_zeros file) [
      | inl i ↦ sym i ∙ e
      | inr i ↦ fault_found (sym i.1 ∙ e)
    ]

-- ---- the former rules refuse by 13 alone

abbrev pub Under13 : {A : Type 0} → Parsed A → Type 0
Under13 (fault f) = fault_code f ≡ 13
Under13 (found a at) = Unit {0}

then_13 : {A B : Type 0} (p : Parsed A) (rest : A → ℕ → Parsed B) → Under13 p → ((a : A) (at : ℕ) → Under13 (rest a at)) → Under13 (and_then p rest)
then_13 (fault f) rest h k = h
then_13 (found a at) rest h k = k a at

require_13 : {A : Type 0} (t : Bool) (place : ℕ) (p : Parsed A) → Under13 p → Under13 (require t (malformed place) p)
require_13 true place p h = h
require_13 false place p h = refl

module _ (file : List ℕ) where
  field_13 : (at width : ℕ) → Under13 (field file at width)
  unfolding field
  field_13 at width = require_13 (leb (at + width) (length file)) (length file) (found (little_endian (take width (drop at file))) (at + width)) tt

  bounded_13 : (at width low high : ℕ) → Under13 (bounded file at width low high)
  unfolding bounded
  bounded_13 at width low high = then_13 (field file at width) _ (field_13 at width) (λ v next. require_13 (leb low v && leb v high) at (found v next) tt)

  pub sizes_13 : Under13 (read_sizes file)
  unfolding read_sizes
  sizes_13 =
      then_13 (bounded file 0 2 0 64) _ (bounded_13 0 2 0 64) (λ n at.
      then_13 (bounded file at 2 1 200) _ (bounded_13 at 2 1 200) (λ b next.
      then_13 (bounded file next 1 0 16) _ (bounded_13 next 1 0 16) (λ m end. tt)))

  value_13 : (present : Bool) (at : ℕ) → Under13 (value Kept file present at)
  unfolding value needless
  value_13 true at = then_13 (field file at 8) _ (field_13 at 8) (λ v next. tt)
  value_13 false at = tt

  values_13 : (present : ℕ → Bool) (k at : ℕ) → Under13 (values Kept file present k at)
  unfolding values
  values_13 present zero at = tt
  values_13 present (suc k) at =
      then_13 (values Kept file present k at) _ (values_13 present k at) (λ before mid.
      then_13 (value Kept file (present k) mid) _ (value_13 (present k) mid) (λ v next. tt))

  pub contents_13 : (sizes : Sizes) (at : ℕ) → Under13 (read_contents Kept file sizes at)
  unfolding read_contents read_map read_values
  contents_13 sizes at =
      then_13 (read_map file sizes.order at) _
      (require_13 (leb (at + map_bytes sizes.order) (length file)) (length file) _
      (require_13 (padded file sizes.order (at + map_bytes sizes.order)) (at + map_bytes sizes.order - 1) (found tt (at + map_bytes sizes.order)) tt)) (λ _ next.
      then_13 (values Kept file (map_bit file) (triangle sizes.order) next) _ (values_13 (map_bit file) (triangle sizes.order) next) (λ matrix mid.
      then_13 (values Kept file (λ p. true) (sizes.order * sizes.count) mid) _ (values_13 (λ p. true) (sizes.order * sizes.count) mid) (λ rhs end.
      require_13 (eqb end (length file)) end (found (record { sizes = sizes; matrix = matrix; rhs = rhs }) end) tt)))

pub refused_by_13 : RefusedBy13
unfolding rewritten written read_job
refused_by_13 file f e =
    go (and_then (read_sizes file) (λ sizes at. read_contents Kept file sizes at))
    (then_13 (read_sizes file) _ (sizes_13 file) (λ sizes at. contents_13 file sizes at)) e
  where
    go : (p : Parsed Contents) → Under13 p → and_then p (λ job at. found (job_bytes job) (length (job_bytes job))) ≡ fault f → (p ≡ fault f) × (fault_code f ≡ 13)
    go (fault x) h q = let z : x ≡ f = cc in (ap fault z, ap fault_code (sym z) ∙ h)
    go (found job at) h q = let z : ◌≡◌ {A = ℕ} 0 1 = cc in absurd (omega arith)
