-- Laws of specs/Listing.antt: the bounds of a job that was read, its result from its parts, and the lengths of listings. Assumes nothing.
use Prim.Native.Nat.{ℕ, ◌+◌, ◌≤◌, ◌<◌, min}
use native.Mathlib.Nat.{mul-le-mul}
use native.Mathlib.Omega.{arith}
use native.Mathlib.Decide.{ℕ_discrete as dec_eq}
use mathlib.Core.Path.{◌≡◌, refl, sym, ap, ◌∙◌, subst}
use mathlib.Core.Bool.{Bool, true, false, cond, not, ◌&&◌}
use mathlib.Core.List.{List, [], ◌∷◌, ◌++◌}
use lib.Dec.{T}
use lib.ListN.{length, take, replicate, length-append}
use lib.Ieee.{Float, binary64, of_bits}
use borrow.Author.Tests.{le-leb, lt-leb, eq-eqb}
use Rattle.shape.specs.Places.{block_work}
use Rattle.shape.specs.declared.Shape.{Shape}
use Rattle.calls.specs.declared.Verdict.{Verdict}
use Rattle.calls.specs.declared.outcomes.Refusal.{Refusal}
use Rattle.calls.specs.Outcomes.{verdict_of_refusal}
use Rattle.calls.proofs.OutcomeLaws.{not_accepted}
use Rattle.calls.specs.declared.Layout.{Layout}
use Rattle.calls.specs.declared.Layout.TheVariants.{Blocked}
use Rattle.calls.specs.Sequences.{all}
use Rattle.calls.specs.Triangles.{place_of, height, load}
use Rattle.binary64.specs.Kinds.{finite, zero64}
use Rattle.calls.specs.Refusals.{success, accepted, first_refusal, rule7, rule8, rule12}
use Rattle.calls.specs.Calls.{answer, succeeded, Solved, packed_to_blocked, blocked_to_packed, factorize, solver_checks, solve, solved, rhs_verdict, rhs_part, solution}
use Rattle.calls.specs.Arithmetic.{forward}
use Rattle.calls.specs.Pipelines.{Ended, packed_raw, ended_by, blocked_pipeline}
use Rattle.calls.proofs.Refusals.{cond_both}
use Rattle.calls.proofs.Judging.{lowest_all}
use Rattle.calls.proofs.CheckLaws.{refuse_accepted, solver_success as checks-success}
use Rattle.job_format.specs.declared.Sizes.{Sizes}
use Rattle.job_format.specs.Reading.{Parsed, fault, found, and_then, fault_code, fault_place}
use Rattle.job_format.specs.declared.Fault.{Fault}
use Rattle.job_format.specs.declared.Zeros.TheVariants.{Needless}
use Rattle.job_format.specs.Format.{Contents, InBounds, read_sizes, read_contents, read_job}
use Rattle.text.specs.Decimals.{digits, decimal}
use Rattle.text.proofs.Lists.{take_zeros}
use Rattle.text.proofs.Decimals.{length_decimal, decimal_below}
use Rattle.job.specs.Listing.{Job, job_line, end_line, solution_lines, result_lines, fault_lines, job_ended, job_verdict, listing_of, listed, listed_from, listing, listing_in, JobSolved}
use Rattle.job.proofs.Texts.{length_job_line, length_end_line, length_solution_lines, refused_lines, accepted_lines, length_fault}
use Rattle.job_format.specs.Rewriting.{max_job}
use Rattle.job_format.proofs.Truncation.{job_prefix, sizes_enough}

-- ---- the result

abbrev Succeeds : Verdict → Type 0
Succeeds v = T (accepted v) → v ≡ success

rule12_success : (q : ℕ) (y x : List Float) → T (accepted (rule12 q y x)) → rule12 q y x ≡ success
unfolding rule12
rule12_success q y x h = refuse_accepted (not (all finite y && all finite x)) 11 q h

solver_success : (layout : Layout) (shape : Shape) (m : ℕ) (matrix rhs work : List Float) → Succeeds (answer (solve layout shape m matrix rhs work).result).verdict
unfolding solve solved rhs_verdict
solver_success layout shape m matrix rhs work =
    let n = shape.order in
    let l = load (place_of layout n shape.block) (height n) n matrix in
    cond_both (λ (s : Solved). Succeeds (answer s.result).verdict) (accepted (solver_checks layout shape m matrix rhs (length work))) _ _
    (λ k.
    lowest_all (λ q. rule12 q (forward n l (rhs_part n q rhs)) (solution n l (rhs_part n q rhs)))
    (λ q. rule12_success q (forward n l (rhs_part n q rhs)) (solution n l (rhs_part n q rhs))) m k)
    (λ k. checks-success layout shape m matrix rhs (length work) k)

-- what the pipeline's solver returns, where it succeeds, is success
pipeline_success : (n b m : ℕ) (matrix rhs work : List Float) → Succeeds (answer (blocked_pipeline n b m matrix rhs work).solver_result).verdict
unfolding blocked_pipeline
pipeline_success n b m matrix rhs work =
    let p = packed_to_blocked (packed_raw n b) matrix work in
    let f = factorize Blocked p.result.shape p.matrix p.work in
    let s = solve Blocked f.result.shape m f.matrix rhs f.work in
    let q = blocked_to_packed s.result.shape f.matrix s.work in
    let solver : Ended =
    record { factor_result = f.result; solver_result = s.result; shape = q.result.shape; matrix = q.matrix; rhs = s.rhs; work = q.work }
    in
    let factor : Ended = ended_by f.result f.matrix rhs f.work in
    go (succeeded p.result) refl (cond (succeeded f.result) solver factor) (ended_by p.result p.matrix rhs p.work)
    (go (succeeded f.result) refl solver factor (solver_success Blocked f.result.shape m f.matrix rhs f.work) (λ e k. absurd (subst T e k)))
    (λ e k. absurd (subst T e k))
  where
    go : (c : Bool) {d : Bool} → d ≡ c → (x y : Ended) → Succeeds (answer x.solver_result).verdict → (d ≡ false → Succeeds (answer y.solver_result).verdict) →
        Succeeds (answer (cond c x y).solver_result).verdict
    go true e x y g k = g
    go false e x y g k = k e

-- a refusal of 7 or 8 is the job's verdict, and memory is not looked at
pub job_refused : (job : Job) (r : Refusal) (m x : List Float) → verdict_of_refusal r ≡ first_refusal (rule7 job.matrix ∷ rule8 job.rhs ∷ []) → JobSolved job (verdict_of_refusal r) m x
unfolding job_verdict
job_refused job r m x e =
    let no : accepted (verdict_of_refusal r) ≡ false = not_accepted r in
    record { verdict = rw (← e, no) refl; matrix = λ h. absurd (subst T no h); rhs = λ h. absurd (subst T no h) }

-- ---- lengths

pub end_short : (code place : ℕ) → length (end_line code place) ≤ 46
end_short code place = omega (arith, length_end_line code place, length_decimal code, length_decimal place)

end_success : length (end_line 0 0) ≡ 8
unfolding end_line decimal digits
end_success = refl

module _ (sizes : Sizes) (inside : InBounds sizes) where
  job_short : length (job_line sizes.order sizes.block sizes.count) ≤ 14
  job_short =
      omega (
        arith,
        length_job_line sizes.order sizes.block sizes.count,
        decimal_below 2 sizes.order (omega arith) (omega (arith, inside.order)),
        decimal_below 3 sizes.block (omega arith) (omega (arith, inside.block_high)),
        decimal_below 2 sizes.count (omega arith) (omega (arith, inside.count)),
      )

  pub fault_short : (f : Fault) → length (fault_lines sizes f) ≤ 60
  fault_short f = omega (arith, length_fault sizes f, job_short, end_short (fault_code f) (fault_place f))

  -- a listing of at most 2,080 matrix values and 1,024 right-side values
  pub result_short :
      (verdict : Verdict) (matrix rhs : List Float) →
      Succeeds verdict → length matrix ≤ 2080 → length rhs ≤ 1024 →
      length (result_lines sizes verdict matrix rhs) ≤ 58998
  result_short verdict matrix rhs is h k =
      elim (dec_eq verdict.code 0) [
        | yes e ↦
            (let s : verdict ≡ success = is (subst T (sym (eq-eqb verdict.code 0 e)) tt) in
            let place : verdict.place ≡ 0 = ap (λ (r : Verdict). r.place) s in
            let line = job_line sizes.order sizes.block sizes.count in
            let last = end_line verdict.code verdict.place in
            let short : length last ≡ 8 = ap length (ap (λ (c : ℕ). end_line c verdict.place) e ∙ ap (end_line 0) place) ∙ end_success in
            omega (
              arith,
              ap length (accepted_lines matrix rhs sizes verdict e),
              length-append (line ++ solution_lines matrix rhs) last,
              length-append line (solution_lines matrix rhs),
              length_solution_lines matrix rhs,
              job_short,
            ))
        | no e ↦
            omega (
              arith,
              ap length (refused_lines matrix rhs sizes verdict e),
              length-append (job_line sizes.order sizes.block sizes.count) (end_line verdict.code verdict.place),
              job_short,
              end_short verdict.code verdict.place,
            )
      ]

-- ---- a job that was solved

-- the verdict of a job that is accepted is success
job_success : (job : Job) → Succeeds (job_verdict job)
unfolding job_verdict job_ended
job_success job =
    let n = job.sizes.order in
    let b = job.sizes.block in
    go (first_refusal (rule7 job.matrix ∷ rule8 job.rhs ∷ []))
    (pipeline_success n b job.sizes.count job.matrix job.rhs (replicate (block_work n b) zero64))
  where
    go : (v : Verdict) {r : Verdict} → Succeeds r → Succeeds (cond (accepted v) r v)
    go v {r} f = at (accepted v) refl
      where
        at : (t : Bool) → accepted v ≡ t → Succeeds (cond t r v)
        at true e = f
        at false e = λ h. absurd (rw e at h)

-- 7 and 8 pass, and the pipeline ran
pub job_ran : (job : Job) (e : Ended) → success ≡ first_refusal (rule7 job.matrix ∷ rule8 job.rhs ∷ []) → e ≡ job_ended job → JobSolved job (answer e.solver_result).verdict e.matrix e.rhs
unfolding job_verdict
job_ran job e p i =
    record {
      verdict = rw (← p) (ap (λ (x : Ended). (answer x.solver_result).verdict) i);
      matrix = λ h. ap (λ (x : Ended). x.matrix) i;
      rhs = λ h. ap (λ (x : Ended). x.rhs) i;
    }

-- the lines of what was solved are the job's listing
pub solved_lines : (job : Job) (r : Verdict) (m x : List Float) → JobSolved job r m x → result_lines job.sizes r m x ≡ listing_of job
unfolding listing_of result_lines
solved_lines job r m x s = go (accepted r) refl
  where
    go : (b : Bool) → accepted r ≡ b → result_lines job.sizes r m x ≡ listing_of job
    go true e = let t : T (accepted r) = subst T (sym e) tt in ap (λ (y : Verdict). result_lines job.sizes y m x) s.verdict ∙ ap (λ (y : List Float). result_lines job.sizes (job_verdict job) y x) (s.matrix t) ∙ ap (result_lines job.sizes (job_verdict job) (job_ended job).matrix) (s.rhs t)
    go false e = let f : accepted (job_verdict job) ≡ false = ap accepted (sym s.verdict) ∙ e in let g = s.verdict in rw (g, f)

min_right : (n b : ℕ) → n ≤ 64 → min n b ≤ 64
min_right n b h = omega arith

pub work_small : (n b : ℕ) → n ≤ 64 → block_work n b ≤ 4096
unfolding block_work
work_small n b h = mul-le-mul h (min_right n b h)

-- ---- the pipeline's end

-- the pipeline's end on the job's memory, with work memory lent from an array of zeros
pub ended_as :
    (job : Job) (needed : ℕ) (e : Ended) → needed ≡ block_work job.sizes.order job.sizes.block → needed ≤ 4096 →
    e ≡ blocked_pipeline job.sizes.order job.sizes.block job.sizes.count job.matrix job.rhs (take needed (replicate 4096 (of_bits binary64 0))) →
    e ≡ job_ended job
unfolding job_ended of_bits
ended_as job needed e w h i =
    i
    ∙ ap (blocked_pipeline job.sizes.order job.sizes.block job.sizes.count job.matrix job.rhs)
    (take_zeros 4096 needed (of_bits binary64 0) h ∙ ap (λ (x : ℕ). replicate x zero64) w)

pub job_success_of : (job : Job) (r : Verdict) (m x : List Float) → JobSolved job r m x → T (accepted r) → r ≡ success
job_success_of job r m x s h = s.verdict ∙ job_success job (subst (λ (y : Verdict). T (accepted y)) s.verdict h)

-- ---- what is written to memory of a given size

module _ (file : List ℕ) (size : ℕ) where
  pub no_room : size < 58998 → listing_in size file ≡ []
  unfolding listing_in
  no_room h = rw (lt-leb 58998 size h)

  pub with_room : 58998 ≤ size → listing_in size file ≡ listing file
  unfolding listing_in
  with_room h = rw (le-leb 58998 size h)

module _ (file : List ℕ) where
  pub listing_fault : (f : Fault) → fault f ≡ read_sizes file → end_line (fault_code f) (fault_place f) ≡ listing file
  unfolding listing
  listing_fault f e = rw (← e)

  pub listing_sizes : (sizes : Sizes) (at : ℕ) → found sizes at ≡ read_sizes file → listed sizes (read_contents Needless file sizes at) ≡ listing file
  unfolding listing
  listing_sizes sizes at e = rw (← e)

-- ---- reading 25,098 bytes is enough

-- the listing by what was read of the sizes and of the whole job
listed_by : Parsed Sizes → Parsed Contents → List ℕ
listed_by (fault f) job = end_line (fault_code f) (fault_place f)
listed_by (found sizes at) job = listed sizes job

listing_by : (file : List ℕ) → listing file ≡ listed_by (read_sizes file) (read_job Needless file)
unfolding listing read_job listed_by
listing_by file = go (read_sizes file)
  where
    go : (p : Parsed Sizes) → listed_from file p ≡ listed_by p (and_then p (λ sizes at. read_contents Needless file sizes at))
    go (fault f) = refl
    go (found sizes at) = refl

pub listing_prefix : (file : List ℕ) → listing (take (max_job + 1) file) ≡ listing file
listing_prefix file =
    listing_by (take (max_job + 1) file)
    ∙ ap (λ (p : Parsed Sizes). listed_by p (read_job Needless (take (max_job + 1) file))) (sizes_enough file)
    ∙ ap (listed_by (read_sizes file)) (job_prefix Needless file)
    ∙ sym (listing_by file)
