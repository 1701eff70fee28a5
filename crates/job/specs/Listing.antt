-- Document 01, "A job and its listing": the job's values from their bits, and the listing's bytes.
use Rattle.std.specs.Prelude.{ℕ, ◌+◌, ◌-◌, ◌/◌, ◌%◌, ◌^◌, cond, List, [], ◌∷◌, ◌++◌, map, ◌≡◌, T, leb, ltb, eqb, length, get_or, replicate, Float}
use Rattle.std.specs.Float.{nan, binary64}
use Rattle.std.specs.Float.Ieee.{of_bits, to_bits}
use Rattle.binary64.specs.Kinds.{zero64}
use Rattle.shape.specs.Places.{block_work}
use Rattle.calls.specs.declared.Verdict.{Verdict}
use Rattle.calls.specs.Sequences.{iterate, tabulate}
use Rattle.calls.specs.Refusals.{accepted, rule7, rule8, first_refusal}
use Rattle.calls.specs.Calls.{answer}
use Rattle.calls.specs.Pipelines.{Ended, blocked_pipeline}
pub use Rattle.text.specs.Decimals.{space, line_feed, digits, decimal}
use Rattle.job_format.specs.declared.Fault.{Fault}
use Rattle.job_format.specs.declared.Sizes.{Sizes}
use Rattle.job_format.specs.declared.Zeros.TheVariants.{Needless}
use Rattle.job_format.specs.declared.contents.Job as lent
use Rattle.job_format.specs.Reading.{Parsed, fault, found, fault_code, fault_place}
use Rattle.job_format.specs.Format.{Contents, read_sizes, read_contents}

-- ---- values

-- order, block length and number of right-hand sides; packed matrix; right-hand sides one after another
pub record Job : Type 0 where
  pub sizes : Sizes
  pub matrix : List Float
  pub rhs : List Float

abbrev pub floats : List ℕ → List Float
floats bits = map (of_bits binary64) bits

abbrev pub job_of : Contents → Job
job_of read = record { sizes = read.sizes; matrix = floats read.matrix; rhs = floats read.rhs }

-- what a job's memory holds
abbrev pub held : lent.Job Float → Job
held job = record { sizes = job.sizes; matrix = job.matrix.now; rhs = job.rhs.now }

-- ---- numbers

-- 0 to 9, then A to F
unfoldable pub hex_digit : ℕ → ℕ
hex_digit d = cond (ltb d 10) (48 + d) (55 + d)

-- 16 upper-case hexadecimal digits of the bits
unfoldable pub hexadecimal : Float → List ℕ
hexadecimal v = tabulate 16 (λ i. hex_digit (to_bits binary64 v / 16 ^ (15 - i) % 16))

-- ---- lines

-- `JOB` gives n, b, m in decimal
unfoldable pub job_line : ℕ → ℕ → ℕ → List ℕ
job_line n b m = (74 ∷ 79 ∷ 66 ∷ space ∷ []) ++ decimal n ++ (space ∷ []) ++ decimal b ++ (space ∷ []) ++ decimal m ++ (line_feed ∷ [])

-- `F` and `X`: a line's head and a value
unfoldable pub value_line : List ℕ → Float → List ℕ
value_line head v = head ++ hexadecimal v ++ (line_feed ∷ [])

unfoldable pub value_lines : List ℕ → List Float → List ℕ
value_lines head vs = iterate (λ k lines. lines ++ value_line head (get_or vs k nan)) (length vs) []

-- `END` code and place in decimal
unfoldable pub end_line : ℕ → ℕ → List ℕ
end_line code place = (69 ∷ 78 ∷ 68 ∷ space ∷ []) ++ decimal code ++ (space ∷ []) ++ decimal place ++ (line_feed ∷ [])

-- ---- the listing

-- Codes 7 (on the packed matrix) and 8 follow, then the blocked pipeline, with work memory of its needed length.
unfoldable pub job_ended : Job → Ended
job_ended job =
    let n = job.sizes.order in
    let b = job.sizes.block in
    blocked_pipeline n b job.sizes.count job.matrix job.rhs (replicate (block_work n b) zero64)

unfoldable pub job_verdict : Job → Verdict
job_verdict job =
    let values = first_refusal (rule7 job.matrix ∷ rule8 job.rhs ∷ []) in
    cond (accepted values) (answer (job_ended job).solver_result).verdict values

-- After code 13 only `END` stands; after others `JOB` and `END`. The value lines hold the matrix and the right-hand sides at the pipeline's end.
unfoldable pub solution_lines : List Float → List Float → List ℕ
solution_lines matrix rhs = value_lines (70 ∷ space ∷ []) matrix ++ value_lines (88 ∷ space ∷ []) rhs

unfoldable pub result_lines : Sizes → Verdict → List Float → List Float → List ℕ
result_lines sizes verdict matrix rhs =
    job_line sizes.order sizes.block sizes.count
    ++ cond (accepted verdict) (solution_lines matrix rhs) []
    ++ end_line verdict.code verdict.place

unfoldable pub fault_lines : Sizes → Fault → List ℕ
fault_lines sizes f = cond (eqb (fault_code f) 13) [] (job_line sizes.order sizes.block sizes.count) ++ end_line (fault_code f) (fault_place f)

unfoldable pub listing_of : Job → List ℕ
listing_of job = result_lines job.sizes (job_verdict job) (job_ended job).matrix (job_ended job).rhs

-- what was read of a job whose sizes are known
abbrev pub listed : Sizes → Parsed Contents → List ℕ
listed sizes (fault f) = fault_lines sizes f
listed sizes (found job at) = listing_of (job_of job)

-- a job whose sizes could not be read has no first line
abbrev pub listed_from : List ℕ → Parsed Sizes → List ℕ
listed_from file (fault f) = end_line (fault_code f) (fault_place f)
listed_from file (found sizes at) = listed sizes (read_contents Needless file sizes at)

unfoldable pub listing : List ℕ → List ℕ
listing file = listed_from file (read_sizes file)

-- the longest listing: n 64, b 200, m 16, accepted
abbrev pub max_listing : ℕ
max_listing = 58998

-- what is written to memory of a given size: the listing where the longest one has room, else nothing
unfoldable pub listing_in : ℕ → List ℕ → List ℕ
listing_in size file = cond (leb max_listing size) (listing file) []

-- the verdict of a job, and the memory that it leaves where it is accepted
pub record JobSolved (job : Job) (v : Verdict) (matrix' rhs' : List Float) : Type 0 where
  pub verdict : v ≡ job_verdict job
  pub matrix : T (accepted v) → matrix' ≡ (job_ended job).matrix
  pub rhs : T (accepted v) → rhs' ≡ (job_ended job).rhs
