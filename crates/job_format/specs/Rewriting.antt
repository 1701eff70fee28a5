-- Request (i) of document 02: a job's bytes from its contents, with no bit over +0; what rewriting a stored job gives; and what holds of both.
use Rattle.std.specs.Prelude.{ℕ, zero, suc, ◌+◌, ◌*◌, ◌/◌, ◌%◌, ◌^◌, ◌<◌, Bool, cond, not, List, [], ◌∷◌, ◌++◌, Result, Ok, Err, ◌⊎◌, ◌≡◌, T, eqb, length, get_or}
use Rattle.std.proofs.Math.Pow.{are_bytes}
use Rattle.shape.specs.Places.{triangle}
use Rattle.calls.specs.Sequences.{iterate, tabulate}
use Rattle.job_format.specs.declared.Fault.{Fault}
use Rattle.job_format.specs.declared.Sizes.{Sizes}
use Rattle.job_format.specs.declared.Zeros.{Zeros}
use Rattle.job_format.specs.declared.Zeros.TheVariants.{Kept, Needless}
use Rattle.job_format.specs.Reading.{Parsed, fault, found, and_then, needless, needless_zero, fault_code}
use Rattle.job_format.specs.Format.{Contents, InBounds, read_job}
use Rattle.text.specs.Writing.{overwrite}

-- ---- a job from its contents

-- the lowest width bytes of a number, least byte first
unfoldable pub bytes_of : ℕ → ℕ → List ℕ
bytes_of zero v = []
bytes_of (suc k) v = v % 256 ∷ bytes_of k (v / 256)

unfoldable pub sizes_bytes : Sizes → List ℕ
sizes_bytes sizes = bytes_of 2 sizes.order ++ bytes_of 2 sizes.block ++ bytes_of 1 sizes.count

-- bits first, first + 1, .. as a number of count bits, lowest bit first
unfoldable pub bits_from : (ℕ → Bool) → ℕ → ℕ → ℕ
bits_from bit first zero = 0
bits_from bit first (suc k) = cond (bit first) 1 0 + 2 * bits_from bit (suc first) k

-- a bit stands over each entry that is not +0, and none over the padding
unfoldable pub stands : List ℕ → ℕ → Bool
stands matrix p = not (eqb (get_or matrix p 0) 0)

unfoldable pub map_of : List ℕ → List ℕ
map_of matrix = tabulate ((length matrix + 7) / 8) (λ i. bits_from (stands matrix) (8 * i) 8)

-- 8 bytes for each value, but none for a needless zero
unfoldable pub value_bytes : Zeros → ℕ → List ℕ
value_bytes zeros bits = cond (needless zeros bits) [] (bytes_of 8 bits)

unfoldable pub values_bytes : Zeros → List ℕ → List ℕ
values_bytes zeros values = iterate (λ k bytes. bytes ++ value_bytes zeros (get_or values k 0)) (length values) []

unfoldable pub job_bytes : Contents → List ℕ
job_bytes job = sizes_bytes job.sizes ++ map_of job.matrix ++ values_bytes Needless job.matrix ++ values_bytes Kept job.rhs

-- ---- rewriting

-- the most bytes that a job can have
abbrev pub max_job : ℕ
max_job = 25097

-- the bytes of what was read, with their number for the position, or its fault
unfoldable pub written : Parsed Contents → Parsed (List ℕ)
written read = and_then read (λ job at. found (job_bytes job) (length (job_bytes job)))

-- The job read under the former rules, written with no bit over +0; a job refused under 13 yields nothing.
unfoldable pub rewritten : List ℕ → Parsed (List ℕ)
rewritten file = written (read_job Kept file)

abbrev pub answered : Parsed (List ℕ) → Result ℕ Fault
answered (found text end) = Ok (length text)
answered (fault f) = Err f

abbrev pub memory_after : Parsed (List ℕ) → List ℕ → List ℕ
memory_after (found text end) memory = overwrite 0 text memory
memory_after (fault f) memory = memory

-- what the code answers and leaves
pub record Rewrites (text : Parsed (List ℕ)) (before : List ℕ) (r : Result ℕ Fault) (after : List ℕ) : Type 0 where
  pub answer : r ≡ answered text
  pub memory : after ≡ memory_after text before

-- ---- what holds of it

-- Jobs read without 13 or 18 are equal in bytes exactly if order, block length, count and the bits of all matrix and right-side values are equal.
abbrev pub SameBytes : Type 0
SameBytes =
    (file file' : List ℕ) → T (are_bytes file) → T (are_bytes file') →
    (job job' : Contents) (at at' : ℕ) → read_job Needless file ≡ found job at → read_job Needless file' ≡ found job' at' →
    (file ≡ file' → job ≡ job') × (job ≡ job' → file ≡ file')

-- What rewriting gives is read without 13 or 18, and has the contents that its input has under the former rules.
abbrev pub ReadsBack : Type 0
ReadsBack =
    (file text : List ℕ) (end : ℕ) → T (are_bytes file) → rewritten file ≡ found text end →
    (job : Contents) × (at : ℕ) × (read_job Kept file ≡ found job at) × (read_job Needless text ≡ found job end)

-- Rewriting a job that is read without 13 or 18 gives it back byte for byte.
abbrev pub GivesBack : Type 0
GivesBack = (file : List ℕ) (job : Contents) (at : ℕ) → T (are_bytes file) → read_job Needless file ≡ found job at → rewritten file ≡ found file (length file)

-- What yields nothing is what the former rules refuse, with their fault, which is one under 13.
abbrev pub RefusedBy13 : Type 0
RefusedBy13 = (file : List ℕ) (f : Fault) → rewritten file ≡ fault f → (read_job Kept file ≡ fault f) × (fault_code f ≡ 13)

-- Contents of any sizes within the bounds and any bits have a job.
abbrev pub WrittenIsRead : Type 0
WrittenIsRead =
    (job : Contents) → InBounds job.sizes → length job.matrix ≡ triangle job.sizes.order → length job.rhs ≡ job.sizes.order * job.sizes.count →
    ((p : ℕ) → p < length job.matrix → get_or job.matrix p 0 < 2 ^ 64) → ((p : ℕ) → p < length job.rhs → get_or job.rhs p 0 < 2 ^ 64) →
    read_job Needless (job_bytes job) ≡ found job (length (job_bytes job))

-- The present rules read as the former ones did, or meet a needless zero.
abbrev pub OnlyNeedlessZeros : Type 0
OnlyNeedlessZeros = (file : List ℕ) → (read_job Needless file ≡ read_job Kept file) ⊎ ((place : ℕ) × (read_job Needless file ≡ fault (needless_zero place)))
