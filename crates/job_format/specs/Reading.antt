-- Reading from front to end, one field after another: what was read and the next position, or the first fault, its code and its place.
use Rattle.std.specs.Prelude.{ℕ, zero, suc, ◌+◌, ◌*◌, Bool, false, cond, not, ◌&&◌, List, [], ◌∷◌, ◌++◌, Result, Ok, Err, leb, eqb, length, take, drop}
use Rattle.job_format.specs.declared.Fault.{Fault}
use Rattle.job_format.specs.declared.Fault.TheVariants.{Malformed, NeedlessZero}
use Rattle.job_format.specs.declared.Zeros.{Zeros}
use Rattle.job_format.specs.declared.Zeros.TheVariants.{Kept, Needless}

pub data Parsed (A : Type 0) : Type 0 where
  fault : Fault → Parsed A
  found : A → ℕ → Parsed A

abbrev pub and_then : {A B : Type 0} → Parsed A → (A → ℕ → Parsed B) → Parsed B
and_then (fault f) rest = fault f
and_then (found a at) rest = rest a at

-- go on where the condition holds, else the fault
abbrev pub require : {A : Type 0} → Bool → Fault → Parsed A → Parsed A
require condition f rest = cond condition rest (fault f)

-- 13: no job; 18: a standing bit over +0
abbrev pub malformed : ℕ → Fault
malformed place = Malformed place

abbrev pub needless_zero : ℕ → Fault
needless_zero place = NeedlessZero place

abbrev pub fault_code : Fault → ℕ
fault_code (Malformed place) = 13
fault_code (NeedlessZero place) = 18

abbrev pub fault_place : Fault → ℕ
fault_place (Malformed place) = place
fault_place (NeedlessZero place) = place

-- least byte first
unfoldable pub little_endian : List ℕ → ℕ
little_endian [] = 0
little_endian (x ∷ xs) = x + 256 * little_endian xs

-- a field of width bytes; where the file ends early, the fault is at the file's length
unfoldable pub field : List ℕ → ℕ → ℕ → Parsed ℕ
field file at width = cond (leb (at + width) (length file)) (found (little_endian (take width (drop at file))) (at + width)) (fault (malformed (length file)))

-- a field from low to high; where its value lies outside, the fault is at its own position
unfoldable pub bounded : List ℕ → ℕ → ℕ → ℕ → ℕ → Parsed ℕ
bounded file at width low high = and_then (field file at width) (λ value next. require (leb low value && leb value high) (malformed at) (found value next))

-- +0 is the pattern 0. The former rules keep one wherever it stands; under the present ones it is needless where a bit stands for it.
unfoldable pub needless : Zeros → ℕ → Bool
needless Kept bits = false
needless Needless bits = eqb bits 0

-- the bits of a value of 8 bytes, a needless zero being a fault at its first byte; a value that is not present is +0 and takes no bytes
unfoldable pub value : Zeros → List ℕ → Bool → ℕ → Parsed ℕ
value zeros file present at = cond present (and_then (field file at 8) (λ bits next. require (not (needless zeros bits)) (needless_zero at) (found bits next))) (found 0 at)

-- values 0 .. count − 1, one after another
unfoldable pub values : Zeros → List ℕ → (ℕ → Bool) → ℕ → ℕ → Parsed (List ℕ)
values zeros file present zero at = found [] at
values zeros file present (suc k) at =
    and_then (values zeros file present k at) (λ before at.
    and_then (value zeros file (present k) at) (λ bits next.
    found (before ++ (bits ∷ [])) next))

-- ---- what the code's answers stand for, with the position that a reader stands at

abbrev pub parsed : {A : Type 0} → Result A Fault → ℕ → Parsed A
parsed (Ok a) next = found a next
parsed (Err f) next = fault f

-- the answer to a reading whose value is left in memory
abbrev pub parsed_as : {A : Type 0} → A → Result (Unit {0}) Fault → ℕ → Parsed A
parsed_as a (Ok _) next = found a next
parsed_as a (Err f) next = fault f
