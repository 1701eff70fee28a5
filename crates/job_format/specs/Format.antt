-- Document 01, "A job and its listing", and request (i) of document 02: the job's bytes, field by field, with their first fault, 13 or 18. Values are bit patterns.
use Rattle.std.specs.Prelude.{ℕ, ◌+◌, ◌-◌, ◌*◌, ◌/◌, ◌%◌, ◌^◌, ◌≤◌, Bool, true, ◌||◌, List, Result, Ok, Err, leb, eqb, length, get_or}
use Rattle.shape.specs.Bounds.{max_block}
use Rattle.shape.specs.Places.{triangle}
use Rattle.job_format.specs.declared.Sizes.{Sizes}
use Rattle.job_format.specs.declared.Zeros.{Zeros}
use Rattle.job_format.specs.declared.Zeros.TheVariants.{Kept}
use Rattle.job_format.specs.declared.Fault.{Fault}
use Rattle.job_format.specs.declared.contents.Job.{Job}
use Rattle.job_format.specs.declared.reader.Reader.{Reader}
use Rattle.job_format.specs.Reading.{Parsed, fault, found, and_then, require, malformed, bounded, values}

abbrev pub max_job_order : ℕ
max_job_order = 64

abbrev pub max_job_rhs : ℕ
max_job_rhs = 16

-- order, block length and number of right-hand sides; the bits of the packed matrix; those of the right-hand sides, one after another
pub record Contents : Type 0 where
  pub sizes : Sizes
  pub matrix : List ℕ
  pub rhs : List ℕ

pub record InBounds (sizes : Sizes) : Type 0 where
  pub order : sizes.order ≤ max_job_order
  pub block_low : 1 ≤ sizes.block
  pub block_high : sizes.block ≤ max_block
  pub count : sizes.count ≤ max_job_rhs

-- order (2 bytes, at most 64), block length (2, from 1 to 200), right sides (1 byte, at most 16): place 0 for the order, 2 for the block length, 4 for the count
unfoldable pub read_sizes : List ℕ → Parsed Sizes
read_sizes file =
    and_then (bounded file 0 2 0 max_job_order) (λ n at.
    and_then (bounded file at 2 1 max_block) (λ b at.
    and_then (bounded file at 1 0 max_job_rhs) (λ m at.
    found (record { order = n; block = b; count = m }) at)))

-- A bit map of n(n + 1)/2 bits in packed order, lowest bit first, padded to bytes with zeros: its bytes, and bit p of it. It begins at byte 5.
unfoldable pub map_bytes : ℕ → ℕ
map_bytes n = (triangle n + 7) / 8

unfoldable pub map_bit : List ℕ → ℕ → Bool
map_bit file p = eqb (get_or file (5 + p / 8) 0 / 2 ^ (p % 8) % 2) 1

-- the bits past n(n + 1)/2 in the last map byte, the one before next, are zeros; a map of whole bytes has none
unfoldable pub padded : List ℕ → ℕ → ℕ → Bool
padded file n next = eqb (triangle n % 8) 0 || eqb (get_or file (next - 1) 0 / 2 ^ (triangle n % 8)) 0

-- the map is there and its padding is zeros: place the last map byte for padding
unfoldable pub read_map : List ℕ → ℕ → ℕ → Parsed (Unit {0})
read_map file n at =
    let next = at + map_bytes n in
    require (leb next (length file)) (malformed (length file))
    (require (padded file n next) (malformed (next - 1))
    (found tt next))

-- 8 bytes for each packed entry whose bit stands (an entry with no bit is +0), n × m right-side values of 8 bytes, and nothing after them: place the
-- first extra byte. A right side may be +0.
unfoldable pub read_values : Zeros → List ℕ → Sizes → ℕ → Parsed Contents
read_values zeros file sizes at =
    and_then (values zeros file (map_bit file) (triangle sizes.order) at) (λ matrix at.
    and_then (values Kept file (λ p. true) (sizes.order * sizes.count) at) (λ rhs at.
    require (eqb at (length file)) (malformed at)
    (found (record { sizes = sizes; matrix = matrix; rhs = rhs }) at)))

unfoldable pub read_contents : Zeros → List ℕ → Sizes → ℕ → Parsed Contents
read_contents zeros file sizes at = and_then (read_map file sizes.order at) (λ _ at. read_values zeros file sizes at)

-- One field after another. The first fault decides; a short file is seen only when the missing field is due. Kept gives the former rules, Needless the present ones.
unfoldable pub read_job : Zeros → List ℕ → Parsed Contents
read_job zeros file = and_then (read_sizes file) (λ sizes at. read_contents zeros file sizes at)

-- ---- what the code's answers stand for

-- the sizes, and a reader that stands after them
abbrev pub parsed_sizes : Result (Sizes × Reader) Fault → Parsed Sizes
parsed_sizes (Ok (sizes, reader)) = found sizes reader.at
parsed_sizes (Err f) = fault f

-- what a job's memory holds
abbrev pub contents : Job ℕ → Contents
contents job = record { sizes = job.sizes; matrix = job.matrix.now; rhs = job.rhs.now }
