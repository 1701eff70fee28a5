-- Stored jobs and what rewriting makes of them, as one table, covered by one proposition. Files stand as bytes and values as bit patterns. Assumes nothing.
use Prim.Native.Nat.{ℕ}
use mathlib.Core.Bool.{Bool, true, false, ◌&&◌}
use mathlib.Core.List.{List, [], ◌∷◌, ◌++◌}
use lib.Dec.{T, eqb}
use lib.ListN.{length, take, replicate}
use Rattle.calls.specs.Sequences.{iterate, grow, tabulate}
use Rattle.shape.specs.Places.{triangle}
use Rattle.text.proofs.Comparisons.{same}
use Rattle.job_format.specs.Reading.{Parsed, fault, found, fault_code, fault_place, little_endian, field, bounded, needless, value, values}
use Rattle.job_format.specs.Format.{read_sizes, map_bytes, map_bit, padded, read_map, read_values, read_contents, read_job}
use Rattle.job_format.specs.Rewriting.{bytes_of, sizes_bytes, bits_from, stands, map_of, value_bytes, values_bytes, job_bytes, written, rewritten}

-- 8 bytes of each pattern
unfoldable pub words : List ℕ → List ℕ
unfolding bytes_of
words [] = []
words (p ∷ ps) = bytes_of 8 p ++ words ps

unfoldable pub file : ℕ → ℕ → ℕ → List ℕ → List ℕ → List ℕ
unfolding bytes_of words
file n b m map patterns = bytes_of 2 n ++ bytes_of 2 b ++ (m ∷ []) ++ map ++ words patterns

-- a job's bytes and those that rewriting gives; or the place under 13
data Outcome : Type 0 where
  becomes : List ℕ → Outcome
  malformed : ℕ → Outcome

record Row : Type 0 where
  bytes : List ℕ
  outcome : Outcome

row : List ℕ → Outcome → Row
row b o = record { bytes = b; outcome = o }

right : Parsed (List ℕ) → Outcome → Bool
unfolding same
right (found text end) (becomes bytes) = same text bytes && eqb end (length bytes)
right (fault f) (malformed place) = eqb (fault_code f) 13 && eqb (fault_place f) place
right (found text end) (malformed place) = false
right (fault f) (becomes bytes) = false

all_right : List Row → Bool
unfolding right
all_right [] = true
all_right (r ∷ rs) = right (rewritten r.bytes) r.outcome && all_right rs

-- ---- the table

-- document 01's job
job : List ℕ
unfolding file
job =
    file 3 2 1 (0x3f ∷ [])
    (0x4010_0000_0000_0000 ∷ 0x4000_0000_0000_0000 ∷ 0xc000_0000_0000_0000 ∷ 0x4024_0000_0000_0000 ∷ 0x4014_0000_0000_0000 ∷ 0x4018_0000_0000_0000 ∷
    0x4010_0000_0000_0000 ∷ 0x4031_0000_0000_0000 ∷ 0x4022_0000_0000_0000 ∷ [])

table : List Row
unfolding row file job
table =
    -- jobs without a needless zero come back: document 01's, those of order 0, one without an entry, one with an entry in each byte of its map
    row job (becomes job) ∷
    row (file 0 1 0 [] []) (becomes (file 0 1 0 [] [])) ∷
    row (file 0 200 16 [] []) (becomes (file 0 200 16 [] [])) ∷
    row (file 20 200 0 (replicate 27 0) []) (becomes (file 20 200 0 (replicate 27 0) [])) ∷
    row (file 4 2 0 (0x91 ∷ 0x02 ∷ []) (1 ∷ 2 ∷ 3 ∷ 4 ∷ [])) (becomes (file 4 2 0 (0x91 ∷ 0x02 ∷ []) (1 ∷ 2 ∷ 3 ∷ 4 ∷ []))) ∷
    -- a bit over +0 goes with its bytes: the only entry, the first, the last, one in the second byte of a map, the first and the last of order 20; orders to 64 are in tests/rewrite
    row (file 1 1 0 (0x01 ∷ []) (0 ∷ [])) (becomes (file 1 1 0 (0x00 ∷ []) [])) ∷
    row (file 2 7 0 (0x07 ∷ []) (0 ∷ 5 ∷ 6 ∷ [])) (becomes (file 2 7 0 (0x06 ∷ []) (5 ∷ 6 ∷ []))) ∷
    row (file 2 7 0 (0x07 ∷ []) (5 ∷ 6 ∷ 0 ∷ [])) (becomes (file 2 7 0 (0x03 ∷ []) (5 ∷ 6 ∷ []))) ∷
    row (file 4 2 0 (0x81 ∷ 0x03 ∷ []) (1 ∷ 2 ∷ 0 ∷ 4 ∷ [])) (becomes (file 4 2 0 (0x81 ∷ 0x02 ∷ []) (1 ∷ 2 ∷ 4 ∷ []))) ∷
    row (file 20 1 0 (0x03 ∷ replicate 25 0 ++ (0x02 ∷ [])) (0 ∷ 9 ∷ 0 ∷ [])) (becomes (file 20 1 0 (0x02 ∷ replicate 26 0) (9 ∷ []))) ∷
    -- a map of whole bytes has no padding
    row (file 15 1 0 (replicate 14 0 ++ (0x80 ∷ [])) (1 ∷ [])) (becomes (file 15 1 0 (replicate 14 0 ++ (0x80 ∷ [])) (1 ∷ []))) ∷
    -- −0, subnormals, infinities and NaNs with their payloads are kept, and so are right sides of +0
    row (file 2 1 0 (0x07 ∷ []) (0x8000_0000_0000_0000 ∷ 0x0000_0000_0000_0001 ∷ 0x800f_ffff_ffff_ffff ∷ []))
    (becomes (file 2 1 0 (0x07 ∷ []) (0x8000_0000_0000_0000 ∷ 0x0000_0000_0000_0001 ∷ 0x800f_ffff_ffff_ffff ∷ []))) ∷
    row (file 2 1 1 (0x07 ∷ []) (0x7ff0_0000_0000_0001 ∷ 0 ∷ 0xfff8_dead_beef_0000 ∷ 0 ∷ 0x7ff0_0000_0000_0000 ∷ []))
    (becomes (file 2 1 1 (0x05 ∷ []) (0x7ff0_0000_0000_0001 ∷ 0xfff8_dead_beef_0000 ∷ 0 ∷ 0x7ff0_0000_0000_0000 ∷ []))) ∷
    row (file 1 200 16 (0x01 ∷ []) (0x4010_0000_0000_0000 ∷ replicate 16 0)) (becomes (file 1 200 16 (0x01 ∷ []) (0x4010_0000_0000_0000 ∷ replicate 16 0))) ∷
    -- 13: sizes, a part of a map, padding, files that end early or late, behind a needless zero too
    row [] (malformed 0) ∷
    row (file 65 1 0 [] []) (malformed 0) ∷
    row (file 1 0 0 (0x01 ∷ []) (0 ∷ [])) (malformed 2) ∷
    row (file 1 1 17 (0x01 ∷ []) (0 ∷ [])) (malformed 4) ∷
    row (file 4 2 0 (0x91 ∷ []) []) (malformed 6) ∷
    row (file 1 1 0 (0x03 ∷ []) (0 ∷ 0 ∷ [])) (malformed 5) ∷
    row (take 77 job) (malformed 77) ∷
    row (job ++ (0 ∷ [])) (malformed 78) ∷
    row (file 2 1 0 (0x07 ∷ []) (0 ∷ 1 ∷ [])) (malformed 22) ∷
    row (file 1 1 0 (0x01 ∷ []) (0 ∷ 0 ∷ [])) (malformed 14) ∷
    []

examples : T (all_right table)
unfolding all_right right table row file words same job little_endian field bounded needless value values read_sizes map_bytes map_bit padded read_map read_values read_contents read_job bytes_of sizes_bytes bits_from stands map_of value_bytes values_bytes job_bytes written rewritten iterate grow tabulate triangle
examples = tt
