-- Jobs and their listings as one table, covered by one proposition. Files stand as bytes and values as bit patterns. Assumes nothing.
use Prim.Native.Nat.{ℕ}
use Prim.Native.String.{String}
use mathlib.Core.Bool.{Bool, true, ◌&&◌}
use mathlib.Core.List.{List, [], ◌∷◌, ◌++◌}
use lib.Dec.{T}
use lib.ListN.{take, replicate}
use lib.Ieee.{of_bits, to_bits, mul, sub, div, lt}
use Rattle.binary64.specs.Kinds.{kind, finite, positive}
use Rattle.binary64.specs.Root.{root}
use Rattle.binary64.specs.Judged.{judged}
use Rattle.shape.specs.Places.{triangle, packed_place, blocked_place, block_work}
use Rattle.calls.specs.Sequences.{iterate, grow, tabulate, all}
use Rattle.calls.specs.Triangles.{entry, height, place_of, load, store_column, store}
use Rattle.calls.specs.Arithmetic.{minus_products, pivot, quotient, below, factor_column, cholesky, forward, backward_rows, backward}
use Rattle.calls.specs.States.{look_up}
use Rattle.calls.specs.Refusals.{first_refusal, lowest_refusal, rule1, rule2, rule15, rule3, rule4, rule5, rule6, finite_rule, rule9, rule11, weak, rule16, column_rules, column_verdict, rule12}
use Rattle.calls.specs.Calls.{state_after, rearrange, rearranger_checks, moved, factorize, factor_checks, factored, columns_verdict, solve, solver_checks, solved, rhs_verdict, rhs_part, solution, solutions, clear}
use Rattle.calls.specs.Pipelines.{blocked_pipeline}
use Rattle.job_format.specs.Reading.{little_endian, field, bounded, needless, value, values}
use Rattle.job_format.specs.Format.{read_sizes, map_bytes, map_bit, padded, read_map, read_values, read_contents}
use Rattle.job_format.specs.Rewriting.{bytes_of}
use Rattle.text.proofs.Comparisons.{same, codes}
use Rattle.job_format.proofs.Examples.{words, file}
use Rattle.text.specs.Decimals.{digits, decimal}
use Rattle.job.specs.Listing.{hex_digit, hexadecimal, job_line, value_line, value_lines, end_line, job_ended, job_verdict, solution_lines, result_lines, fault_lines, listing_of, listing}

lists : List ℕ → String → Bool
unfolding codes same listing listing_of
lists job text = same (listing job) (codes text)

-- a job's bytes and the text of its listing
record Row : Type 0 where
  bytes : List ℕ
  text : String

row : List ℕ → String → Row
row b t = record { bytes = b; text = t }

all_listed : List Row → Bool
unfolding lists
all_listed [] = true
all_listed (r ∷ rs) = lists r.bytes r.text && all_listed rs

-- ---- the table

-- n 3, m 1, packed matrix 4, 2, −2, 10, 5, 6, right-hand side 4, 17, 9; 78 bytes
job : ℕ → List ℕ
unfolding file
job b =
    file 3 b 1 (0x3f ∷ [])
    (0x4010_0000_0000_0000 ∷ 0x4000_0000_0000_0000 ∷ 0xc000_0000_0000_0000 ∷ 0x4024_0000_0000_0000 ∷ 0x4014_0000_0000_0000 ∷ 0x4018_0000_0000_0000 ∷
    0x4010_0000_0000_0000 ∷ 0x4031_0000_0000_0000 ∷ 0x4022_0000_0000_0000 ∷ [])

table : List Row
unfolding row file job
table =
    -- document 01's job, with b 1, 2, 3 and 200
    row (job 1) "JOB 3 1 1\nF 4000000000000000\nF 3FF0000000000000\nF BFF0000000000000\nF 4008000000000000\nF 4000000000000000\nF 3FF0000000000000\nX 3FF0000000000000\nX 3FF0000000000000\nX 3FF0000000000000\nEND 0 0\n" ∷
    row (job 2) "JOB 3 2 1\nF 4000000000000000\nF 3FF0000000000000\nF BFF0000000000000\nF 4008000000000000\nF 4000000000000000\nF 3FF0000000000000\nX 3FF0000000000000\nX 3FF0000000000000\nX 3FF0000000000000\nEND 0 0\n" ∷
    row (job 3) "JOB 3 3 1\nF 4000000000000000\nF 3FF0000000000000\nF BFF0000000000000\nF 4008000000000000\nF 4000000000000000\nF 3FF0000000000000\nX 3FF0000000000000\nX 3FF0000000000000\nX 3FF0000000000000\nEND 0 0\n" ∷
    row (job 200) "JOB 3 200 1\nF 4000000000000000\nF 3FF0000000000000\nF BFF0000000000000\nF 4008000000000000\nF 4000000000000000\nF 3FF0000000000000\nX 3FF0000000000000\nX 3FF0000000000000\nX 3FF0000000000000\nEND 0 0\n" ∷
    -- n 0, which has no map to be padded; an entry with no bit is +0; n 4, diagonal 4, 9, 16, 25, whose map has two bytes
    row (file 0 1 0 [] []) "JOB 0 1 0\nEND 0 0\n" ∷
    row (file 0 1 1 [] []) "JOB 0 1 1\nEND 0 0\n" ∷
    row (file 2 1 0 (0x05 ∷ []) (0x4010_0000_0000_0000 ∷ 0x4022_0000_0000_0000 ∷ [])) "JOB 2 1 0\nF 4000000000000000\nF 0000000000000000\nF 4008000000000000\nEND 0 0\n" ∷
    row (file 4 2 0 (0x91 ∷ 0x02 ∷ []) (0x4010_0000_0000_0000 ∷ 0x4022_0000_0000_0000 ∷ 0x4030_0000_0000_0000 ∷ 0x4039_0000_0000_0000 ∷ [])) "JOB 4 2 0\nF 4000000000000000\nF 0000000000000000\nF 0000000000000000\nF 0000000000000000\nF 4008000000000000\nF 0000000000000000\nF 0000000000000000\nF 4010000000000000\nF 0000000000000000\nF 4014000000000000\nEND 0 0\n" ∷
    -- 13: a file that ends early, one with an extra byte, padding in a map of one byte and of two, and sizes, which are judged before what is missing after them
    row [] "END 13 0\n" ∷
    row (take 3 (job 2)) "END 13 3\n" ∷
    row (take 5 (job 2)) "END 13 5\n" ∷
    row (take 77 (job 2)) "END 13 77\n" ∷
    row (job 2 ++ (0 ∷ [])) "END 13 78\n" ∷
    row (file 3 2 1 (0x7f ∷ []) []) "END 13 5\n" ∷
    row (file 4 2 0 (0x00 ∷ 0x80 ∷ []) []) "END 13 6\n" ∷
    row (65 ∷ 0 ∷ []) "END 13 0\n" ∷
    row (file 64 200 16 [] []) "END 13 5\n" ∷
    row (file 3 0 17 [] []) "END 13 2\n" ∷
    row (file 3 201 1 [] []) "END 13 2\n" ∷
    row (file 3 200 17 [] []) "END 13 4\n" ∷
    -- 18: a bit over +0, the first of two, the first of order 20 (orders to 64 are in tests/job); before a file that ends early or late, before 7 and 8; after a fault under 13
    row (file 2 1 1 (0x06 ∷ []) (0x3ff0_0000_0000_0000 ∷ 0 ∷ 0 ∷ 0 ∷ [])) "JOB 2 1 1\nEND 18 14\n" ∷
    row (file 2 1 0 (0x07 ∷ []) (0 ∷ 0x3ff0_0000_0000_0000 ∷ 0 ∷ [])) "JOB 2 1 0\nEND 18 6\n" ∷
    row (file 20 200 16 (0x01 ∷ replicate 26 0) (0 ∷ [])) "JOB 20 200 16\nEND 18 32\n" ∷
    row (file 2 1 0 (0x07 ∷ []) (0x3ff0_0000_0000_0000 ∷ 0 ∷ [])) "JOB 2 1 0\nEND 18 14\n" ∷
    row (file 1 3 0 (0x01 ∷ []) (0 ∷ 0 ∷ [])) "JOB 1 3 0\nEND 18 6\n" ∷
    row (file 2 1 1 (0x03 ∷ []) (0x7ff0_0000_0000_0000 ∷ 0 ∷ 0x7ff8_0000_0000_0000 ∷ 0 ∷ [])) "JOB 2 1 1\nEND 18 14\n" ∷
    row (take 13 (file 1 1 0 (0x01 ∷ []) (0 ∷ []))) "END 13 13\n" ∷
    row (file 1 1 17 (0x01 ∷ []) (0 ∷ [])) "END 13 4\n" ∷
    row (file 1 1 0 (0x03 ∷ []) (0 ∷ 0 ∷ [])) "END 13 5\n" ∷
    -- −0 needs its bit, a subnormal has one, and a right side may be +0
    row (file 1 1 0 (0x01 ∷ []) (0x8000_0000_0000_0000 ∷ [])) "JOB 1 1 0\nEND 10 0\n" ∷
    row (file 1 1 1 (0x01 ∷ []) (0x0000_0000_0000_0001 ∷ 0 ∷ [])) "JOB 1 1 1\nF 1E60000000000000\nX 0000000000000000\nEND 0 0\n" ∷
    -- 7 and 8: an infinity at packed place 2, which is place 3 in blocked order; at the last packed entry; a NaN among the right-hand sides; 7 before 8
    row (file 3 2 0 (0x05 ∷ []) (0x3ff0_0000_0000_0000 ∷ 0x7ff0_0000_0000_0000 ∷ [])) "JOB 3 2 0\nEND 7 2\n" ∷
    row (file 2 1 1 (0x06 ∷ []) (0x3ff0_0000_0000_0000 ∷ 0x7ff0_0000_0000_0000 ∷ 0 ∷ 0 ∷ [])) "JOB 2 1 1\nEND 7 2\n" ∷
    row (file 2 1 1 (0x06 ∷ []) (0x3ff0_0000_0000_0000 ∷ 0x3ff0_0000_0000_0000 ∷ 0 ∷ 0xfff8_0000_0000_0001 ∷ [])) "JOB 2 1 1\nEND 8 1\n" ∷
    row (file 1 1 1 (0x01 ∷ []) (0x7ff8_0000_0000_0000 ∷ 0x7ff0_0000_0000_0000 ∷ [])) "JOB 1 1 1\nEND 7 0\n" ∷
    -- 10, 11, 12 and 16: packed 1, 1, 1; packed 2^−1000, 2^600, 1; factor 2^−500, right-hand side 2^600; packed 1, 1, 1 + 2^−52
    row (file 2 200 0 (0x07 ∷ []) (0x3ff0_0000_0000_0000 ∷ 0x3ff0_0000_0000_0000 ∷ 0x3ff0_0000_0000_0000 ∷ [])) "JOB 2 200 0\nEND 10 1\n" ∷
    row (file 2 1 0 (0x07 ∷ []) (0x0170_0000_0000_0000 ∷ 0x6570_0000_0000_0000 ∷ 0x3ff0_0000_0000_0000 ∷ [])) "JOB 2 1 0\nEND 11 0\n" ∷
    row (file 1 1 1 (0x01 ∷ []) (0x0170_0000_0000_0000 ∷ 0x6570_0000_0000_0000 ∷ [])) "JOB 1 1 1\nEND 12 0\n" ∷
    row (file 2 2 1 (0x07 ∷ []) (0x3ff0_0000_0000_0000 ∷ 0x3ff0_0000_0000_0000 ∷ 0x3ff0_0000_0000_0001 ∷ 0 ∷ 0 ∷ [])) "JOB 2 2 1\nEND 16 1\n" ∷
    []

examples : T (all_listed table)
unfolding all_listed table row lists job words file same codes bytes_of little_endian field bounded needless value values read_sizes map_bytes map_bit padded read_map read_values read_contents digits decimal hex_digit hexadecimal job_line value_line value_lines end_line job_ended job_verdict solution_lines fault_lines result_lines blocked_pipeline rearrange rearranger_checks moved factorize factor_checks factored columns_verdict solve solver_checks solved rhs_verdict rhs_part solution solutions clear first_refusal lowest_refusal state_after look_up rule1 rule2 rule15 rule3 rule4 rule5 rule6 finite_rule rule9 rule11 weak rule16 column_rules column_verdict rule12 minus_products pivot quotient below factor_column cholesky forward backward_rows backward iterate grow tabulate all entry height place_of load store_column store kind finite positive root judged triangle packed_place blocked_place block_work to_bits of_bits mul sub div lt
examples = tt
