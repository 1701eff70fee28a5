-- Laws of specs/Rewriting.antt: the parts of a job's bytes, their lengths, and how loops write them. Assumes nothing.
use Prim.Native.Nat.{ℕ, ◌+◌, ◌*◌, ◌/◌, ◌≤◌}
use native.Mathlib.Omega.{arith}
use mathlib.Core.Path.{◌≡◌, refl, ap}
use mathlib.Core.Bool.{Bool, true, false}
use mathlib.Core.List.{List, [], ◌++◌}
use lib.ListN.{length, get_or, drop, length-append}
use Rattle.calls.specs.Sequences.{tabulate}
use Rattle.calls.proofs.Sequences.{length_tabulate}
use Rattle.shape.specs.Places.{triangle}
use Rattle.job_format.specs.declared.Sizes.{Sizes}
use Rattle.job_format.specs.declared.Zeros.{Zeros}
use Rattle.job_format.specs.declared.Zeros.TheVariants.{Kept, Needless}
use Rattle.job_format.specs.declared.Fault.{Fault}
use Rattle.std.specs.Prelude.{Result, Ok}
use Rattle.std.specs.Result.{IsErrAnd}
use Rattle.std.proofs.lemmas.Result.{err_from_is_err_and}
use Rattle.job_format.specs.Reading.{Parsed, fault, found, needless}
use Rattle.job_format.specs.Format.{Contents, InBounds, read_job}
use Rattle.text.specs.Writing.{Written, pieces}
use Rattle.job_format.specs.Rewriting.{bytes_of, sizes_bytes, bits_from, stands, map_of, value_bytes, values_bytes, job_bytes, written, rewritten, Rewrites}
use Rattle.job_format.proofs.Formats.{triangle_small, values_small}
use Rattle.text.proofs.Texts.{length_pieces}
use Rattle.job_format.proofs.Digits.{length_bytes}

-- ---- the sizes

pub length_sizes : (sizes : Sizes) → length (sizes_bytes sizes) ≡ 5
unfolding sizes_bytes
length_sizes sizes =
    simp length-append (omega (arith, length_bytes 2 sizes.order, length_bytes 2 sizes.block, length_bytes 1 sizes.count))

-- ---- the map

abbrev pub map_byte : List ℕ → ℕ → ℕ
map_byte matrix i = bits_from (stands matrix) (8 * i) 8

pub map_all : (matrix : List ℕ) (k : ℕ) → k ≡ (length matrix + 7) / 8 → tabulate k (map_byte matrix) ≡ map_of matrix
unfolding map_of
map_all matrix k e = ap (λ (j : ℕ). tabulate j (map_byte matrix)) e

pub length_map : (matrix : List ℕ) → length (map_of matrix) ≡ (length matrix + 7) / 8
unfolding map_of
length_map matrix = length_tabulate (map_byte matrix) ((length matrix + 7) / 8)

-- ---- the values

module _ (zeros : Zeros) (bits : ℕ) where
  pub value_dropped : needless zeros bits ≡ true → [] ≡ value_bytes zeros bits
  unfolding value_bytes
  value_dropped e = rw e

  pub value_whole : needless zeros bits ≡ false → bytes_of 8 bits ≡ value_bytes zeros bits
  unfolding value_bytes
  value_whole e = rw e

  pub length_value : length (value_bytes zeros bits) ≤ 8
  length_value = go (needless zeros bits) refl
    where
      go : (b : Bool) → needless zeros bits ≡ b → length (value_bytes zeros bits) ≤ 8
      go true e = omega (arith, ap length (value_dropped e))
      go false e = omega (arith, ap length (value_whole e), length_bytes 8 bits)

-- the bytes of the first k values
abbrev pub values_to : Zeros → List ℕ → ℕ → List ℕ
values_to zeros values = pieces (λ j. value_bytes zeros (get_or values j 0))

pub length_values_to : (zeros : Zeros) (values : List ℕ) (k : ℕ) → length (values_to zeros values k) ≤ 8 * k
length_values_to zeros values k = length_pieces (λ j. value_bytes zeros (get_or values j 0)) 8 (λ j. length_value zeros (get_or values j 0)) k

pub values_all : (zeros : Zeros) (values : List ℕ) (k : ℕ) → k ≡ length values → values_to zeros values k ≡ values_bytes zeros values
unfolding values_bytes
values_all zeros values k e = ap (values_to zeros values) e

pub length_values : (zeros : Zeros) (values : List ℕ) → length (values_bytes zeros values) ≤ 8 * length values
length_values zeros values = omega (arith, length_values_to zeros values (length values), ap length (values_all zeros values (length values) refl))

-- ---- the whole: at most 25,097 bytes

module _ (sizes : Sizes) (matrix rhs : List ℕ) (inside : InBounds sizes) (entries : length matrix ≡ triangle sizes.order) (values : length rhs ≡ sizes.order * sizes.count) where
  pub entries_few : length matrix ≤ 2080
  entries_few = omega (arith, triangle_small sizes.order inside.order)

  pub values_few : length rhs ≤ 1024
  values_few = omega (arith, values_small sizes.order sizes.count inside.order inside.count)

  pub length_front : length (sizes_bytes sizes ++ map_of matrix) ≤ 265
  length_front = omega (arith, length-append (sizes_bytes sizes) (map_of matrix), length_sizes sizes, length_map matrix, entries_few)

  pub length_mapped : length (sizes_bytes sizes ++ map_of matrix ++ values_bytes Needless matrix) ≤ 16905
  length_mapped =
      omega (arith, length-append (sizes_bytes sizes ++ map_of matrix) (values_bytes Needless matrix), length_front, length_values Needless matrix, entries_few)

-- ---- what rewriting answers and leaves

module _ (file a : List ℕ) where
  pub rewrites_fault : (f : Fault) (r : Result ℕ Fault) → IsErrAnd r (λ y. y ≡ f) → fault f ≡ read_job Kept file → Rewrites (rewritten file) a r a
  unfolding rewritten written
  rewrites_fault f r h e = let q = err_from_is_err_and r h in rw (← e, q.1, q.2) (record { answer = refl; memory = refl })

  pub rewrites_job : (job : Contents) (at end : ℕ) (b : List ℕ) → found job at ≡ read_job Kept file → Written 0 (job_bytes job) a end b → Rewrites (rewritten file) a (Ok end) b
  unfolding rewritten written
  rewrites_job job at end b e w =
      let n : end ≡ length (job_bytes job) = omega (arith, w.next) in
      rw (← e) (record { answer = ap Ok n; memory = w.memory })

-- what was written lies within the memory
pub rewrites_within : (p : Parsed (List ℕ)) (a b : List ℕ) (r : Result ℕ Fault) (end : ℕ) → r ≡ Ok end → Rewrites p a r b → end ≤ length b
rewrites_within (fault f) a b r end j w = let z : ◌≡◌ {A = ℕ} 0 1 = cc w.answer in absurd (omega arith)
rewrites_within (found text at) a b r end j w =
    let n : end ≡ length text = cc w.answer in
    omega (arith, ap length w.memory, length-append text (drop (0 + length text) a))
