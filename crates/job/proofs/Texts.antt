-- Laws of specs/Listing.antt: hexadecimal digits, lines one after another, and the lengths of lines. Assumes nothing.
use Prim.Native.Nat.{ℕ, zero, suc, ◌+◌, ◌-◌, ◌*◌, ◌/◌, ◌%◌, ◌^◌, ◌≤◌, ◌<◌}
use native.Mathlib.Nat.{pow-suc}
use native.Mathlib.Omega.{arith}
use native.Mathlib.Decide.{ℕ_discrete as dec_eq}
use mathlib.Core.Path.{◌≡◌, refl, sym, ap, ◌∙◌}
use mathlib.Core.List.{List, [], ◌∷◌, ◌++◌, append_assoc, append-nil}
use lib.ListN.{length, get_or, length-append}
use lib.Ieee.{Float, nan, binary64, to_bits}
use borrow.Author.Tests.{eq-eqb, ne_eqb}
use lib.Pow.{pow-add}
use Rattle.calls.specs.Sequences.{iterate, tabulate}
use Rattle.calls.proofs.Sequences.{length_tabulate}
use Rattle.calls.specs.declared.Verdict.{Verdict}
use Rattle.job_format.specs.declared.Fault.{Fault}
use Rattle.job_format.specs.declared.Sizes.{Sizes}
use Rattle.text.specs.declared.Writer.{Writer}
use Rattle.text.specs.Writing.{Puts, pieces}
use Rattle.text.specs.Decimals.{decimal}
use Rattle.job_format.specs.Reading.{fault_code, fault_place}
use Rattle.job.specs.Listing.{hex_digit, hexadecimal, job_line, value_line, value_lines, end_line, solution_lines, result_lines, fault_lines}
use Rattle.text.proofs.Decimals.{number_text}
use Rattle.text.proofs.Texts.{puts_then, tabulated_none, tabulated_turn}

-- ---- hexadecimal digits

pow_four : (k : ℕ) → 2 ^ (4 * k) ≡ 16 ^ k
pow_four zero = refl
pow_four (suc k) =
    let e : 4 * suc k ≡ 4 * k + 4 = omega arith in
    ap (λ (j : ℕ). 2 ^ j) e ∙ pow-add 2 (4 * k) 4 ∙ ap (λ (x : ℕ). x * 16) (pow_four k) ∙ sym (pow-suc 16 k)

-- the first count digits of a pattern
abbrev pub hex_digits : ℕ → ℕ → List ℕ
hex_digits bits count = tabulate count (λ i. hex_digit (bits / 16 ^ (15 - i) % 16))

pub hex_none : (bits : ℕ) (a : Writer) → Puts (hex_digits bits 0) a a
hex_none bits a = tabulated_none (λ j. hex_digit (bits / 16 ^ (15 - j) % 16)) a

pub hex_turn :
    {a b c : Writer} (bits i d : ℕ) → a.at + i ≤ length a.out.now → i < 16 → Puts (hex_digits bits i) a b →
    d ≡ hex_digit (bits / 2 ^ (60 - 4 * i) % 16) → Puts (d ∷ []) b c → Puts (hex_digits bits (i + 1)) a c
hex_turn bits i d h l p e q =
    let f : ℕ → ℕ = λ j. hex_digit (bits / 16 ^ (15 - j) % 16) in
    let k : 60 - 4 * i ≡ 4 * (15 - i) = omega arith in
    let v : d ≡ f i = e ∙ ap (λ (x : ℕ). hex_digit (bits / x % 16)) (ap (λ (j : ℕ). 2 ^ j) k ∙ pow_four (15 - i)) in
    tabulated_turn f i d h p v q

pub length_hex : (bits i : ℕ) → length (hex_digits bits i) ≡ i
length_hex bits i = length_tabulate (λ j. hex_digit (bits / 16 ^ (15 - j) % 16)) i

pub hex_all : (bits i : ℕ) (v : Float) → bits ≡ to_bits binary64 v → i ≡ 16 → hex_digits bits i ≡ hexadecimal v
unfolding hexadecimal
hex_all bits i v e h = ap (hex_digits bits) h ∙ ap (λ (x : ℕ). hex_digits x 16) e

-- ---- the lengths of texts

pub length_hexadecimal : (v : Float) → length (hexadecimal v) ≡ 16
unfolding hexadecimal
length_hexadecimal v = length_tabulate (λ i. hex_digit (to_bits binary64 v / 16 ^ (15 - i) % 16)) 16

pub length_job_line : (n b m : ℕ) → length (job_line n b m) ≡ 7 + length (decimal n) + length (decimal b) + length (decimal m)
unfolding job_line
length_job_line n b m = simp length-append (omega arith)

pub length_end_line : (code place : ℕ) → length (end_line code place) ≡ 6 + length (decimal code) + length (decimal place)
unfolding end_line
length_end_line code place = simp length-append (omega arith)

-- ---- lines as the texts that they are written by

-- the heads of lines
abbrev pub job_head : List ℕ
job_head = 74 ∷ 79 ∷ 66 ∷ 32 ∷ []

abbrev pub end_head : List ℕ
end_head = 69 ∷ 78 ∷ 68 ∷ 32 ∷ []

pub job_text : (n b m : ℕ) → job_head ++ number_text n 32 ++ number_text b 32 ++ number_text m 10 ≡ job_line n b m
unfolding job_line
job_text n b m = simp append_assoc

pub end_text : (code place : ℕ) → end_head ++ number_text code 32 ++ number_text place 10 ≡ end_line code place
unfolding end_line
end_text code place = simp append_assoc

-- ---- lines of values

module _ (head : List ℕ) (vs : List Float) where
  abbrev pub line_at : ℕ → List ℕ
  line_at j = value_line head (get_or vs j nan)

  length_line : length head ≡ 2 → (v : Float) → length (value_line head v) ≡ 19
  unfolding value_line
  length_line h v = simp length-append (omega (arith, length_hexadecimal v))

  pub length_lines : length head ≡ 2 → (k : ℕ) → length (pieces line_at k) ≡ 19 * k
  unfolding iterate
  length_lines h zero = refl
  length_lines h (suc k) =
      length-append (pieces line_at k) (line_at k) ∙ omega (arith, length_lines h k, length_line h (get_or vs k nan))

  pub lines_all : (k : ℕ) → k ≡ length vs → pieces line_at k ≡ value_lines head vs
  unfolding value_lines
  lines_all k e = ap (pieces line_at) e

pub length_value_lines : (head : List ℕ) (vs : List Float) → length head ≡ 2 → length (value_lines head vs) ≡ 19 * length vs
unfolding value_lines
length_value_lines head vs h = length_lines head vs h (length vs)

pub length_join : (head : List ℕ) (v : Float) → length head ≡ 2 → length (head ++ hexadecimal v) ≡ 18
length_join head v h = omega (arith, length-append head (hexadecimal v), length_hexadecimal v)

-- ---- the listing's parts

module _ (matrix rhs : List Float) where
  pub length_solution_lines : length (solution_lines matrix rhs) ≡ 19 * length matrix + 19 * length rhs
  unfolding solution_lines
  length_solution_lines =
      length-append (value_lines (70 ∷ 32 ∷ []) matrix) (value_lines (88 ∷ 32 ∷ []) rhs)
      ∙ omega (arith, length_value_lines (70 ∷ 32 ∷ []) matrix refl, length_value_lines (88 ∷ 32 ∷ []) rhs refl)

  -- the lines of the matrix, then those of the right-hand sides
  pub solution_put :
      {a b c : Writer} → a.at + length (solution_lines matrix rhs) ≤ length a.out.now → Puts (value_lines (70 ∷ 32 ∷ []) matrix) a b →
      Puts (value_lines (88 ∷ 32 ∷ []) rhs) b c → Puts (solution_lines matrix rhs) a c
  unfolding solution_lines
  solution_put h p q =
      puts_then (omega (arith, length_solution_lines, length_value_lines (70 ∷ 32 ∷ []) matrix refl)) p q

  module _ (sizes : Sizes) (verdict : Verdict) where
    pub refused_lines : (verdict.code ≡ 0 → ⊥) → job_line sizes.order sizes.block sizes.count ++ end_line verdict.code verdict.place ≡ result_lines sizes verdict matrix rhs
    unfolding result_lines
    refused_lines h = rw (ne_eqb verdict.code 0 h, append-nil (job_line sizes.order sizes.block sizes.count))

    pub accepted_lines : verdict.code ≡ 0 → job_line sizes.order sizes.block sizes.count ++ solution_lines matrix rhs ++ end_line verdict.code verdict.place ≡ result_lines sizes verdict matrix rhs
    unfolding result_lines
    accepted_lines h = rw (eq-eqb verdict.code 0 h)

    pub length_refused :
        (verdict.code ≡ 0 → ⊥) → length (result_lines sizes verdict matrix rhs) ≡ length (job_line sizes.order sizes.block sizes.count) + length (end_line verdict.code verdict.place)
    length_refused h = sym (ap length (refused_lines h)) ∙ length-append (job_line sizes.order sizes.block sizes.count) (end_line verdict.code verdict.place)

    pub length_accepted :
        verdict.code ≡ 0 →
        length (result_lines sizes verdict matrix rhs)
        ≡ length (job_line sizes.order sizes.block sizes.count) + length (solution_lines matrix rhs) + length (end_line verdict.code verdict.place)
    length_accepted h =
        sym (ap length (accepted_lines h))
        ∙ length-append (job_line sizes.order sizes.block sizes.count ++ solution_lines matrix rhs) (end_line verdict.code verdict.place)
        ∙ ap (λ (k : ℕ). k + length (end_line verdict.code verdict.place)) (length-append (job_line sizes.order sizes.block sizes.count) (solution_lines matrix rhs))

    -- the job's line is a part of it in any case
    pub length_first : length (job_line sizes.order sizes.block sizes.count) ≤ length (result_lines sizes verdict matrix rhs)
    length_first =
        elim (dec_eq verdict.code 0) [
          | yes e ↦ omega (arith, length_accepted e)
          | no e ↦ omega (arith, length_refused e)
        ]

-- ---- the lines of a fault

module _ (sizes : Sizes) (f : Fault) where
  pub end_alone : (fault_code f) ≡ 13 → end_line (fault_code f) (fault_place f) ≡ fault_lines sizes f
  unfolding fault_lines
  end_alone e = rw (eq-eqb (fault_code f) 13 e)

  pub both_lines : ((fault_code f) ≡ 13 → ⊥) → job_line sizes.order sizes.block sizes.count ++ end_line (fault_code f) (fault_place f) ≡ fault_lines sizes f
  unfolding fault_lines
  both_lines h = rw (ne_eqb (fault_code f) 13 h)

  -- in either case no more than both
  pub length_fault : length (fault_lines sizes f) ≤ length (job_line sizes.order sizes.block sizes.count) + length (end_line (fault_code f) (fault_place f))
  length_fault =
      elim (dec_eq (fault_code f) 13) [
        | yes e ↦ omega (arith, ap length (end_alone e))
        | no e ↦ omega (arith, ap length (both_lines e), length-append (job_line sizes.order sizes.block sizes.count) (end_line (fault_code f) (fault_place f)))
      ]
