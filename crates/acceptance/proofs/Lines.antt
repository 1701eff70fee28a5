-- Laws of the listing of specs/Counts.antt: the lengths of its parts. Assumes nothing.
use Prim.Native.Nat.{ℕ, ◌+◌, ◌-◌, ◌*◌, ◌≤◌, ◌<◌}
use native.Mathlib.Numerals.{add-one}
use native.Mathlib.Omega.{arith}
use mathlib.Core.Path.{◌≡◌, refl, ap, ◌∙◌}
use mathlib.Core.List.{List, [], ◌∷◌, ◌++◌, append_assoc}
use lib.ListN.{length, get_or, length-append}
use Rattle.calls.specs.Sequences.{iterate}
use Rattle.calls.proofs.Sequences.{iterate_alike}
use Rattle.text.specs.declared.Writer.{Writer}
use Rattle.text.specs.Writing.{Puts, pieces}
use Rattle.text.proofs.Texts.{length_put, puts_as, puts_then, length_pieces}
use Rattle.text.proofs.Decimals.{length_decimal}
use Rattle.acceptance.specs.declared.Run.{Run}
use Rattle.acceptance.specs.declared.Run.TheVariants.{Plain}
use Rattle.acceptance.specs.declared.Counts.{Counts}
use Rattle.acceptance.specs.Systems.{total}
use Rattle.acceptance.specs.Counts.{run_of, numbers, spaced, numbers_line, line, order_lines}
use Rattle.acceptance.specs.Promises.{counts_to}

pub length_spaced : (xs : List ℕ) (k : ℕ) → length (pieces (spaced xs) k) ≤ 21 * k
length_spaced xs k = length_pieces (spaced xs) 21 (λ j. omega (arith, length_decimal (get_or xs j 0))) k

-- a line begun, to be ended by a line feed
abbrev pub begun : List ℕ → ℕ → List ℕ
begun xs k = (78 ∷ []) ++ pieces (spaced xs) k

module _ {a b : Writer} (xs : List ℕ) (k : ℕ) (room : a.at + (2 + 21 * length xs) ≤ length a.out.now) (within : k ≤ length xs) (p : Puts (begun xs k) a b) where
  pub begun_fits : a.at + length (begun xs k) ≤ length a.out.now
  begun_fits = omega (arith, length-append (78 ∷ []) (pieces (spaced xs) k), length_spaced xs k)

  -- room for the rest
  pub begun_left : b.at + (1 + 21 * (length xs - k)) ≤ length b.out.now
  begun_left = omega (arith, p.written.next, length_put begun_fits p, length-append (78 ∷ []) (pieces (spaced xs) k), length_spaced xs k)

  pub begun_next : {c : Writer} → Puts (spaced xs k) b c → Puts (begun xs (k + 1)) a c
  unfolding iterate
  begun_next q = rw (add-one k) (puts_as (append_assoc (78 ∷ []) (pieces (spaced xs) k) (spaced xs k)) (puts_then begun_fits p q))

length_numbers : (xs : List ℕ) → length (numbers_line xs) ≤ 2 + 21 * length xs
unfolding numbers_line
length_numbers xs =
    omega (
      arith,
      length-append ((78 ∷ []) ++ pieces (spaced xs) (length xs)) (10 ∷ []),
      length-append (78 ∷ []) (pieces (spaced xs) (length xs)),
      length_spaced xs (length xs),
    )

-- a line from what it counts
pub line_of :
    (run : Run) (n all : ℕ) (c : Counts) → all ≡ total n → c ≡ counts_to run n all →
    numbers_line (n ∷ all ∷ c.accepted ∷ c.nonpositive ∷ c.overflowed ∷ c.weak ∷ []) ≡ line run n
unfolding line
line_of run n all c e f = rw (f, e) refl

length_line : (run : Run) (n : ℕ) → length (line run n) ≤ 128
unfolding line
length_line run n = length_numbers (numbers run n)

-- the first k lines of an order, whatever the runs, and those of the first k orders
pub length_lines : (run : ℕ → Run) (n k : ℕ) → length (pieces (λ j. line (run j) n) k) ≤ 128 * k
length_lines run n k = length_pieces (λ j. line (run j) n) 128 (λ j. length_line (run j) n) k

pub order_of : (n : ℕ) (runs : List Run) → length runs ≡ 4 → ((k : ℕ) → k < 4 → get_or runs k Plain ≡ run_of k) →
    pieces (λ k. line (get_or runs k Plain) n) (length runs) ≡ order_lines n
unfolding order_lines
order_of n runs size same =
    ap (pieces (λ k. line (get_or runs k Plain) n)) size
    ∙ iterate_alike (λ k text. text ++ line (get_or runs k Plain) n) (λ k text. text ++ line (run_of k) n) 4 []
    (λ k h. ap (λ run. iterate (λ j text. text ++ line (run_of j) n) k [] ++ line run n) (same k h))

pub length_orders : (k : ℕ) → length (pieces order_lines k) ≤ 512 * k
unfolding order_lines
length_orders k = length_pieces order_lines 512 (λ n. length_lines run_of n 4) k
