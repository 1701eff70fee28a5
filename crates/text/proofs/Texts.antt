-- Laws of specs/Writing.antt: text after text, a text that a loop copies, and texts that a loop writes one after another. Assumes nothing.
use Prim.Native.Nat.{ℕ, zero, suc, ◌+◌, ◌*◌, ◌≤◌}
use native.Mathlib.Numerals.{add-one}
use native.Mathlib.Omega.{arith}
use mathlib.Core.Path.{◌≡◌, refl, sym, ap, ◌∙◌, subst}
use mathlib.Core.List.{List, [], ◌∷◌, ◌++◌, append_assoc}
use lib.ListN.{length, take, drop, length-append, length-drop}
use lib.Seq.{length-take-le, take_at, drop_at, drop-drop, paste-zero}
use Rattle.calls.specs.Sequences.{iterate, grow, tabulate}
use Rattle.calls.proofs.Sequences.{length_tabulate}
use Rattle.text.specs.declared.Writer.{Writer}
use Rattle.text.specs.Writing.{overwrite, Written, Puts, pieces}

module _ (memory : List ℕ) (at : ℕ) (text : List ℕ) (fits : at + length text ≤ length memory) where
  length_front : length (take at memory ++ text) ≡ at + length text
  length_front = length-append (take at memory) text ∙ ap (λ (k : ℕ). k + length text) (length-take-le at memory (omega arith))

  length_overwrite : length (overwrite at text memory) ≡ length memory
  length_overwrite =
      length-append (take at memory ++ text) (drop (at + length text) memory) ∙ ap (λ (k : ℕ). k + length (drop (at + length text) memory)) length_front
      ∙ ap (λ (k : ℕ). at + length text + k) (length-drop (at + length text) memory) ∙ omega arith

  overwrite_twice : (more : List ℕ) → overwrite (at + length text) more (overwrite at text memory) ≡ overwrite at (text ++ more) memory
  overwrite_twice more =
      let front : List ℕ = take at memory ++ text in
      let rest : List ℕ = drop (at + length text) memory in
      let e : at + length (text ++ more) ≡ at + length text + length more = omega (arith, length-append text more) in
      let t : take (at + length text) (front ++ rest) ≡ front = take_at front rest (at + length text) length_front in
      let d : drop (at + length text + length more) (front ++ rest) ≡ drop (at + length text + length more) memory =
      sym (drop-drop (length more) (at + length text) (front ++ rest))
      ∙ ap (drop (length more)) (drop_at front rest (at + length text) length_front)
      ∙ drop-drop (length more) (at + length text) memory in
      rw (t, d, e, append_assoc (take at memory) text more)

-- what is written, and then what is written after it
pub then : {at mid end : ℕ} {text more a b c : List ℕ} → Written at text a mid b → Written mid more b end c → at + length text ≤ length a → Written at (text ++ more) a end c
then {at} {mid} {end} {text} {more} {a} {b} {c} w v h =
    let n = w.next in
    let l : length (text ++ more) ≡ length text + length more = length-append text more in
    record {
      next = omega (arith, w.next, v.next, l);
      memory = v.memory ∙ ap (λ (k : ℕ). overwrite k more b) n ∙ ap (λ (m : List ℕ). overwrite (at + length text) more m) w.memory ∙ overwrite_twice a at text h more;
    }

pub as_text : {at end : ℕ} {text text' a b : List ℕ} → text ≡ text' → Written at text a end b → Written at text' a end b
as_text {at} {end} {text} {text'} {a} {b} e w = subst (λ (t : List ℕ). Written at t a end b) e w

pub length_written : {at end : ℕ} {text a b : List ℕ} → at + length text ≤ length a → Written at text a end b → length b ≡ length a
length_written {at} {end} {text} {a} {b} h w = ap length w.memory ∙ length_overwrite a at text h

-- memory holds all that was written to its start
pub written_within : {end : ℕ} {text a b : List ℕ} → Written 0 text a end b → end ≤ length b
written_within w = omega (arith, w.next, simp length-append at (ap length w.memory))

pub nothing_written : (at : ℕ) (a : List ℕ) → Written at [] a at a
nothing_written at a = record { next = omega arith; memory = paste-zero a at [] }

-- ---- what a writer writes

pub puts_nothing : (a : Writer) → Puts [] a a
puts_nothing a = record { same_buffer = refl; written = nothing_written a.at a.out.now }

-- what is put, and then what is put after it
pub puts_then : {text more : List ℕ} {a b c : Writer} → a.at + length text ≤ length a.out.now → Puts text a b → Puts more b c → Puts (text ++ more) a c
puts_then h p q = record { same_buffer = q.same_buffer ∙ p.same_buffer; written = then p.written q.written h }

pub puts_as : {text text' : List ℕ} {a b : Writer} → text ≡ text' → Puts text a b → Puts text' a b
puts_as {text} {text'} {a} {b} e p = subst (λ (t : List ℕ). Puts t a b) e p

-- a writer keeps the length of its buffer
pub length_put : {text : List ℕ} {a b : Writer} → a.at + length text ≤ length a.out.now → Puts text a b → length b.out.now ≡ length a.out.now
length_put h p = length_written h p.written

-- and what a text leaves has room for what is put after it
pub room_left : {text : List ℕ} {a b : Writer} (k : ℕ) → a.at + length text + k ≤ length a.out.now → Puts text a b → b.at + k ≤ length b.out.now
room_left k h p = let l = length_put (omega arith) p in omega (arith, p.written.next)

-- ---- texts that a loop writes one after another

module _ (piece : ℕ → List ℕ) where
  pub length_pieces : (width : ℕ) → ((j : ℕ) → length (piece j) ≤ width) → (k : ℕ) → length (pieces piece k) ≤ width * k
  unfolding iterate
  length_pieces width short zero = omega arith
  length_pieces width short (suc k) = omega (arith, length-append (pieces piece k) (piece k), length_pieces width short k, short k)

  pub pieces_none : (at : ℕ) (a : List ℕ) → Written at (pieces piece 0) a at a
  unfolding iterate
  pieces_none at a = nothing_written at a

  pub pieces_turn :
      (at next end k : ℕ) (a b c : List ℕ) →
      at + length (pieces piece k) ≤ length a →
      Written at (pieces piece k) a next b →
      Written next (piece k) b end c →
      Written at (pieces piece (k + 1)) a end c
  unfolding iterate
  pieces_turn at next end k a b c fits w v = let s : k + 1 ≡ suc k = add-one k in rw s (then w v fits)

  -- the same of a writer
  pub puts_none : (a : Writer) → Puts (pieces piece 0) a a
  puts_none a = record { same_buffer = refl; written = pieces_none a.at a.out.now }

  pub puts_turn :
      {a b c : Writer} (k : ℕ) → a.at + length (pieces piece k) ≤ length a.out.now → Puts (pieces piece k) a b → Puts (piece k) b c → Puts (pieces piece (k + 1)) a c
  puts_turn {a} {b} {c} k h p q =
      record { same_buffer = q.same_buffer ∙ p.same_buffer; written = pieces_turn a.at b.at c.at k a.out.now b.out.now c.out.now h p.written q.written }

-- bytes, each worked out from its number
module _ (byte : ℕ → ℕ) where
  pub tabulated_none : (a : Writer) → Puts (tabulate 0 byte) a a
  unfolding tabulate grow
  tabulated_none a = puts_nothing a

  pub tabulated_turn :
      {a b c : Writer} (k d : ℕ) → a.at + k ≤ length a.out.now → Puts (tabulate k byte) a b → d ≡ byte k → Puts (d ∷ []) b c → Puts (tabulate (k + 1) byte) a c
  unfolding tabulate grow
  tabulated_turn k d h p e q =
      let s : k + 1 ≡ suc k = add-one k in
      rw s (puts_then (omega (arith, length_tabulate byte k)) p (puts_as (ap (λ (x : ℕ). x ∷ []) e) q))
