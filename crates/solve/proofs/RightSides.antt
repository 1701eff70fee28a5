-- One right-hand side and all of them, over plain variables: what passes and what is kept. Assumes nothing.
use Prim.Native.Nat.{ℕ, zero, suc, ◌+◌, ◌*◌, ◌≤◌, ◌<◌}
use native.Mathlib.Nat.{mul_comm, mul-le-mul_right, suc-mul, zero-mul}
use native.Mathlib.Numerals.{add-one}
use native.Mathlib.Omega.{arith}
use mathlib.Core.Path.{◌≡◌, refl, sym, ap, ◌∙◌, subst}
use mathlib.Core.Bool.{Bool, true, false, cond, not, ◌&&◌, false≢true}
use mathlib.Core.List.{List, [], ◌++◌, append_assoc}
use lib.ListN.{length, take, drop, length-append, length-drop, take-append-drop}
use lib.Seq.{take_at, drop_at, drop-drop}
use lib.Ieee.{Float}
use Rattle.binary64.specs.Kinds.{finite, zero64}
use Rattle.std.specs.Prelude.{Result, Ok, Err}
use Rattle.calls.specs.declared.Verdict.{Verdict}
use Rattle.calls.specs.declared.outcomes.Refusal.{Refusal}
use Rattle.calls.specs.declared.outcomes.Refusal.TheVariants.{Solution}
use Rattle.calls.specs.Sequences.{iterate, all}
use Rattle.calls.specs.Triangles.{Triangle}
use Rattle.calls.specs.Arithmetic.{forward, backward}
use Rattle.calls.specs.Refusals.{success, accepted, refusal, refuse_if, lowest_refusal, rule12}
use Rattle.calls.specs.Calls.{rhs_part, solution, rhs_verdict, solutions}
use Rattle.calls.proofs.Entries.{length_backward}
use Rattle.calls.proofs.Judging.{lowest_next, lowest_found}
use Rattle.solve.specs.Solving.{passes, rhs_outcome, Substituted, RhsSolved, AllSolved}

-- ---- one right-hand side

solution_is : (n : ℕ) (l : Triangle) (rhs : List Float) → solution n l rhs ≡ backward n l (forward n l rhs)
unfolding solution
solution_is n l rhs = refl

-- what its outcome tells
pub fails : (b : Bool) (q : ℕ) (r : Refusal) → Err r ≡ rhs_outcome b q → b ≡ false
fails true q r e = cc
fails false q r e = refl

pub holds : (b : Bool) (q : ℕ) (u : Unit) → Ok u ≡ rhs_outcome b q → b ≡ true
holds true q u e = refl
holds false q u e = cc

module _ (n : ℕ) (l : Triangle) (q : ℕ) (rhs : List Float) where
  -- by what a half of it came to
  pub refused_half : (w : List Float) → passes n l rhs ≡ false → Substituted n l q rhs (Err (Solution q)) w
  refused_half w lost = record { outcome = sym (ap (λ b. rhs_outcome b q) lost); solved = λ e. absurd (false≢true (sym lost ∙ e)) }

  module _ (y x : List Float) (r s : Bool) (ey : y ≡ forward n l rhs) (er : r ≡ all finite y) (yes : r ≡ true) (ex : x ≡ backward n l y)
      (es : s ≡ all finite x)
    where
      is : x ≡ solution n l rhs
      is = ex ∙ ap (backward n l) ey ∙ sym (solution_is n l rhs)

      judged : passes n l rhs ≡ s
      judged =
          ap (λ b. b && all finite (solution n l rhs)) (ap (all finite) (sym ey) ∙ sym er ∙ yes) ∙ ap (all finite) (sym is) ∙ sym es

      pub refused_backward : s ≡ false → Substituted n l q rhs (Err (Solution q)) x
      refused_backward ns = refused_half x (judged ∙ ns)

      pub substituted : s ≡ true → Substituted n l q rhs (Ok tt) x
      substituted ns = record { outcome = sym (ap (λ b. rhs_outcome b q) (judged ∙ ns)); solved = λ e. is }

  -- it takes the solution, substituted in a copy of it
  pub kept_solved :
      (k : ℕ) (v w : List Float) (u : Unit) → k ≡ n → v ≡ rhs → Substituted k l q v (Ok u) w → RhsSolved n l q rhs (Ok u) w
  kept_solved k v w u same copied s =
      let here : Substituted n l q rhs (Ok u) w =
      subst (λ i. Substituted i l q rhs (Ok u) w) same (subst (λ x. Substituted k l q x (Ok u) w) copied s) in
      let yes : passes n l rhs ≡ true = holds (passes n l rhs) q u here.outcome in
      record { outcome = here.outcome; kept = here.solved yes ∙ sym (ap (λ b. cond b (solution n l rhs) rhs) yes) }

-- ---- all of them

module _ (n : ℕ) (l : Triangle) (rhs : List Float) where
  -- the solutions of the first q
  abbrev pub solved_first : ℕ → List Float
  solved_first q = iterate (λ k done. done ++ solution n l (rhs_part n k rhs)) q []

  abbrev pub judge_rhs : ℕ → Verdict
  judge_rhs q = rule12 q (forward n l (rhs_part n q rhs)) (solution n l (rhs_part n q rhs))

  length_solved : (q : ℕ) → length (solved_first q) ≡ q * n
  unfolding iterate solution
  length_solved zero = sym (zero-mul n)
  length_solved (suc q) =
      length-append (solved_first q) (solution n l (rhs_part n q rhs))
      ∙ omega (arith, length_solved q, length_backward n l (forward n l (rhs_part n q rhs)), suc-mul q n)

  -- with the first q solved, the next is as it was
  rest_kept : (q : ℕ) → drop (q * n) (solutions n l q rhs) ≡ drop (q * n) rhs
  unfolding solutions
  rest_kept q = drop_at (solved_first q) (drop (q * n) rhs) (q * n) (length_solved q)

  part_kept : (q : ℕ) → take n (drop (q * n) (solutions n l q rhs)) ≡ rhs_part n q rhs
  unfolding rhs_part
  part_kept q = ap (take n) (rest_kept q)

  pub none_solved : rhs ≡ solutions n l 0 rhs
  unfolding solutions iterate
  none_solved = sym (ap (λ k. drop k rhs) (zero-mul n))

  pub length_solutions : (m q : ℕ) → length rhs ≡ n * m → q ≤ m → length (solutions n l q rhs) ≡ length rhs
  unfolding solutions
  length_solutions m q e h =
      let bound : q * n ≤ m * n = mul-le-mul_right n h in
      length-append (solved_first q) (drop (q * n) rhs)
      ∙ omega (arith, length_solved q, length-drop (q * n) rhs, mul_comm n m)

  -- one more is solved
  next_solved :
      (q : ℕ) (part : List Float) → part ≡ solution n l (rhs_part n q rhs) →
      take (q * n) (solutions n l q rhs) ++ (part ++ drop n (drop (q * n) (solutions n l q rhs))) ≡ solutions n l (q + 1) rhs
  unfolding solutions iterate
  next_solved q part e =
      rw (
        add-one q,
        e,
        take_at (solved_first q) (drop (q * n) rhs) (q * n) (length_solved q),
        drop_at (solved_first q) (drop (q * n) rhs) (q * n) (length_solved q),
        drop-drop n (q * n) rhs,
      )
      (sym (append_assoc (solved_first q) (solution n l (rhs_part n q rhs)) (drop (q * n + n) rhs))
      ∙ ap (λ k. (solved_first q ++ solution n l (rhs_part n q rhs)) ++ drop k rhs) (sym (suc-mul q n)))

  -- ---- the verdict

  judge_passed : (q : ℕ) → passes n l (rhs_part n q rhs) ≡ true → judge_rhs q ≡ success
  unfolding rule12
  judge_passed q e = ap (λ b. refuse_if (not b) (refusal 12 q zero64)) e

  judge_refused : (q : ℕ) → passes n l (rhs_part n q rhs) ≡ false → judge_rhs q ≡ refusal 12 q zero64
  unfolding rule12
  judge_refused q e = ap (λ b. refuse_if (not b) (refusal 12 q zero64)) e

  lowest_passed : (q : ℕ) → passes n l (rhs_part n q rhs) ≡ true → lowest_refusal judge_rhs q ≡ success → lowest_refusal judge_rhs (q + 1) ≡ success
  lowest_passed q e h = lowest_next judge_rhs q h ∙ judge_passed q e

  all_refused :
      (m q : ℕ) (rhs' : List Float) → q < m → lowest_refusal judge_rhs q ≡ success → passes n l (rhs_part n q rhs) ≡ false →
      rhs' ≡ solutions n l q rhs → AllSolved n m l rhs (Err (Solution q)) rhs'
  unfolding rhs_verdict
  all_refused m q rhs' h before lost e =
      record {
        result = sym (judge_refused q lost) ∙ sym (lowest_found judge_rhs q m h before (ap accepted (judge_refused q lost)));
        kept = e;
      }

  pub all_solved : (m : ℕ) (rhs' : List Float) → lowest_refusal judge_rhs m ≡ success → rhs' ≡ solutions n l m rhs → AllSolved n m l rhs (Ok tt) rhs'
  unfolding rhs_verdict
  all_solved m rhs' before e = record { result = sym before; kept = e }

-- ---- a turn of the loop: s the right-hand sides so far, of which the part of k values from q · n on is lent and comes back as part'

module _ (n m : ℕ) (l : Triangle) (rhs : List Float) (q k : ℕ) (s part' : List Float) (r : Result Unit Refusal)
    (size : k ≡ n) (so_far : s ≡ solutions n l q rhs) (before : lowest_refusal (judge_rhs n l rhs) q ≡ success)
    (one : RhsSolved n l q (take k (drop (q * n) s)) r part')
  where
    abbrev lent : List Float
    lent = take k (drop (q * n) s)

    abbrev returned : List Float
    returned = take (q * n) s ++ (part' ++ drop k (drop (q * n) s))

    lent_is : lent ≡ rhs_part n q rhs
    lent_is = rw (size, so_far) (part_kept n l rhs q)

    turn_kept : passes n l lent ≡ false → returned ≡ s
    turn_kept lost =
        ap (λ x. take (q * n) s ++ (x ++ drop k (drop (q * n) s))) (one.kept ∙ ap (λ b. cond b (solution n l lent) lent) lost)
        ∙ ap (λ x. take (q * n) s ++ x) (take-append-drop k (drop (q * n) s)) ∙ take-append-drop (q * n) s

    -- it refuses
    module _ (e : Refusal) (is : r ≡ Err e) where
      lost : passes n l lent ≡ false
      lost = fails (passes n l lent) q e (sym is ∙ one.outcome)

      pub turn_length : length returned ≡ length s
      turn_length = ap length (turn_kept lost)

      pub turn_refused : q < m → (p : Result Unit Refusal) → p ≡ Err e → AllSolved n m l rhs p returned
      turn_refused h p pe =
          rw (pe ∙ sym is ∙ one.outcome ∙ ap (λ b. rhs_outcome b q) lost)
          (all_refused n l rhs m q returned h before (ap (passes n l) (sym lent_is) ∙ lost) (turn_kept lost ∙ so_far))

    -- it passes
    pub turn_solved :
        (u : Unit) → r ≡ Ok u → (returned ≡ solutions n l (q + 1) rhs) × (lowest_refusal (judge_rhs n l rhs) (q + 1) ≡ success)
    turn_solved u is =
        let yes : passes n l lent ≡ true = holds (passes n l lent) q u (sym is ∙ one.outcome) in
        let done : part' ≡ solution n l (rhs_part n q rhs) = one.kept ∙ ap (λ b. cond b (solution n l lent) lent) yes ∙ ap (solution n l) lent_is in (
          rw (size, so_far) (next_solved n l rhs q part' done),
          lowest_passed n l rhs q (ap (passes n l) (sym lent_is) ∙ yes) before,
        )

-- the end of the next one is within the whole
pub next_within : (n m q : ℕ) → q < m → q * n + n ≤ n * m
next_within n m q h = let bound : suc q * n ≤ m * n = mul-le-mul_right n h in omega (arith, suc-mul q n, mul_comm n m)
