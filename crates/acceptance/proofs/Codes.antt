-- The codes of the blocked pipeline are those of the plain one, by demand 3, and these do not depend on the block length: so the lines of an order are the same.
-- Assumes nothing.
use Prim.Native.Nat.{ℕ, zero, suc, ◌*◌, ◌/◌, ◌%◌, ◌≤◌, ◌<◌, min}
use native.Mathlib.Nat.{mul-le-mul_left}
use native.Mathlib.Omega.{arith}
use mathlib.Core.Path.{◌≡◌, refl, sym, ap, ◌∙◌, subst}
use mathlib.Core.Bool.{Bool, true, false, cond}
use mathlib.Core.List.{List, [], ◌∷◌, ◌++◌, map-append}
use lib.Dec.{T, eqb}
use lib.ListN.{length, replicate, length-map, length-replicate}
use lib.Ieee.{Float, binary64, of_int, fits}
use lib.Ieee.Fits.{and_i}
use Rattle.binary64.specs.Kinds.{kind, finite_kind, finite, zero64}
use Rattle.shape.specs.Bounds.{max_order, max_block}
use Rattle.shape.specs.Places.{triangle, block_work}
use Rattle.shape.specs.declared.Shape.{Shape}
use Rattle.calls.specs.declared.Layout.TheVariants.{Packed, Blocked as BlockedLayout}
use Rattle.calls.specs.Sequences.{all, passing}
use Rattle.calls.specs.Triangles.{place_of}
use Rattle.calls.specs.Refusals.{accepted, rule2, rule4}
use Rattle.calls.specs.Calls.{Done, Solved, succeeded, packed_to_blocked, blocked_to_packed, factor_checks, factored, factorize, solver_checks, solved, solve}
use Rattle.calls.specs.Pipelines.{Ended, packed_raw, ended_by, plain_pipeline, blocked_pipeline, Start, Agreement}
use Rattle.calls.proofs.Sequences.{all_append}
use Rattle.calls.proofs.Stepwise.{shape_in, factored_shape}
use Rattle.calls.proofs.Agreement.{pipelines_agree}
use Rattle.acceptance.specs.declared.Run.{Run}
use Rattle.acceptance.specs.declared.Run.TheVariants.{Plain, Blocked}
use Rattle.acceptance.specs.Systems.{whole_of, wholes, entries, values, total}
use Rattle.acceptance.specs.Counts.{run_of, code_of, tally, line, SameLines}
use Rattle.acceptance.proofs.Systems.{digitwise, length_wholes}

-- ---- the plain pipeline's code does not depend on the block length

-- what is taken of two choices by the same test
cond_alike : {A B : Type 0} (f : A → B) (c : Bool) (x y x' y' : A) → f x ≡ f x' → f y ≡ f y' → f (cond c x y) ≡ f (cond c x' y')
cond_alike f true x y x' y' p q = p
cond_alike f false x y x' y' p q = q

-- what a factor returned and left, without the block length
bare : Done → Done
bare d =
    record {
      result = record {
        code = d.result.code;
        place = d.result.place;
        value = d.result.value;
        exact = d.result.exact;
        shape = shape_in d.result.shape.state d.result.shape.order 0;
      };
      matrix = d.matrix;
      work = d.work;
    }

factor_alike : (n b b' : ℕ) (matrix work : List Float) → bare (factorize Packed (packed_raw n b) matrix work) ≡ bare (factorize Packed (packed_raw n b') matrix work)
unfolding bare factorize factored factor_checks rule2 rule4 place_of
factor_alike n b b' matrix work = cond_alike bare (accepted (factor_checks Packed (packed_raw n b) matrix (length work))) _ _ _ _ refl refl

module _ (n m : ℕ) (rhs : List Float) where
  solve_alike :
      (b b' state : ℕ) (matrix work : List Float) →
      (solve Packed (shape_in state n b) m matrix rhs work).result.code ≡ (solve Packed (shape_in state n b') m matrix rhs work).result.code
  unfolding solve solved solver_checks rule2 rule4 place_of
  solve_alike b b' state matrix work =
      cond_alike (λ (s : Solved). s.result.code) (accepted (solver_checks Packed (shape_in state n b) m matrix rhs (length work))) _ _ _ _ refl refl

  -- the code after a factor
  code_after : ℕ → Done → ℕ
  code_after b f = cond (eqb f.result.code 0) (solve Packed (shape_in f.result.shape.state n b) m f.matrix rhs f.work).result.code f.result.code

  plain_code :
      (b : ℕ) (matrix work : List Float) →
      (plain_pipeline n b m matrix rhs work).solver_result.code ≡ code_after b (factorize Packed (packed_raw n b) matrix work)
  unfolding plain_pipeline code_after
  plain_code b matrix work = go (factorize Packed (packed_raw n b) matrix work) (factored_shape n b (packed_raw n b) refl Packed matrix work)
    where
      go : (f : Done) → f.result.shape ≡ shape_in f.result.shape.state n b →
          let s = solve Packed f.result.shape m f.matrix rhs f.work in
          (cond (eqb f.result.code 0)
          (record { factor_result = f.result; solver_result = s.result; shape = s.result.shape; matrix = f.matrix; rhs = s.rhs; work = s.work })
          (ended_by f.result f.matrix rhs f.work)
          ).solver_result.code
          ≡ code_after b f
      go f e = at (eqb f.result.code 0)
        where
          at : (c : Bool) →
              let s = solve Packed f.result.shape m f.matrix rhs f.work in
              (cond c
              (record { factor_result = f.result; solver_result = s.result; shape = s.result.shape; matrix = f.matrix; rhs = s.rhs; work = s.work })
              (ended_by f.result f.matrix rhs f.work)
              ).solver_result.code
              ≡ cond c (solve Packed (shape_in f.result.shape.state n b) m f.matrix rhs f.work).result.code f.result.code
          at true = ap (λ (shape : Shape). (solve Packed shape m f.matrix rhs f.work).result.code) e
          at false = refl

  code_after_alike : (b b' : ℕ) (f : Done) → code_after b f ≡ code_after b' f
  unfolding code_after
  code_after_alike b b' f =
      ap (λ x. cond (eqb f.result.code 0) x f.result.code) (solve_alike b b' f.result.shape.state f.matrix f.work)

  plain_alike : (b b' : ℕ) (matrix work : List Float) → (plain_pipeline n b m matrix rhs work).solver_result.code ≡ (plain_pipeline n b' m matrix rhs work).solver_result.code
  unfolding code_after bare
  plain_alike b b' matrix work =
      plain_code b matrix work
      ∙ ap (code_after b) (factor_alike n b b' matrix work)
      ∙ code_after_alike b b' (factorize Packed (packed_raw n b') matrix work)
      ∙ sym (plain_code b' matrix work)

-- ---- pipelines that agree have the same code

-- a refused factor ends its pipeline: its result stands for the solver's
Ends : Ended → Type 0
Ends e = succeeded e.factor_result ≡ false → e.solver_result ≡ e.factor_result

both : {A : Type 0} {b : Bool} → b ≡ true → b ≡ false → A
both p q = let z : ◌≡◌ {A = Bool} true false = sym p ∙ q in let y : ◌≡◌ {A = ℕ} 0 1 = cc in absurd (omega arith)

module _ (n b m : ℕ) (matrix rhs work : List Float) where
  plain_ends : Ends (plain_pipeline n b m matrix rhs work)
  unfolding Ends plain_pipeline
  plain_ends = go (succeeded f.result) refl
    where
      f : Done
      f = factorize Packed (packed_raw n b) matrix work

      go : (c : Bool) → succeeded f.result ≡ c →
          let s = solve Packed f.result.shape m f.matrix rhs f.work in
          Ends
          (cond c
          (record { factor_result = f.result; solver_result = s.result; shape = s.result.shape; matrix = f.matrix; rhs = s.rhs; work = s.work })
          (ended_by f.result f.matrix rhs f.work))
      go true e h = both e h
      go false e h = refl

  blocked_ends : Ends (blocked_pipeline n b m matrix rhs work)
  unfolding Ends blocked_pipeline
  blocked_ends = go (succeeded p.result) (succeeded f.result) refl
    where
      p : Done
      p = packed_to_blocked (packed_raw n b) matrix work

      f : Done
      f = factorize BlockedLayout p.result.shape p.matrix p.work

      go : (c d : Bool) → succeeded f.result ≡ d →
          let s = solve BlockedLayout f.result.shape m f.matrix rhs f.work in
          let q = blocked_to_packed s.result.shape f.matrix s.work in
          Ends
          (cond c
          (cond d
          (record { factor_result = f.result; solver_result = s.result; shape = q.result.shape; matrix = q.matrix; rhs = s.rhs; work = q.work })
          (ended_by f.result f.matrix rhs f.work))
          (ended_by p.result p.matrix rhs p.work))
      go true true e h = both e h
      go true false e h = refl
      go false d e h = refl

agreed_code : (p q : Ended) → Agreement p q → Ends p → Ends q → p.solver_result.code ≡ q.solver_result.code
unfolding Ends
agreed_code p q a ends ends' = go (succeeded p.factor_result) refl
  where
    same : p.factor_result.code ≡ q.factor_result.code
    same = ap (λ j. j.verdict.code) a.factors

    go : (c : Bool) → succeeded p.factor_result ≡ c → p.solver_result.code ≡ q.solver_result.code
    go true e = ap (λ j. j.verdict.code) (a.solvers (subst T (sym e) tt))
    go false e =
        ap (λ r. r.code) (ends e) ∙ same ∙ sym (ap (λ r. r.code) (ends' (ap (λ k. eqb k 0) (sym same) ∙ e)))

-- ---- small systems

-- what holds of the values of the five digits holds of all values
pub values_all : (test : Float → Bool) → ((d : ℕ) → d < 5 → T (test (of_int binary64 (whole_of d)))) → (k t : ℕ) → T (all test (values (wholes k t)))
unfolding wholes all
values_all test h zero t = tt
values_all test h (suc k) t =
    let last : List Float = of_int binary64 (whole_of (t % 5)) ∷ [] in
    let e : values (wholes k (t / 5) ++ (whole_of (t % 5) ∷ [])) ≡ values (wholes k (t / 5)) ++ last = map-append (of_int binary64) (wholes k (t / 5)) (whole_of (t % 5) ∷ []) in
    rw (e, all_append test (values (wholes k (t / 5))) last)
    (and_i (all test (values (wholes k (t / 5)))) (all test last) (values_all test h k (t / 5))
    (and_i (test (of_int binary64 (whole_of (t % 5)))) true (h (t % 5) (omega arith)) tt))

pub value_fits : (d : ℕ) → d < 5 → T (fits binary64 (of_int binary64 (whole_of d)))
unfolding fits of_int
value_fits = digitwise (λ d. T (fits binary64 (of_int binary64 (whole_of d)))) tt tt tt tt tt

value_finite : (d : ℕ) → d < 5 → T (finite (of_int binary64 (whole_of d)))
unfolding finite finite_kind kind of_int
value_finite = digitwise (λ d. T (finite (of_int binary64 (whole_of d)))) tt tt tt tt tt

square_enough : (n : ℕ) → n ≤ n * n
square_enough zero = omega arith
square_enough (suc n) = let one : 1 ≤ suc n = omega arith in omega (arith, mul-le-mul_left (suc n) one)

block_work_enough : (n b : ℕ) → block_work n b ≤ n * n
unfolding block_work
block_work_enough n b = let least : min n b ≤ n = omega arith in mul-le-mul_left n least

module _ (n b : ℕ) (order : n ≤ max_order) (low : 1 ≤ b) (high : b ≤ max_block) where
  pub starts : (t : ℕ) → let work = replicate (n * n) zero64 in Start n b 0 (values (entries n t)) [] work work
  starts t =
      record {
        order = order;
        block_low = low;
        block_high = high;
        rhs_count = omega arith;
        matrix_length = length-map (entries n t) (of_int binary64) ∙ length_wholes (triangle n) t;
        matrix_finite = values_all finite value_finite (triangle n) t;
        rhs_length = omega arith;
        plain_work_length = omega (arith, length-replicate (n * n) zero64, square_enough n);
        blocked_work_length = omega (arith, length-replicate (n * n) zero64, block_work_enough n b);
      }

  code_same : (t : ℕ) → code_of (Blocked b) n t ≡ code_of Plain n t
  unfolding code_of
  code_same t =
      let matrix : List Float = values (entries n t) in
      let work : List Float = replicate (n * n) zero64 in
      sym
      (plain_alike n 0 [] 1 b matrix work
      ∙ agreed_code _ _ (pipelines_agree n b 0 matrix [] work work (values_all (fits binary64) value_fits (triangle n) t) (starts t))
      (plain_ends n b 0 matrix [] work) (blocked_ends n b 0 matrix [] work))

-- ---- the lines of an order

passing_same : (f g : ℕ → Bool) → ((k : ℕ) → f k ≡ g k) → (n : ℕ) → passing f n ≡ passing g n
unfolding passing
passing_same f g h zero = refl
passing_same f g h (suc k) = rw (passing_same f g h k, h k) refl

tally_same : (run run' : Run) (n : ℕ) → ((t : ℕ) → code_of run n t ≡ code_of run' n t) → (count code : ℕ) → tally run n count code ≡ tally run' n count code
unfolding tally
tally_same run run' n h count code = ap length (passing_same _ _ (λ t. ap (λ c. eqb c code) (h t)) count)

pub tallies_same : (n k : ℕ) → n ≤ max_order → k ≤ max_block → (count code : ℕ) → tally (run_of k) n count code ≡ tally Plain n count code
tallies_same n zero order high count code = refl
tallies_same n (suc b) order high count code = tally_same (Blocked (suc b)) Plain n (code_same n (suc b) order (omega arith) high) count code

pub same_lines : SameLines
unfolding line
same_lines n k order high =
    let same = tallies_same n k order high (total n) in
    rw (same 0, same 10, same 11, same 16) refl
