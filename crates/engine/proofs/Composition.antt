-- The pipelines as compositions of calls that did what their definitions say, and their agreement. Assumes nothing.
use Prim.Native.Nat.{ℕ}
use mathlib.Core.Path.{◌≡◌, refl, sym, ap, ◌∙◌, subst}
use mathlib.Core.List.{List}
use borrow.Author.Tests.{eq-eqb, ne_eqb}
use lib.Dec.{T}
use lib.Ieee.{Float, binary64, fits}
use Rattle.shape.specs.declared.Shape.{Shape}
use Rattle.calls.specs.declared.CallResult.{CallResult}
use Rattle.calls.specs.declared.Layout.TheVariants.{Packed, Blocked}
use Rattle.calls.specs.Sequences.{all}
use Rattle.calls.specs.Calls.{DoneAs, SolvedAs, packed_to_blocked, blocked_to_packed, factorize, solve}
use Rattle.calls.specs.Pipelines.{packed_raw, ended_by, plain_pipeline, blocked_pipeline, Agreement}
use Rattle.calls.proofs.Agreement.{pipelines_agree}
use Rattle.engine.specs.declared.pipelines.BothResults.{BothResults}
use Rattle.engine.specs.Promises.{ended, ended_at, Memory, BothRan}

-- the shape that a pipeline starts from
pub starts : (n b : ℕ) (shape : Shape) → shape.order ≡ n → shape.block ≡ b → shape.state ≡ 0 → shape ≡ packed_raw n b
starts n b shape p q r = rw (← p, ← q) (ap (λ k. record { order = shape.order; block = shape.block; state = k }) r)

-- ---- plain

module _ (n b m : ℕ) (matrix rhs work : List Float) (f : CallResult) (matrix' work' : List Float) (factored : DoneAs (factorize Packed (packed_raw n b) matrix work) f matrix' work')
  where
    pub plain_refused : (f.code ≡ 0 → ⊥) → ended_by f matrix' rhs work' ≡ plain_pipeline n b m matrix rhs work
    unfolding plain_pipeline
    plain_refused ne = rw (← factored.result, ← factored.matrix, ← factored.work, ne_eqb f.code 0 ne) refl

    pub plain_accepted :
        f.code ≡ 0 → (s : CallResult) (rhs' work'' : List Float) → SolvedAs (solve Packed f.shape m matrix' rhs work') s rhs' work'' →
        ended (record { factor = f; solver = s; shape = s.shape }) matrix' rhs' work'' ≡ plain_pipeline n b m matrix rhs work
    unfolding plain_pipeline
    plain_accepted e s rhs' work'' solved =
        rw (← factored.result, ← factored.matrix, ← factored.work, eq-eqb f.code 0 e, ← solved.result, ← solved.rhs, ← solved.work) refl

-- ---- blocked

module _
    (n b m : ℕ) (matrix rhs work : List Float) (p : CallResult) (matrix₁ work₁ : List Float)
    (there : DoneAs (packed_to_blocked (packed_raw n b) matrix work) p matrix₁ work₁)
  where
    pub blocked_not_moved : (p.code ≡ 0 → ⊥) → ended_by p matrix₁ rhs work₁ ≡ blocked_pipeline n b m matrix rhs work
    unfolding blocked_pipeline
    blocked_not_moved ne = rw (← there.result, ← there.matrix, ← there.work, ne_eqb p.code 0 ne) refl

    module _
        (moved : p.code ≡ 0) (f : CallResult) (matrix₂ work₂ : List Float) (factored : DoneAs (factorize Blocked p.shape matrix₁ work₁) f matrix₂ work₂)
      where
        pub blocked_refused : (f.code ≡ 0 → ⊥) → ended_by f matrix₂ rhs work₂ ≡ blocked_pipeline n b m matrix rhs work
        unfolding blocked_pipeline
        blocked_refused ne =
            rw (
              ← there.result,
              ← there.matrix,
              ← there.work,
              eq-eqb p.code 0 moved,
              ← factored.result,
              ← factored.matrix,
              ← factored.work,
              ne_eqb f.code 0 ne,
            )
            refl

        pub blocked_accepted :
            f.code ≡ 0 → (s : CallResult) (rhs' work₃ : List Float) → SolvedAs (solve Blocked f.shape m matrix₂ rhs work₂) s rhs' work₃ →
            (q : CallResult) (matrix₄ work₄ : List Float) → DoneAs (blocked_to_packed s.shape matrix₂ work₃) q matrix₄ work₄ →
            ended (record { factor = f; solver = s; shape = q.shape }) matrix₄ rhs' work₄ ≡ blocked_pipeline n b m matrix rhs work
        unfolding blocked_pipeline
        blocked_accepted e s rhs' work₃ solved q matrix₄ work₄ back =
            rw (
              ← there.result,
              ← there.matrix,
              ← there.work,
              eq-eqb p.code 0 moved,
              ← factored.result,
              ← factored.matrix,
              ← factored.work,
              eq-eqb f.code 0 e,
              ← solved.result,
              ← solved.rhs,
              ← solved.work,
              ← back.result,
              ← back.matrix,
              ← back.work,
            )
            refl

-- ---- both

pub both_ran :
    (n b m : ℕ) (plain block : Memory) (r : BothResults) (plain' block' : Memory) →
    T (all (fits binary64) plain.matrix) →
    ended_at r.plain plain' ≡ plain_pipeline n b m plain.matrix plain.rhs plain.work →
    ended_at r.blocked block' ≡ blocked_pipeline n b m block.matrix block.rhs block.work →
    BothRan n b m plain block r plain' block'
both_ran n b m plain block r plain' block' values p q =
    record {
      plain_ended = p;
      blocked_ended = q;
      agreed = λ same-matrix same_rhs start.
          let q' : ended_at r.blocked block' ≡ blocked_pipeline n b m plain.matrix plain.rhs block.work =
          q ∙ ap (λ x. blocked_pipeline n b m x block.rhs block.work) same-matrix ∙ ap (λ x. blocked_pipeline n b m plain.matrix x block.work) same_rhs
          in
          subst (λ x. Agreement x (ended_at r.blocked block')) (sym p)
          (subst (λ x. Agreement (plain_pipeline n b m plain.matrix plain.rhs plain.work) x) (sym q')
          (pipelines_agree n b m plain.matrix plain.rhs plain.work block.work values start));
    }
