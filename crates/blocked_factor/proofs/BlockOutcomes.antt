-- The outcome of the blocked factor against its definition: refused by a check, or factored up to the block column of the first refused column.
-- Assumes nothing.
use Prim.Native.Nat.{ℕ, ◌≤◌}
use mathlib.Core.Path.{◌≡◌, sym, ap, ◌∙◌}
use mathlib.Core.Bool.{true}
use mathlib.Core.List.{List, ◌++◌}
use lib.ListN.{length, take, drop, replicate}
use lib.Seq.{length-take-le}
use lib.Ieee.{Float}
use Rattle.binary64.specs.Kinds.{zero64}
use Rattle.shape.specs.Places.{block_work, blocked_place}
use Rattle.shape.specs.declared.Shape.{Shape}
use Rattle.calls.specs.declared.Judgement.{Judgement}
use Rattle.calls.specs.declared.Verdict.{Verdict}
use Rattle.calls.specs.declared.Layout.TheVariants.{Blocked}
use Rattle.calls.specs.declared.Call.TheVariants.{Factor}
use Rattle.calls.specs.Triangles.{Triangle, height, place_of, load, store}
use Rattle.calls.specs.Arithmetic.{cholesky}
use Rattle.calls.specs.Refusals.{accepted}
use Rattle.calls.specs.Calls.{DoneAs, judged_result, clear, factor_checks, factored, factorize, finished}
use Rattle.calls.proofs.CheckLaws.{FactorAccepted, factor_passed}
use Rattle.blocked_factor.specs.BlockSteps.{Lent, Factored}

module _ (shape : Shape) (m w : List Float) (checks : Verdict) (e : checks ≡ factor_checks Blocked shape m (length w)) where
  abbrev n : ℕ
  n = shape.order

  abbrev b : ℕ
  b = shape.block

  module _ (passed : accepted checks ≡ true) where
    checks_accepted : FactorAccepted Blocked shape m (length w)
    checks_accepted = factor_passed Blocked shape m w checks e passed

    -- the part of the work memory that is used
    module _ (needed : ℕ) (size : needed ≡ block_work n b) where
      pub work_fits : needed ≤ length w
      work_fits = rw size checks_accepted.sizes.work

      pub lent : Lent n b (length m) (length (take needed w))
      lent =
          record {
            order = checks_accepted.sizes.order;
            block = checks_accepted.sizes.block_low tt;
            block_high = checks_accepted.sizes.block_high tt;
            matrix = checks_accepted.sizes.matrix;
            work = length-take-le needed w work_fits ∙ size;
          }

      pub blocks_done :
          (r : Judgement) (m' : List Float) → Factored n b m r m' →
          DoneAs (factorize Blocked shape m w) (judged_result (Factor Blocked) shape r) m' (replicate (block_work n b) zero64 ++ drop needed w)
      unfolding factorize factored place_of clear
      blocks_done r m' f =
          let a : Triangle = load (blocked_place n b) (height n) n m in
          rw (ap accepted (sym e) ∙ passed)
          (record {
            result = ap (judged_result (Factor Blocked) shape) f.result;
            matrix = f.matrix ∙ ap (λ (x : Judgement). store (blocked_place n b) (cholesky (height n) a (finished Blocked n b x.verdict)) m) f.result;
            work = ap (λ k. replicate (block_work n b) zero64 ++ drop k w) size;
          })
