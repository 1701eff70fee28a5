-- The outcome of a solver against its definition: refused by a check, or solved as far as its right-hand sides pass. Assumes nothing.
use Prim.Native.Nat.{ℕ}
use mathlib.Core.Path.{◌≡◌, refl, sym, ap, ◌∙◌}
use mathlib.Core.Bool.{cond}
use mathlib.Core.List.{List, ◌++◌}
use lib.ListN.{length, take, drop, replicate}
use lib.Seq.{length-take-le}
use lib.Ieee.{Float}
use Rattle.std.specs.Prelude.{Result}
use Rattle.binary64.specs.Kinds.{zero64}
use Rattle.shape.specs.declared.Shape.{Shape}
use Rattle.calls.specs.declared.Layout.{Layout}
use Rattle.calls.specs.declared.outcomes.Refusal.{Refusal}
use Rattle.calls.specs.declared.Call.TheVariants.{Solver}
use Rattle.calls.specs.Triangles.{Triangle, place_of, height, load}
use Rattle.calls.specs.Refusals.{success, accepted}
use Rattle.calls.specs.Outcomes.{verdict_of_refusal, verdict_of}
use Rattle.calls.specs.Calls.{SolvedAs, result_of, clear, solver_checks, solutions, solved, solve}
use Rattle.calls.proofs.OutcomeLaws.{not_accepted}
use Rattle.calls.proofs.Trailing.{whole_from}
use Rattle.calls.proofs.CheckLaws.{SolverAccepted, solver_accepted}
use Rattle.solve.specs.Solving.{factor_of, AllSolved}

module _ (layout : Layout) (shape : Shape) (m : ℕ) (a rhs w : List Float) where
  abbrev n : ℕ
  n = shape.order

  abbrev b : ℕ
  b = shape.block

  abbrev factor : Triangle
  factor = load (place_of layout n b) (height n) n a

  pub checks_refused :
      (e : Refusal) → verdict_of_refusal e ≡ solver_checks layout shape m a rhs (length w) →
      SolvedAs (solve layout shape m a rhs w) (result_of (Solver layout) shape (verdict_of_refusal e)) rhs w
  unfolding solve
  checks_refused e is =
      rw (ap accepted (sym is) ∙ not_accepted e) (record { result = ap (result_of (Solver layout) shape) is; rhs = refl; work = refl })

  module _ (passed : success ≡ solver_checks layout shape m a rhs (length w)) where
    pub checks_accepted : SolverAccepted layout shape m a rhs (length w)
    checks_accepted = solver_accepted layout shape m a rhs (length w) (rw (ap accepted (sym passed)) tt)

    pub part_length : length (take n w) ≡ n
    part_length = length-take-le n w checks_accepted.sizes.work

    pub all_done :
        (r : Result Unit Refusal) (rhs' : List Float) → AllSolved n m (factor_of layout n b 0 a) rhs r rhs' →
        SolvedAs (solve layout shape m a rhs w) (result_of (Solver layout) shape (verdict_of r)) rhs' (replicate n zero64 ++ drop n w)
    unfolding solve solved clear
    all_done r rhs' f =
        let whole : AllSolved n m factor rhs r rhs' = rw (whole_from (place_of layout n b) n a) at f in
        rw (ap accepted (sym passed))
        (record {
          result = ap (result_of (Solver layout) shape) whole.result;
          rhs = whole.kept ∙ ap (λ v. solutions n factor (cond (accepted v) m v.place) rhs) whole.result;
          work = refl;
        })
