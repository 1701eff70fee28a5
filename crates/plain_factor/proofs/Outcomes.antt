-- The outcome of the plain factor against its definition: refused by a check, or factored as far as its columns are accepted. Assumes nothing.
use Prim.Native.Nat.{ℕ}
use mathlib.Core.Path.{◌≡◌, refl, sym, ap, ◌∙◌}
use mathlib.Core.Bool.{true, cond}
use mathlib.Core.List.{List, ◌++◌}
use lib.ListN.{length, drop, replicate}
use lib.Ieee.{Float}
use Rattle.binary64.specs.Kinds.{zero64}
use Rattle.shape.specs.Places.{packed_place}
use Rattle.shape.specs.declared.Shape.{Shape}
use Rattle.calls.specs.declared.Verdict.{Verdict}
use Rattle.calls.specs.declared.Layout.TheVariants.{Packed}
use Rattle.calls.specs.declared.Call.TheVariants.{Factor}
use Rattle.calls.specs.Triangles.{height, place_of, store}
use Rattle.calls.specs.Arithmetic.{cholesky}
use Rattle.calls.specs.Refusals.{accepted}
use Rattle.calls.specs.declared.Judgement.{Judgement}
use Rattle.calls.specs.Calls.{DoneAs, judged_result, clear, factor_checks, factored, factorize}
use Rattle.plain_factor.specs.Steps.{held, Factored}

module _ (shape : Shape) (m w : List Float) (r : Judgement) where
  abbrev n : ℕ
  n = shape.order

  pub columns_done :
      (checks : Verdict) (m' : List Float) → checks ≡ factor_checks Packed shape m (length w) → accepted checks ≡ true → Factored n m r m' →
      DoneAs (factorize Packed shape m w) (judged_result (Factor Packed) shape r) m' (replicate n zero64 ++ drop n w)
  unfolding factorize factored place_of clear
  columns_done checks m' e t f =
      rw (ap accepted (sym e) ∙ t)
      (record {
        result = ap (judged_result (Factor Packed) shape) f.result;
        matrix = f.matrix ∙ ap (λ (x : Judgement). store (packed_place n) (cholesky (height n) (held n m) (cond (accepted x.verdict) n x.verdict.place)) m) f.result;
        work = refl;
      })
