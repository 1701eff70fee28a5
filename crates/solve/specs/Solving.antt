-- What is promised of one right-hand side and of all of them, the checks being passed.
use Rattle.std.specs.Prelude.{ℕ, ◌≡◌, Bool, true, cond, ◌&&◌, Result, Ok, Err, List, Float}
use Rattle.binary64.specs.Kinds.{finite}
use Rattle.calls.specs.declared.Layout.{Layout}
use Rattle.calls.specs.declared.outcomes.Refusal.{Refusal}
use Rattle.calls.specs.declared.outcomes.Refusal.TheVariants.{Solution}
use Rattle.calls.specs.Sequences.{all}
use Rattle.calls.specs.Triangles.{Triangle, place_of, load_from}
use Rattle.calls.specs.Arithmetic.{forward}
use Rattle.calls.specs.Refusals.{accepted}
use Rattle.calls.specs.Outcomes.{verdict_of}
use Rattle.calls.specs.Calls.{solution, rhs_verdict, solutions}

-- a factor's trailing triangle from column k on
abbrev pub factor_of : Layout → ℕ → ℕ → ℕ → List Float → Triangle
factor_of layout n b k matrix = load_from k (place_of layout n b) n matrix

-- all y and all x are finite
abbrev pub passes : ℕ → Triangle → List Float → Bool
passes n l rhs = all finite (forward n l rhs) && all finite (solution n l rhs)

-- right-hand side q, by whether it passes
abbrev pub rhs_outcome : Bool → ℕ → Result Unit Refusal
rhs_outcome passed q = cond passed (Ok tt) (Err (Solution q))

pub record Substituted (n : ℕ) (l : Triangle) (q : ℕ) (rhs : List Float) (r : Result Unit Refusal) (work' : List Float) : Type 0 where
  pub outcome : r ≡ rhs_outcome (passes n l rhs) q
  pub solved : passes n l rhs ≡ true → work' ≡ solution n l rhs

-- a refused right-hand side stays as it was
pub record RhsSolved (n : ℕ) (l : Triangle) (q : ℕ) (rhs : List Float) (r : Result Unit Refusal) (rhs' : List Float) : Type 0 where
  pub outcome : r ≡ rhs_outcome (passes n l rhs) q
  pub kept : rhs' ≡ cond (passes n l rhs) (solution n l rhs) rhs

pub record AllSolved (n m : ℕ) (l : Triangle) (rhs : List Float) (r : Result Unit Refusal) (rhs' : List Float) : Type 0 where
  pub result : verdict_of r ≡ rhs_verdict n m l rhs
  pub kept : rhs' ≡ solutions n l (cond (accepted (verdict_of r)) m (verdict_of r).place) rhs
