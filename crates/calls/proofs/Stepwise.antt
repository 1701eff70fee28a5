-- The pipelines with the state that each call returns worked out to a number before the next call: the same pipelines, and quicker to compute, since a
-- call would be worked out again wherever the next one looks at its shape. For examples by computation. Assumes nothing.
use Prim.Native.Nat.{ℕ, zero, suc}
use mathlib.Core.Path.{◌≡◌, refl, sym, ap, ◌∙◌}
use mathlib.Core.Bool.{cond}
use mathlib.Core.List.{List}
use lib.ListN.{length}
use lib.Ieee.{Float}
use Rattle.shape.specs.declared.Shape.{Shape}
use Rattle.calls.specs.declared.CallResult.{CallResult}
use Rattle.calls.specs.declared.Layout.{Layout}
use Rattle.calls.specs.declared.Layout.TheVariants.{Packed, Blocked}
use Rattle.calls.specs.Refusals.{accepted}
use Rattle.calls.specs.Calls.{Done, Solved, succeeded, rearranger_checks, rearrange, packed_to_blocked, blocked_to_packed, factor_checks, factored, factorize, solver_checks, solved, solve}
use Rattle.calls.specs.Pipelines.{Ended, packed_raw, ended_by, plain_pipeline, blocked_pipeline}
use Rattle.calls.proofs.Refusals.{cond_both}

-- ---- every call returns the order and the block length that it was given

-- a shape by its state
abbrev pub shape_in : ℕ → ℕ → ℕ → Shape
shape_in state n b = record { order = n; block = b; state = state }

abbrev pub Of : ℕ → ℕ → Shape → Type 0
Of n b shape = shape ≡ shape_in shape.state n b

module _ (n b : ℕ) (shape : Shape) (same : Of n b shape) where
  -- a shape that keeps its order and block length
  kept : (r : Shape) → Of shape.order shape.block r → Of n b r
  kept r h = h ∙ ap (λ (s : Shape). shape_in r.state s.order s.block) same

  pub rearranged_shape : (from to : Layout) (matrix work : List Float) → Of n b (rearrange from to shape matrix work).result.shape
  unfolding rearrange
  rearranged_shape from to matrix work =
      kept _ (cond_both (λ (d : Done). Of shape.order shape.block d.result.shape) (accepted (rearranger_checks from to shape (length matrix) (length work))) _ _ refl refl)

  pub factored_shape : (layout : Layout) (matrix work : List Float) → Of n b (factorize layout shape matrix work).result.shape
  unfolding factorize factored
  factored_shape layout matrix work =
      kept _ (cond_both (λ (d : Done). Of shape.order shape.block d.result.shape) (accepted (factor_checks layout shape matrix (length work))) _ _ refl refl)

  pub solved_shape : (layout : Layout) (m : ℕ) (matrix rhs work : List Float) → Of n b (solve layout shape m matrix rhs work).result.shape
  unfolding solve solved
  solved_shape layout m matrix rhs work =
      kept _
      (cond_both (λ (d : Solved). Of shape.order shape.block d.result.shape) (accepted (solver_checks layout shape m matrix rhs (length work))) _ _ refl refl)

-- ---- a number worked out before it is used

unfoldable pub force : {A : Type 0} → ℕ → (ℕ → A) → A
force zero body = body zero
force (suc k) body = force k (λ i. body (suc i))

force_is : {A : Type 0} (k : ℕ) (body : ℕ → A) → force k body ≡ body k
unfolding force
force_is zero body = refl
force_is (suc k) body = force_is k (λ i. body (suc i))

-- the next call gets the shape that the one before it returned
abbrev hand_on : {A : Type 0} → ℕ → ℕ → CallResult → (Shape → A) → A
hand_on n b r next = force r.shape.state (λ state. next (shape_in state n b))

hand_on_lem : {A : Type 0} (n b : ℕ) (r : CallResult) → Of n b r.shape → (next : Shape → A) → hand_on n b r next ≡ next r.shape
hand_on_lem n b r same next = force_is r.shape.state (λ state. next (shape_in state n b)) ∙ ap next (sym same)

-- ---- the pipelines

module _ (n b m : ℕ) (matrix rhs work : List Float) where
  abbrev plain_after : Done → Shape → Ended
  plain_after f shape =
      let s = solve Packed shape m f.matrix rhs f.work in
      cond (succeeded f.result)
      (record { factor_result = f.result; solver_result = s.result; shape = s.result.shape; matrix = f.matrix; rhs = s.rhs; work = s.work })
      (ended_by f.result f.matrix rhs f.work)

  unfoldable pub plain_stepwise : Ended
  plain_stepwise = let f = factorize Packed (packed_raw n b) matrix work in hand_on n b f.result (plain_after f)

  pub plain_stepwise_lem : plain_stepwise ≡ plain_pipeline n b m matrix rhs work
  unfolding plain_stepwise plain_pipeline
  plain_stepwise_lem =
      let f = factorize Packed (packed_raw n b) matrix work in
      hand_on_lem n b f.result (factored_shape n b (packed_raw n b) refl Packed matrix work) (plain_after f)

  abbrev back : Done → Done → Solved → Shape → Ended
  back p f s shape =
      let q = blocked_to_packed shape f.matrix s.work in
      cond (succeeded p.result)
      (cond (succeeded f.result)
      (record { factor_result = f.result; solver_result = s.result; shape = q.result.shape; matrix = q.matrix; rhs = s.rhs; work = q.work })
      (ended_by f.result f.matrix rhs f.work))
      (ended_by p.result p.matrix rhs p.work)

  abbrev solver_of : Done → Shape → Solved
  solver_of f shape = solve Blocked shape m f.matrix rhs f.work

  abbrev factor_of : Done → Shape → Done
  factor_of p shape = factorize Blocked shape p.matrix p.work

  unfoldable pub blocked_stepwise : Ended
  blocked_stepwise =
      let p = packed_to_blocked (packed_raw n b) matrix work in
      hand_on n b p.result
      (λ shape.
      let f = factor_of p shape in
      hand_on n b f.result (λ shape. let s = solver_of f shape in hand_on n b s.result (back p f s)))

  pub blocked_stepwise_lem : blocked_stepwise ≡ blocked_pipeline n b m matrix rhs work
  unfolding blocked_stepwise blocked_pipeline
  blocked_stepwise_lem =
      let p = packed_to_blocked (packed_raw n b) matrix work in
      let f = factor_of p p.result.shape in
      let s = solver_of f f.result.shape in
      let there : Of n b p.result.shape = rearranged_shape n b (packed_raw n b) refl Packed Blocked matrix work in
      let factored : Of n b f.result.shape = factored_shape n b p.result.shape there Blocked p.matrix p.work in
      let solved : Of n b s.result.shape = solved_shape n b f.result.shape factored Blocked m f.matrix rhs f.work in
      hand_on_lem n b p.result there
      (λ shape.
      let f = factor_of p shape in
      hand_on n b f.result (λ shape. let s = solver_of f shape in hand_on n b s.result (back p f s)))
      ∙ hand_on_lem n b f.result factored (λ shape. let s = solver_of f shape in hand_on n b s.result (back p f s))
      ∙ hand_on_lem n b s.result solved (back p f s)
