-- Document 01, "The two roads", called pipelines here: each call gets what the one before it returned, its shape too, or left. And demand 3.
use Rattle.std.specs.Prelude.{ℕ, ◌*◌, ◌≤◌, ◌≡◌, cond, List, T, length, Float}
use Rattle.std.specs.Float.{binary64}
use Rattle.std.specs.Float.Ieee.{fits}
use Rattle.binary64.specs.Kinds.{finite}
use Rattle.shape.specs.Bounds.{max_order, max_block, max_rhs}
use Rattle.shape.specs.Places.{triangle, block_work}
use Rattle.shape.specs.declared.Shape.{Shape}
use Rattle.calls.specs.declared.CallResult.{CallResult}
use Rattle.calls.specs.Sequences.{all}
use Rattle.calls.specs.declared.Layout.TheVariants.{Packed, Blocked}
use Rattle.calls.specs.declared.states.State.TheVariants.{Raw}
use Rattle.calls.specs.States.{state_number}
use Rattle.calls.specs.Calls.{answer, succeeded, packed_to_blocked, blocked_to_packed, factorize, solve}

-- A pipeline's results, and the shape and the memory at its end. Where a call before the solver is refused, the calls after it do not run, and its
-- result is given as theirs.
pub record Ended : Type 0 where
  pub factor_result : CallResult
  pub solver_result : CallResult
  pub shape : Shape
  pub matrix : List Float
  pub rhs : List Float
  pub work : List Float

-- the shape that both start from: packed raw
abbrev pub packed_raw : ℕ → ℕ → Shape
packed_raw n b = record { order = n; block = b; state = state_number (Raw Packed) }

-- ended by a call that is refused
abbrev pub ended_by : CallResult → List Float → List Float → List Float → Ended
ended_by r matrix rhs work = record { factor_result = r; solver_result = r; shape = r.shape; matrix = matrix; rhs = rhs; work = work }

-- Plain: plain factor, then plain solver.
unfoldable pub plain_pipeline : ℕ → ℕ → ℕ → List Float → List Float → List Float → Ended
plain_pipeline n b m matrix rhs work =
    let f = factorize Packed (packed_raw n b) matrix work in
    let s = solve Packed f.result.shape m f.matrix rhs f.work in
    cond (succeeded f.result)
    (record {
      factor_result = f.result;
      solver_result = s.result;
      shape = s.result.shape;
      matrix = f.matrix;
      rhs = s.rhs;
      work = s.work;
    })
    (ended_by f.result f.matrix rhs f.work)

-- Blocked: packed to blocked, blocked factor, blocked solver, blocked to packed; after a refused solver too.
unfoldable pub blocked_pipeline : ℕ → ℕ → ℕ → List Float → List Float → List Float → Ended
blocked_pipeline n b m matrix rhs work =
    let p = packed_to_blocked (packed_raw n b) matrix work in
    let f = factorize Blocked p.result.shape p.matrix p.work in
    let s = solve Blocked f.result.shape m f.matrix rhs f.work in
    let q = blocked_to_packed s.result.shape f.matrix s.work in
    cond (succeeded p.result)
    (cond (succeeded f.result)
    (record {
      factor_result = f.result;
      solver_result = s.result;
      shape = q.result.shape;
      matrix = q.matrix;
      rhs = s.rhs;
      work = q.work;
    })
    (ended_by f.result f.matrix rhs f.work))
    (ended_by p.result p.matrix rhs p.work)

-- What both start from: n, b and m within the bounds, a packed matrix of finite values, right-hand sides of any bits, and work memory long
-- enough for each call of its pipeline, with any content.
pub record Start (n b m : ℕ) (matrix rhs plain_work blocked_work : List Float) : Type 0 where
  pub order : n ≤ max_order
  pub block_low : 1 ≤ b
  pub block_high : b ≤ max_block
  pub rhs_count : m ≤ max_rhs
  pub matrix_length : length matrix ≡ triangle n
  pub matrix_finite : T (all finite matrix)
  pub rhs_length : length rhs ≡ n * m
  pub plain_work_length : n ≤ length plain_work
  pub blocked_work_length : block_work n b ≤ length blocked_work

-- What is compared: the factors' answers; where these accept, the solvers' answers, all right-hand-side memory and all matrix memory; and the shape at
-- the end. The shapes in these results are not: the plain ones say packed factor, the blocked ones blocked factor.
pub record Agreement (plain block : Ended) : Type 0 where
  pub factors : answer plain.factor_result ≡ answer block.factor_result
  pub shape : plain.shape ≡ block.shape
  pub solvers : T (succeeded plain.factor_result) → answer plain.solver_result ≡ answer block.solver_result
  pub rhs : T (succeeded plain.factor_result) → plain.rhs ≡ block.rhs
  pub matrix : T (succeeded plain.factor_result) → plain.matrix ≡ block.matrix

-- Demand 3, one statement over both pipelines from start to end. The logic's floats have more numbers than binary64, so it says that the
-- matrix holds values of binary64, as every memory of f64 does.
abbrev pub PipelinesAgree : Type 0
PipelinesAgree =
    (n b m : ℕ) (matrix rhs plain_work blocked_work : List Float) →
    T (all (fits binary64) matrix) →
    Start n b m matrix rhs plain_work blocked_work →
    Agreement (plain_pipeline n b m matrix rhs plain_work) (blocked_pipeline n b m matrix rhs blocked_work)
