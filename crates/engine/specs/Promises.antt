-- The promises of the functions that run the pipelines.
use Rattle.std.specs.Prelude.{ℕ, ◌≡◌, List, Float}
use Rattle.calls.specs.Pipelines.{Ended, plain_pipeline, blocked_pipeline, Start, Agreement}
use Rattle.engine.specs.declared.pipelines.PipelineResult.{PipelineResult}
use Rattle.engine.specs.declared.pipelines.BothResults.{BothResults}

-- what a pipeline returned and left
abbrev pub ended : PipelineResult → List Float → List Float → List Float → Ended
ended r matrix rhs work = record { factor_result = r.factor; solver_result = r.solver; shape = r.shape; matrix = matrix; rhs = rhs; work = work }

-- a pipeline's memories
pub record Memory : Type 0 where
  pub matrix : List Float
  pub rhs : List Float
  pub work : List Float

abbrev pub memory : List Float → List Float → List Float → Memory
memory matrix rhs work = record { matrix = matrix; rhs = rhs; work = work }

abbrev pub ended_at : PipelineResult → Memory → Ended
ended_at r m = ended r m.matrix m.rhs m.work

-- Both pipelines did what their definitions say, and demand 3: from the same matrix and right-hand sides, each with work memory of its own, they agree.
pub record BothRan (n b m : ℕ) (plain block : Memory) (r : BothResults) (plain' block' : Memory) : Type 0 where
  pub plain_ended : ended_at r.plain plain' ≡ plain_pipeline n b m plain.matrix plain.rhs plain.work
  pub blocked_ended : ended_at r.blocked block' ≡ blocked_pipeline n b m block.matrix block.rhs block.work
  pub agreed :
      block.matrix ≡ plain.matrix → block.rhs ≡ plain.rhs → Start n b m plain.matrix plain.rhs plain.work block.work →
      Agreement (ended_at r.plain plain') (ended_at r.blocked block')
