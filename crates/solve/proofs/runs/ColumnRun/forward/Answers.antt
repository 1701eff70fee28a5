-- `solve::runs::ColumnRun::forward` meets its contract. Assumes nothing.
use native.Mathlib.Omega.{arith}
use mathlib.Core.Path.{◌≡◌, ◌∙◌}
use mathlib.Core.List.{List, ◌++◌}
use lib.Ieee.{Float}
use lib.ListN.{length, take, drop, length-take}
use Rattle.calls.specs.Arithmetic.{forward}
use Rattle.solve.specs.declared.runs.ColumnRun.{ColumnRun}
use Rattle.solve.specs.Parts.{blocked_entries, blocked_factor}
use Rattle.solve.specs.Substitution.{TriangleForward}
use Rattle.solve.proofs.Substitution.{forward_done}
use Rattle.solve.proofs.RunTurns.{run_le, run_ends, triangle_forward}
use Rattle.solve.proofs.runs.ColumnRun.forward.Goals as goal

pub slice_bounds-forward_blocks-end : goal.slice_bounds-forward_blocks-end
slice_bounds-forward_blocks-end c = omega (arith, run_le c.args.self.now)

pub slice_bounds-forward_blocks-end-2 : goal.slice_bounds-forward_blocks-end-2
slice_bounds-forward_blocks-end-2 c = omega (arith, run_le c.args.self.now, length-take c.args.self.now.w c.args.work.now)

pub forward_blocks-requires : goal.forward_blocks-requires
forward_blocks-requires c =
    let run = c.args.self.now in
    let own : length (take run.w c.args.work.now) ≡ run.w = omega (arith, run_le run, length-take run.w c.args.work.now) in
    (omega (arith, own, run_le run), rw own (run_ends run))

-- its own rows
own :
    (run : ColumnRun) (v u : List Float) → length v ≡ run.memory.shape.order →
    u ≡ forward (length (take run.w v)) (blocked_factor run.memory) (take run.w v) →
    TriangleForward (blocked_entries run.memory) run.w v (u ++ drop run.w v)
own run v u rows e =
    let size : length (take run.w v) ≡ run.w = omega (arith, run_le run, length-take run.w v) in
    triangle_forward run.memory.shape.order run.memory.shape.block run.w run.memory.matrix.now v u (run_le run).0
    (omega (arith, run_le run)) (rw size at e)

pub forward_rows-requires : goal.forward_rows-requires
forward_rows-requires c =
    (own c.args.self.now c.args.work.now c.forward_blocks.new.work c.requires c.forward_blocks.ensures).size ∙ c.requires

pub returns : goal.returns
returns c =
    let run = c.args.self.now in
    forward_done (blocked_entries run.memory) run.memory.shape.order run.w c.args.work.now _ _
    (own run c.args.work.now c.forward_blocks.new.work c.requires c.forward_blocks.ensures) c.forward_rows.ensures
