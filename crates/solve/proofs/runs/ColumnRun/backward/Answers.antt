-- `solve::runs::ColumnRun::backward` meets its contract. Assumes nothing.
use Prim.Native.Nat.{◌-◌, ◌≤◌}
use native.Mathlib.Omega.{arith}
use mathlib.Core.Path.{◌≡◌}
use mathlib.Core.List.{List, ◌++◌}
use lib.Ieee.{Float}
use lib.ListN.{length, take, drop, length-take}
use Rattle.solve.specs.declared.runs.ColumnRun.{ColumnRun}
use Rattle.solve.specs.Parts.{blocked_entries}
use Rattle.solve.specs.Substitution.{ProductsSubtracted, BackwardDone}
use Rattle.solve.proofs.Rows.{columns_none}
use Rattle.solve.proofs.Substitution.{backward_done}
use Rattle.solve.proofs.RunTurns.{run_le, run_ends, triangle_backward}
use Rattle.solve.proofs.runs.ColumnRun.backward.Goals as goal
use Rattle.solve.proofs.runs.ColumnRun.backward.Goals.{then-w-self, else-w-self}

-- its rows are among those of the right-hand side
fits : (run : ColumnRun) (v v' : List Float) → length v ≡ run.memory.shape.order → length v' ≡ length v →
    (run.w ≤ length v') × (length (take run.w v') ≡ run.w)
fits run v v' rows same = (omega (arith, run_le run), omega (arith, run_le run, length-take run.w v'))

pub slice_bounds-backward_blocks-end : goal.slice_bounds-backward_blocks-end
slice_bounds-backward_blocks-end c = (fits c.args.self.now c.args.work.now c.if-w-self.work c.requires c.if-w-self.auto.work).0

pub slice_bounds-backward_blocks-end-2 : goal.slice_bounds-backward_blocks-end-2
slice_bounds-backward_blocks-end-2 c = omega (arith, fits c.args.self.now c.args.work.now c.if-w-self.work c.requires c.if-w-self.auto.work)

pub backward_blocks-requires : goal.backward_blocks-requires
backward_blocks-requires c =
    let run = c.args.self.now in
    let own = (fits run c.args.work.now c.if-w-self.work c.requires c.if-w-self.auto.work).1 in
    (omega (arith, own, run_le run), rw own (run_ends run))

-- the rows below the run are taken, or there are none, and then its own rows
pub returns : goal.returns
returns c =
    let run = c.args.self.now in
    let v = c.if-w-self.work in
    let h = run.memory.shape.order in
    let coefficient = blocked_entries run.memory in
    let size = fits run c.args.work.now v c.requires c.if-w-self.auto.work in
    let under : ProductsSubtracted coefficient h run.w c.args.work.now v =
    elim c.if-w-self.branch [
      | then-w-self w ↦ rw w.work-is w.backward_rows.ensures
      | else-w-self w ↦
          let none : h - run.w ≡ 0 = omega (arith, w.if-w-self.false) in
          rw (w.work-is, none) (columns_none coefficient h 0 run.w c.args.work.now)
    ] in
    let own : BackwardDone coefficient run.w run.w v (c.backward_blocks.new.work ++ drop run.w v) =
    triangle_backward h run.memory.shape.block run.w run.memory.matrix.now v c.backward_blocks.new.work (run_le run).0 size.0
    (rw size.1 at c.backward_blocks.ensures) in
    backward_done coefficient h run.w c.args.work.now v _ (run_le run).0 under own
