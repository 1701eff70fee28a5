-- `solve::blocked::Blocked::forward_runs` meets its contract. The invariant of its loop: the substitution has come to c, a run's first. Assumes nothing.
use Prim.Native.Nat.{ℕ, ◌+◌}
use native.Mathlib.Omega.{arith}
use mathlib.Core.Path.{◌≡◌, sym, ap, ◌∙◌}
use lib.ListN.{length-take, length-drop}
use Rattle.shape.specs.Places.{block_of}
use Rattle.shape.proofs.Blocks.{block_of_le, block_of_lt, block_of_next}
use Rattle.solve.proofs.Substitution.{forward_start, forward_end}
use Rattle.solve.proofs.RunTurns.{run_next, run_end, run_forward}
use Rattle.solve.proofs.blocked.Blocked.forward_runs.Goals as goal

pub loop-c-init : goal.loop-c-init
loop-c-init c =
    let a = c.args in
    (omega (arith, block_of_le c.block_of-step.result 0), omega arith, forward_start a.self.now.shape.order _ a.work.now c.requires.2)

-- runs begin at multiples of the columns of one
first :
    (b step c : ℕ) → step ≡ block_of b 16 → block_of step c ≡ c → block_of (block_of b 16) c ≡ c
first b step c is held = ap (λ r. block_of r c) (sym is) ∙ held

pub nonzero_div-step : goal.nonzero_div-step
nonzero_div-step c = omega (arith, c.block_of-step.ensures, block_of_lt c.args.self.now.shape.block 16 c.args.self.now.block)

pub run-requires : goal.run-requires
run-requires c = (c.requires.0, c.requires.1, c.loop-c-test.true, first c.args.self.now.shape.block c.block_of-step.result c.loop-c.c c.block_of-step.ensures c.loop-c.invariant.0)

pub forward-requires : goal.forward-requires
forward-requires c = simp (length-take, length-drop) (omega (arith, c.run.ensures.order, c.loop-c.invariant.2.size))

pub loop-c-smaller : goal.loop-c-smaller
loop-c-smaller c = omega (arith, c.block_of-step.ensures, block_of_lt c.args.self.now.shape.block 16 c.args.self.now.block)

pub loop-c-preserved : goal.loop-c-preserved
loop-c-preserved c =
    let a = c.args in
    let f = a.self.now in
    let held = first f.shape.block c.block_of-step.result c.loop-c.c c.block_of-step.ensures c.loop-c.invariant.0 in
    let wide : c.run.result.w ≡ c.block_of-step.result =
    run_next f c.loop-c.c c.run.result held (omega arith) c.run.ensures (omega (arith, c.block_of-step.ensures)) ∙ sym c.block_of-step.ensures in (
      block_of_next c.block_of-step.result c.loop-c.c (omega (arith, c.block_of-step.ensures, block_of_lt f.shape.block 16 f.block)) c.loop-c.invariant.0,
      omega arith,
      rw wide at (run_forward f c.loop-c.c c.run.result held (omega arith) c.run.ensures a.work.now c.loop-c.work c.forward.new.work c.loop-c.invariant.2
          c.forward.ensures),
    )

-- the last run
pub returns-2 : goal.returns-2
returns-2 c =
    let a = c.args in
    let f = a.self.now in
    let held = first f.shape.block c.block_of-step.result c.loop-c.c c.block_of-step.ensures c.loop-c.invariant.0 in
    let last : c.loop-c.c + c.run.result.w ≡ f.shape.order =
    omega (arith, run_end f c.loop-c.c c.run.result held (omega arith) c.run.ensures, c.block_of-step.ensures) in
    forward_end f.shape.order _ a.work.now _
    (rw last at (run_forward f c.loop-c.c c.run.result held (omega arith) c.run.ensures a.work.now c.loop-c.work c.forward.new.work c.loop-c.invariant.2
    c.forward.ensures))

-- there are no rows
pub returns : goal.returns
returns c =
    let a = c.args in
    let none : c.loop-c.c ≡ a.self.now.shape.order = omega arith in
    forward_end a.self.now.shape.order _ a.work.now c.loop-c.work (rw none at c.loop-c.invariant.2)
