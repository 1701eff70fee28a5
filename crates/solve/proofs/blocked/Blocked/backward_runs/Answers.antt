-- `solve::blocked::Blocked::backward_runs` meets its contract. The invariant of its loop: the substitution has come to run q's first, or to the end of
-- the rows. Assumes nothing.
use Prim.Native.Nat.{ℕ, ◌+◌, ◌-◌, ◌*◌, ◌≤◌, ◌<◌, min}
use native.Mathlib.Omega.{arith}
use mathlib.Core.Path.{◌≡◌, sym, ap, ◌∙◌}
use Rattle.std.specs.Int.{div_ceil}
use Rattle.std.proofs.lemmas.Grind.{div_ceil_times}
use Rattle.shape.specs.Places.{block_of}
use Rattle.shape.proofs.Blocks.{block_of_lt}
use Rattle.solve.proofs.Substitution.{backward_start, backward_end}
use Rattle.solve.proofs.BlockTurns.{column_first, column_before}
use Rattle.solve.proofs.RunTurns.{run_end, run_backward}
use Rattle.solve.proofs.blocked.Blocked.backward_runs.Goals as goal

pub div_ceil-q-requires : goal.div_ceil-q-requires
div_ceil-q-requires c = omega (arith, c.block_of-step.ensures, block_of_lt c.args.self.now.shape.block 16 c.args.self.now.block)

pub loop-q-init : goal.loop-q-init
loop-q-init c =
    let f = c.args.self.now in
    let step = c.block_of-step.result in
    let end : min (div_ceil f.shape.order step * step) f.shape.order ≡ f.shape.order =
    omega (arith, div_ceil_times f.shape.order step (omega (arith, c.block_of-step.ensures, block_of_lt f.shape.block 16 f.block))) in
    rw (c.div_ceil-q.ensures, end) (backward_start f.shape.order _ c.args.work.now c.requires.2)

-- run q begins at q · step, before the end
begins :
    (n b step q count : ℕ) → 0 < b → b < 16 → step ≡ block_of b 16 → 0 < q → q ≤ count → count ≡ div_ceil n step →
    ((q - 1) * step < n) × (q * step ≡ (q - 1) * step + step) × (block_of (block_of b 16) ((q - 1) * step) ≡ (q - 1) * step)
begins n b step q count pos high is some le all =
    let some_columns : 0 < step = omega (arith, is, block_of_lt b 16 pos) in
    let before = column_before q step n some_columns some (omega (arith, all)) in
    (before.0, before.1, ap (λ r. block_of r ((q - 1) * step)) (sym is) ∙ column_first (q - 1) step some_columns)

pub run-requires : goal.run-requires
run-requires c =
    let f = c.args.self.now in
    let at =
    begins f.shape.order f.shape.block c.block_of-step.result c.loop-q.q c.div_ceil-q.result f.block c.requires.1 c.block_of-step.ensures c.loop-q-test.true (omega arith)
    c.div_ceil-q.ensures in
    (c.requires.0, c.requires.1, at.0, at.2)

pub loop-q-preserved : goal.loop-q-preserved
loop-q-preserved c =
    let a = c.args in
    let f = a.self.now in
    let step = c.block_of-step.result in
    let at =
    begins f.shape.order f.shape.block c.block_of-step.result c.loop-q.q c.div_ceil-q.result f.block c.requires.1 c.block_of-step.ensures c.loop-q-test.true (omega arith)
    c.div_ceil-q.ensures in
    let first : min ((c.loop-q.q - 1) * step) f.shape.order ≡ (c.loop-q.q - 1) * step = omega (arith, at.0) in
    let whole : (c.loop-q.q - 1) * step + c.run.result.w ≡ min ((c.loop-q.q - 1) * step + step) f.shape.order =
    omega (arith, run_end f ((c.loop-q.q - 1) * step) c.run.result at.2 (omega (arith, at.0)) c.run.ensures, c.block_of-step.ensures) in
    rw first (run_backward f ((c.loop-q.q - 1) * step) c.run.result at.2 (omega (arith, at.0)) c.run.ensures a.work.now
    c.loop-q.work c.backward.new.work (rw (at.1, sym whole) at c.loop-q.invariant) c.backward.ensures)

pub returns : goal.returns
returns c =
    let a = c.args in
    let all : c.loop-q.q ≡ 0 = omega arith in
    let none : min (0 * c.block_of-step.result) a.self.now.shape.order ≡ 0 = omega arith in
    backward_end a.self.now.shape.order _ a.work.now c.loop-q.work (rw (all, none) at c.loop-q.invariant)
