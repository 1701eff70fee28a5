-- `blocked_factor::runs::update_by_run` meets its contract. Assumes nothing.
use native.Mathlib.Omega.{arith}
use mathlib.Core.Path.{◌≡◌, ◌∙◌}
use Prim.Native.Nat.{◌+◌, ◌≤◌}
use Rattle.blocked_factor.proofs.Panels.{columns_next}
use Rattle.blocked_factor.proofs.RunPanels.{run_kept}
use Rattle.blocked_factor.proofs.runs.update_by_run.Goals as goal

pub loop-s0-preserved : goal.loop-s0-preserved
loop-s0-preserved c =
    let wide : c.loop-s0.s0 + c.panel_width.result ≤ c.args.target.width = omega arith in
    rw c.end-s0.ensures (
      wide,
      c.update_panel_by_run.auto.spare ∙ c.loop-s0.invariant.1,
      columns_next wide (run_kept c.requires.run_before c.loop-s0.invariant.2) c.loop-s0.invariant.2 c.update_panel_by_run.ensures,
    )

pub returns : goal.returns
returns c =
    let e : c.loop-s0.s0 ≡ c.args.target.width = omega arith in
    rw e at c.loop-s0.invariant.2
