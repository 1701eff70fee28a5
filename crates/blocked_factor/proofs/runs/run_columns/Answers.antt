-- `blocked_factor::runs::run_columns` meets its contract. Assumes nothing.
use native.Mathlib.Omega.{arith}
use mathlib.Core.Path.{ap₂, ◌∙◌}
use Rattle.shape.specs.Places.{block_of}
use Rattle.blocked_factor.proofs.RunTiles.{lanes_le, run_single, run_length}
use Rattle.blocked_factor.proofs.runs.run_columns.Goals as goal

pub returns-then-whole-eq0 : goal.returns-then-whole-eq0
returns-then-whole-eq0 c =
    let a = c.args in
    run_single a.b a.rest a.spare c.requires.0 c.requires.2 c.requires.3 c.requires.4

pub returns-else-whole-eq0 : goal.returns-else-whole-eq0
returns-else-whole-eq0 c =
    let a = c.args in
    run_length a.b a.rest a.spare c.lanes_of.result c.min-most.result c.block_of-whole.result _ c.requires.0 c.requires.2 c.requires.3
    (omega (arith, c.lanes_of.ensures, (lanes_le c.min.result).5)) (c.block_of-whole.ensures ∙ ap₂ block_of c.new.ensures.1 c.min-2.ensures) c.if-whole-eq0.false
    c.min-else-whole-eq0.ensures
