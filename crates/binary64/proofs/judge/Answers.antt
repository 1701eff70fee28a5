-- `binary64::judge` meets its contract. Assumes nothing.
use mathlib.Core.Path.{sym, ap, ap₂, ◌∙◌}
use mathlib.Core.Bool.{Bool, cond}
use lib.Ieee.{of_bits}
use Rattle.binary64.specs.Kinds.{positive}
use Rattle.binary64.specs.Root.{root, exact}
use Rattle.binary64.specs.Judged.{judged}
use Rattle.binary64.specs.declared.Pivot.TheVariants.{Root, Refused}
use Rattle.binary64.proofs.judge.Goals as goal

pub returns-then-pivot : goal.returns-then-pivot
unfolding judged positive of_bits
returns-then-pivot c =
    let x = c.args.pivot in
    ap₂ (λ r e. Root r e) c.square_root-root.ensures.0 c.square_root-root.ensures.1
    ∙ ap (λ (b : Bool). cond b (Root (root x) (exact x)) (Refused x)) (sym c.if-pivot.true)

pub returns-else-pivot : goal.returns-else-pivot
unfolding judged positive of_bits
returns-else-pivot c = let x = c.args.pivot in ap (λ (b : Bool). cond b (Root (root x) (exact x)) (Refused x)) (sym c.if-pivot.false)
