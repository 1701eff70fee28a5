-- `blocked_factor::block_column::BlockColumn::factor_panels` meets its contract. Assumes nothing.
use Prim.Native.Nat.{◌+◌}
use native.Mathlib.Omega.{arith}
use mathlib.Core.Path.{◌≡◌, ◌∙◌}
use Rattle.blocked_factor.proofs.Finishing.{same_join, columns_join}
use Rattle.blocked_factor.proofs.block_column.BlockColumn.factor_panels.Goals as goal

pub loop-s0-preserved : goal.loop-s0-preserved
loop-s0-preserved c =
    let full : c.min.result ≡ 16 = omega arith in (
      omega arith,
      c.factor-judged.auto.work ∙ c.loop-s0.invariant.1,
      same_join c.loop-s0.invariant.2 c.factor-judged.ensures.same_to,
      columns_join c.args.self.tall c.loop-s0.invariant.2 c.loop-s0.invariant.3 (rw full at c.factor-judged.ensures.columns_finished),
    )

-- after the last panel
pub returns-2-clause-columns_finished : goal.returns-2-clause-columns_finished
returns-2-clause-columns_finished c =
    let end : c.loop-s0.s0 + c.min.result ≡ c.args.self.width = omega arith in
    columns_join c.args.self.tall c.loop-s0.invariant.2 c.loop-s0.invariant.3 (rw end at c.factor-judged.ensures.columns_finished)
