-- `blocked_factor::block_column::Panel::factor` meets its contract. Assumes nothing.
use native.Mathlib.Omega.{arith}
use Rattle.blocked_factor.proofs.Finishing.{rest_replaced, lent_same, panel_finished}
use Rattle.blocked_factor.proofs.block_column.Panel.factor.Goals as goal

pub returns : goal.returns
returns c =
    let lent =
    rest_replaced c.size-size.result c.args.work.now c.update.new.spare (omega (arith, c.size-size.ensures, c.requires.room)) c.update.auto.spare
    in
    -- the saved entry values stay
    let same = lent_same c.size-size.ensures lent in record {
      columns_finished = panel_finished c.args.self.wide c.args.self.column.tall same c.update.ensures c.finish_triangle-judged.ensures c.finish_below.ensures;
      same_to = same;
    }
