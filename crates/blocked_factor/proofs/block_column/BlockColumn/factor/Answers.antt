-- `blocked_factor::block_column::BlockColumn::factor` meets its contract. Assumes nothing.
use Rattle.calls.specs.Outcomes.{judgement_of}
use Rattle.blocked_factor.proofs.BlockVerdicts.{block_column_factored}
use Rattle.blocked_factor.proofs.block_column.BlockColumn.factor.Goals as goal

pub returns-clause-block_column_factored : goal.returns-clause-block_column_factored
returns-clause-block_column_factored c =
    let a = c.args in
    block_column_factored a.self.first a.self.width a.self.rows a.work.now _ a.part.now _ (judgement_of a.before)
    (judgement_of c.factor_panels-first.result) (judgement_of c.judge.result) a.self.tall c.factor_panels-first.ensures.same_to
    c.factor_panels-first.ensures.columns_finished c.judge.ensures
