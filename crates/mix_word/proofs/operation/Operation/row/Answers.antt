use Rattle.mix_word.proofs.RowLemmas.{column, row_within}
use Rattle.mix_word.proofs.operation.Operation.row.Goals as goal

pub bounds-rows-from : goal.bounds-rows-from
bounds-rows-from c = row_within _ _ _ c.args.self _ c.rows.ensures.codes (cc)

pub returns-clause-name : goal.returns-clause-name
returns-clause-name c = column _ _ _ _ c.args.self _ c.rows.ensures.names (cc)

pub returns-clause-code : goal.returns-clause-code
returns-clause-code c = column _ _ _ _ c.args.self _ c.rows.ensures.codes (cc)

pub returns-clause-f : goal.returns-clause-f
returns-clause-f c = column _ _ _ _ c.args.self _ c.rows.ensures.normal_f (cc)
