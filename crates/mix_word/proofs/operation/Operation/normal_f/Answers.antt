use Rattle.mix_word.proofs.TableLemmas.{own_pair}
use Rattle.mix_word.proofs.operation.Operation.normal_f.Goals as goal

pub returns-clause-decodes : goal.returns-clause-decodes
returns-clause-decodes c = own_pair c.args.self _ c.row.ensures.f
