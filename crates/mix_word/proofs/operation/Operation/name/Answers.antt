use Rattle.mix_word.proofs.NameLemmas.{own_text}
use Rattle.mix_word.proofs.LengthLemmas.{text_at_most_four}
use Rattle.mix_word.proofs.operation.Operation.name.Goals as goal

pub returns-clause-named : goal.returns-clause-named
returns-clause-named c = own_text c.args.self _ c.row.ensures.name

pub returns-clause-longest : goal.returns-clause-longest
returns-clause-longest c = text_at_most_four c.args.self _ c.row.ensures.name
