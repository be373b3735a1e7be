use Rattle.mix_word.proofs.TableLemmas.{names_exactly}
use Rattle.mix_word.proofs.decoding.decode.Goals as goal

pub returns-clause-law : goal.returns-clause-law
returns-clause-law c = names_exactly _ _ _ c.row.ensures
