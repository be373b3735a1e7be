use Rattle.mix_word.proofs.PairLemmas.{by_number}
use Rattle.mix_word.proofs.laws.number_law.Goals as goal

pub returns : goal.returns
returns c = by_number
