use Rattle.mix_word.proofs.LengthLemmas.{none_longer}
use Rattle.mix_word.proofs.laws.long_name_law.Goals as goal

pub returns : goal.returns
returns c = none_longer
