use Rattle.std.proofs.Common.{refl}
use Rattle.mix_word.proofs.TableLemmas.{names_exactly}
use Rattle.mix_word.proofs.laws.decode_law.Goals as goal

pub returns : goal.returns
returns c = λ x f op. names_exactly x f _ refl op
