use Rattle.mix_word.proofs.RegisterLemmas.{named_law}
use Rattle.mix_word.proofs.register.Reg.named.Goals as goal

pub returns-clause-law : goal.returns-clause-law
returns-clause-law c = named_law _ _ c.first_named.ensures
