use Rattle.mix_session.proofs.TimelineLemmas.{forth-back, back_by-all}
use Rattle.mix_session.proofs.laws.back_and_forth_law.Goals as goal

pub returns : goal.returns
returns c = record { same = forth-back; all = back_by-all }
