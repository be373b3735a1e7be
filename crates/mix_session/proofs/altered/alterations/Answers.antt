use Rattle.std.proofs.Common.{refl}
use Rattle.mix_session.proofs.NamedLemmas.{holds_all}
use Rattle.mix_session.proofs.altered.alterations.Goals as goal

pub altered_among-requires : goal.altered_among-requires
altered_among-requires c = holds_all _ _ _ refl refl refl refl refl refl
