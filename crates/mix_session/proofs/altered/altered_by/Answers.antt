use Rattle.std.proofs.Common.{refl}
use Rattle.mix_session.proofs.NamedLemmas.{holds_all}
use Rattle.mix_session.proofs.altered.altered_by.Goals as goal

pub altered_in-requires : goal.altered_in-requires
altered_in-requires c = holds_all _ _ _ refl refl refl refl refl refl
