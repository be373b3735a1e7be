use Rattle.std.proofs.Output.{has_written_of_eq}
use Rattle.mix_session.proofs.ShowLemmas.{register_line-is}
use Rattle.mix_session.proofs.show.RegisterLineDisplay.fmt.Goals as goal

pub returns-clause-writes : goal.returns-clause-writes
returns-clause-writes g c p ok =
    has_written_of_eq _ _ _ _ _ (register_line-is c.args.self.now.0.now _ _ _ _ c.laid_out.ensures c.name-name.ensures.is c.register.ensures) (c.write.ensures.writes p ok)
