-- Nothing is waited for.
use Rattle.std.proofs.Common.{[], refl}
use Rattle.mix_session.specs.declared.command.stops.Way.TheVariants.{New}
use Rattle.mix_session.proofs.command.runs.run.Goals as goal

pub ran-requires-clause-known : goal.ran-requires-clause-known
ran-requires-clause-known c = rw c.stops_at-breaks.ensures (c.nothing-known.ensures [] New c.args.journal.now refl)
