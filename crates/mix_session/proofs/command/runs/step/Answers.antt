-- Nothing is waited for.
use Rattle.std.proofs.Common.{[], refl}
use Rattle.mix_session.specs.declared.command.stops.Way.TheVariants.{New}
use Rattle.mix_session.proofs.command.runs.step.Goals as goal

pub ran-requires-clause-known : goal.ran-requires-clause-known
ran-requires-clause-known c = rw c.stops_at-stops.ensures (c.nothing-known.ensures [] New c.args.journal.now refl)
