-- What stops the run is watched.
use Rattle.mix_session.proofs.WatchLemmas.{allows-watch}
use Rattle.mix_session.proofs.command.plain.many_of.Goals as goal

pub returns-in-Some : goal.returns-in-Some
returns-in-Some c =
    rw c.in-New.is (allows-watch c.args.stops.now c.args.marks.now c.args.world.now c.in-Some.watch c.in-Some.ensures.long c.in-Some.ensures.is)
