-- Nothing stands ahead, so what is done again is new.
use Rattle.std.proofs.Common.{arith}
use Rattle.std.proofs.lemmas.List.{nil_from_length}
use Rattle.mix_session.proofs.AgainLemmas.{effect-again}
use Rattle.mix_session.proofs.command.stops.way_on.Goals as goal

pub returns-in-Again-clause-same : goal.returns-in-Again-clause-same
returns-in-Again-clause-same c =
    λ stops n. rw c.in-Again.is (effect-again stops c.args.journal.now n (nil_from_length c.args.journal.now.ahead (omega (arith, c.ahead.ensures))))
