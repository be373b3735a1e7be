use Rattle.std.proofs.Common.{◌≡◌, take}
use Rattle.mix_session.specs.Command.{count_back}
use Rattle.mix_session.proofs.command.until.count_back.Given as goal

abbrev pub invariant-loop-condition : goal.invariant-loop-condition
invariant-loop-condition l = l.least ≡ count_back (take l.condition-index l.watched) l.journal
