-- The change that is taken back leads from the state after it to the one before it.
use Rattle.std.proofs.Common.{refl}
use Rattle.mix_session.proofs.MoveLemmas.{HasMoved-back}
use Rattle.mix_session.proofs.command.runs.move_back.Goals as goal

pub returns-then-back : goal.returns-then-back
returns-then-back c =
    HasMoved-back c.args.journal.now c.back.new.self (c.if-back.ensures.left.0 refl) c.back.ensures.first c.back.ensures.changes c.back.ensures.all
