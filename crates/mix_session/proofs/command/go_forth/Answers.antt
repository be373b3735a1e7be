-- Each change done again is one more from where the loop began.
use Rattle.mix_session.proofs.TimelineLemmas.{forth_by-none}
use Rattle.mix_session.proofs.command.go_forth.Goals as goal

pub loop-done-init : goal.loop-done-init
loop-done-init c = forth_by-none c.args.journal.now
