use Rattle.std.proofs.Common.{◌≡◌}
use Rattle.mix_session.specs.Timeline.{forth_by}
use Rattle.mix_session.proofs.command.go_forth.Given as goal

abbrev pub invariant-loop-done : goal.invariant-loop-done
invariant-loop-done l = l.journal ≡ forth_by l.fn.journal l.done
