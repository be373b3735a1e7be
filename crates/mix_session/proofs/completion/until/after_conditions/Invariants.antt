use Rattle.std.proofs.Common.{◌≡◌}
use Rattle.mix_session.specs.Completion.{after_conditions}
use Rattle.mix_session.proofs.completion.until.after_conditions.Given as goal

-- the words that are left, where so many conditions may follow, lead where all lead
abbrev pub invariant-loop-left : goal.invariant-loop-left
invariant-loop-left l = after_conditions l.left l.words ≡ after_conditions l.most l.fn.words

abbrev pub decreases-loop-left : goal.decreases-loop-left
decreases-loop-left l = l.left
