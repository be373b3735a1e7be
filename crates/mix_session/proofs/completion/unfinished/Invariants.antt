use Rattle.std.proofs.Common.{◌≡◌, ◌≤◌, length}
use Rattle.mix_session.specs.Completion.{unfinished}
use Rattle.mix_session.proofs.completion.unfinished.Given as goal

abbrev pub invariant-loop-after : goal.invariant-loop-after
invariant-loop-after l = record {
  is : unfinished l.word ≡ unfinished l.line;
  within : length l.word ≤ length l.line;
}

abbrev pub decreases-loop-after : goal.decreases-loop-after
decreases-loop-after l = length l.word
