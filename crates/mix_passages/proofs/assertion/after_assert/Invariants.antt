use Rattle.std.proofs.Common.{◌≡◌, length}
use Rattle.mix_passages.specs.Reading.{after_assert}
use Rattle.mix_passages.proofs.assertion.after_assert.Given as goal

abbrev pub invariant-loop-word : goal.invariant-loop-word
invariant-loop-word l = after_assert l.words ≡ after_assert l.fn.words

abbrev pub decreases-loop-word : goal.decreases-loop-word
decreases-loop-word l = length l.words
