use Rattle.std.proofs.Common.{◌≡◌, ◌++◌, length}
use Rattle.mix_person.specs.Person.{spaced}
use Rattle.mix_person.proofs.follows.put_all.Given as goal

-- what was put so far, and the words that are left, are all of them
abbrev pub invariant-loop-word : goal.invariant-loop-word
invariant-loop-word l = l.text.items ++ spaced l.words ≡ l.fn.text.items ++ spaced l.fn.words

abbrev pub decreases-loop-word : goal.decreases-loop-word
decreases-loop-word l = length l.words
