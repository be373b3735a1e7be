use Rattle.std.proofs.Common.{◌≡◌, ◌++◌, length, true}
use Rattle.mix_person.specs.Person.{condition_words, spaced}
use Rattle.mix_person.proofs.conditions.put_conditions.Given as goal

-- what was put so far, and the words that are left, are all of them
abbrev pub invariant-loop-word : goal.invariant-loop-word
invariant-loop-word g l =
    l.text.items ++ spaced (condition_words (g.N.Names.names l.names) l.is_first l.words)
    ≡ l.fn.text.items ++ spaced (condition_words (g.N.Names.names l.names) true l.fn.words)

abbrev pub decreases-loop-word : goal.decreases-loop-word
decreases-loop-word g l = length l.words
