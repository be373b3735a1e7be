use Rattle.std.proofs.Common.{◌≡◌, length}
use Rattle.mix_formula.specs.Names.{all_named}
use Rattle.mix_views.specs.Analysis.{given_in, given_onto}
use Rattle.mix_views.proofs.analysis.add_given.Given as goal

-- what is given so far, and by the words that are left, is all that is given
abbrev pub invariant-loop-word : goal.invariant-loop-word
invariant-loop-word l = given_onto (all_named l.given.items) (given_in l.words) ≡ given_onto (all_named l.fn.given.items) (given_in l.fn.words)

abbrev pub decreases-loop-word : goal.decreases-loop-word
decreases-loop-word l = length l.words
