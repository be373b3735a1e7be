use Rattle.std.proofs.Common.{◌≡◌, length}
use Rattle.mix_lines.specs.Lines.{words}
use Rattle.mix_passages.specs.Reading.{before_assert, columns_of_all, joined}
use Rattle.mix_passages.proofs.columns.columns_in.Given as goal

-- the columns so far, and those of the words that are left, are all of them
abbrev pub invariant-loop-word : goal.invariant-loop-word
invariant-loop-word l =
    joined l.columns.items (columns_of_all l.session (before_assert l.words)) ≡ columns_of_all l.session (before_assert (words l.text))

abbrev pub decreases-loop-word : goal.decreases-loop-word
decreases-loop-word l = length l.words
