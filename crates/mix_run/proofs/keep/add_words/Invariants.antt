use Rattle.std.proofs.Common.{◌≡◌, ◌-◌, ◌++◌, flat_map, length}
use Rattle.std.specs.List.{range_with_len}
use Rattle.mix_session.specs.ShowUnit.{block_text, block_word_text}
use Rattle.mix_run.proofs.keep.add_words.Given as goal

-- the words so far, and those that are left, are the block
abbrev pub invariant-loop-at : goal.invariant-loop-at
invariant-loop-at l =
    l.text.items ++ flat_map (block_word_text l.words) (range_with_len l.at (length l.words - l.at)) ≡ l.fn.text.items ++ block_text l.words

abbrev pub decreases-loop-at : goal.decreases-loop-at
decreases-loop-at l = length l.words - l.at
