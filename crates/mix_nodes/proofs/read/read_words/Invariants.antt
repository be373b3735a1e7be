use Rattle.std.proofs.Common.{◌≡◌, false, None, length}
use Rattle.mix_nodes.specs.Read.{read_words, reading, without_commas}
use Rattle.mix_nodes.proofs.read.read_words.Given as goal

-- what was read so far and the words that are left give the same shape as all words
abbrev pub invariant-loop-word : goal.invariant-loop-word
invariant-loop-word g l =
    read_words (g.N.Names.names l.names) l.here l.reading (without_commas l.words)
    ≡ read_words (g.N.Names.names l.names) l.here (reading None false l.fn.shape) (without_commas l.fn.words)

abbrev pub decreases-loop-word : goal.decreases-loop-word
decreases-loop-word g l = length (without_commas l.words)
