use Rattle.std.proofs.Common.{◌≡◌, ◌++◌, length}
use Rattle.mix_passages.specs.Rows.{words_of}
use Rattle.mix_passages.proofs.rows.words_of.Given as goal

abbrev pub invariant-loop-rest : goal.invariant-loop-rest
invariant-loop-rest l = l.words.items ++ words_of l.world l.rest ≡ words_of l.world l.columns

abbrev pub decreases-loop-rest : goal.decreases-loop-rest
decreases-loop-rest l = length l.rest
