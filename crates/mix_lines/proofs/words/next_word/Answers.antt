use Rattle.std.proofs.lemmas.List.{take_rest}
use Rattle.mix_lines.proofs.WordsLemmas.{words-none, words-first, words-last}
use Rattle.mix_lines.proofs.words.next_word.Goals as goal

pub returns-in_err-start-clause-words : goal.returns-in_err-start-clause-words
returns-in_err-start-clause-words c = rw c.from_residual.ensures (words-none c.args.line.now c.in_err-start.ensures)

pub returns-in-Some-clause-words : goal.returns-in-Some-clause-words
returns-in-Some-clause-words c = words-first c.args.line.now c.in_ok-start.start _ c.in-Some.end c.in_ok-start.ensures (take_rest c.args.line.now c.in_ok-start.start) c.in-Some.ensures

pub returns-in-None-clause-words : goal.returns-in-None-clause-words
returns-in-None-clause-words c = words-last c.args.line.now c.in_ok-start.start _ c.in_ok-start.ensures (take_rest c.args.line.now c.in_ok-start.start) c.in-None.ensures
