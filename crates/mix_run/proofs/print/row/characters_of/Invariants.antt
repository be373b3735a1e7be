use Rattle.std.proofs.Common.{◌≡◌, flat_map, take}
use Rattle.mix_session.specs.ShowUnit.{letters_text}
use Rattle.mix_run.proofs.print.row.characters_of.Given as goal

abbrev pub invariant-loop-word : goal.invariant-loop-word
invariant-loop-word l = l.text.items ≡ flat_map letters_text (take l.word-index l.words)
