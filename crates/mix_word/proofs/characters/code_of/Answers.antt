use Rattle.std.proofs.Common.{◌∙◌}
use Rattle.mix_word.proofs.CharacterLemmas.{printed, code_by_place}
use Rattle.mix_word.proofs.characters.code_of.Goals as goal

pub returns-in-Some-clause-is : goal.returns-in-Some-clause-is
returns-in-Some-clause-is c = c.in-Some.ensures.is ∙ code_by_place _ _ c.to_ascii_uppercase.ensures.value

pub returns-in-Some-clause-printed : goal.returns-in-Some-clause-printed
returns-in-Some-clause-printed c = printed c.args.byte c.to_ascii_uppercase.result c.in-Some.code c.to_ascii_uppercase.ensures.value c.in-Some.ensures.is

pub returns-in-None-clause-is : goal.returns-in-None-clause-is
returns-in-None-clause-is c = c.in-None.ensures.is ∙ code_by_place _ _ c.to_ascii_uppercase.ensures.value
