use Rattle.mix_session.proofs.CompletionLemmas.{after_blank, without_blank}
use Rattle.mix_session.proofs.completion.after_blank.Goals as goal

pub returns-in-Some-clause-word : goal.returns-in-Some-clause-word
returns-in-Some-clause-word c = after_blank c.args.text.now c.in-Some.at c.in-Some.ensures

pub returns-in-None-clause-word : goal.returns-in-None-clause-word
returns-in-None-clause-word c = without_blank c.args.text.now c.in-None.ensures
