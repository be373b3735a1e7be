-- A name that is opened or not is the only one.
use Rattle.mix_tool.proofs.OpeningLemmas.{missing-one, opened-one}
use Rattle.mix_tool.proofs.texts.open_text.Goals as goal

pub returns-in-Ok-clause-opened : goal.returns-in-Ok-clause-opened
returns-in-Ok-clause-opened g c all e =
    rw c.in-Some.is (opened-one all c.in-Some.name.now _ _ _ (c.in-Ok.ensures.given all e) c.in-Ok.ensures.asked).0

pub returns-in-Ok-clause-text : goal.returns-in-Ok-clause-text
returns-in-Ok-clause-text g c all e =
    rw c.in-Some.is (opened-one all c.in-Some.name.now _ _ _ (c.in-Ok.ensures.given all e) c.in-Ok.ensures.asked).1

pub returns-in-Err-clause-missing : goal.returns-in-Err-clause-missing
returns-in-Err-clause-missing g c all e =
    rw c.in-Some.is (missing-one all c.in-Some.name.now c.in-Err.reason _ _ (c.in-Err.ensures.given all e) c.in-Err.ensures.asked)
