-- A name that is opened or not is the only one, and its text is what is read.
use Rattle.mix_run.specs.Opening.{opened_text}
use Rattle.mix_tool.proofs.OpeningLemmas.{missing-one, opened-one}
use Rattle.mix_tool.proofs.check.report_file.Goals as goal

pub returns-in-Ok-clause-opened : goal.returns-in-Ok-clause-opened
returns-in-Ok-clause-opened g c all e =
    (opened-one all c.args.name.now _ _ _ (c.in-Ok.ensures.given all e) c.in-Ok.ensures.asked).0

pub returns-in-Ok-clause-reported : goal.returns-in-Ok-clause-reported
returns-in-Ok-clause-reported g c all before e reported =
    let text = (opened-one all c.args.name.now _ _ _ (c.in-Ok.ensures.given all e) c.in-Ok.ensures.asked).1 in
    c.report_next.ensures.reported before (opened_text (all c.args.name.now)) reported text

pub returns-in-Err-clause-missing : goal.returns-in-Err-clause-missing
returns-in-Err-clause-missing g c all e =
    missing-one all c.args.name.now c.in-Err.reason _ _ (c.in-Err.ensures.given all e) c.in-Err.ensures.asked
