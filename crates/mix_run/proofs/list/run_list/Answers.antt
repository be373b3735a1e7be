-- What was read of the source is all that the listing looks at.
use Rattle.std.proofs.Common.{◌∙◌, Ok, Err}
use Rattle.mix_run.proofs.RunLemmas.{Meets-listed}
use Rattle.mix_run.proofs.list.run_list.Goals as goal

pub returns-in-Err-Fault-clause-output : goal.returns-in-Err-Fault-clause-output
returns-in-Err-Fault-clause-output g c s hs =
    Meets-listed s _ (Err _) _ _ _ (c.deref.ensures.value ∙ (c.in_ok-text.ensures.whole s hs).0) (rw c.in-Err-Fault.field-0-is at c.in-Err-Fault.ensures.fault)
    c.refuse_source.ensures.output

pub returns-clause-output : goal.returns-clause-output
returns-clause-output g c s hs =
    Meets-listed s _ (Ok _) _ _ _ (c.deref.ensures.value ∙ (c.in_ok-text.ensures.whole s hs).0) c.in-Ok.ensures.ok c.list.ensures.output
