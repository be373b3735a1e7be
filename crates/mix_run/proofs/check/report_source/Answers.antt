-- What was read of the source is all that its report looks at.
use Rattle.std.proofs.Common.{◌∙◌, ap, ◌||◌, Bool}
use Rattle.mix_run.proofs.CheckLemmas.{faulty-read, report-read}
use Rattle.mix_run.proofs.check.report_source.Goals as goal

pub returns-clause-report : goal.returns-clause-report
returns-clause-report g c s hs =
    let whole = c.deref.ensures.value ∙ (c.in_ok-text.ensures.whole s hs).0 in
    report-read c.args.json c.args.name.now s _ _ _ whole c.in_ok-faulty.ensures.report

pub returns-clause-faulty : goal.returns-clause-faulty
returns-clause-faulty g c s hs =
    let whole = c.deref.ensures.value ∙ (c.in_ok-text.ensures.whole s hs).0 in
    ap (λ (b : Bool). c.args.reports.now.faulty || b) (c.in_ok-faulty.ensures.faulty ∙ faulty-read s _ whole)
