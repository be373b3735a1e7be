-- One source more.
use Rattle.std.proofs.Common.{◌∙◌, ◌||◌, Bool, ap, sym}
use Rattle.mix_check.specs.Report.{has_faults}
use Rattle.mix_run.proofs.CheckLemmas.{any-more, reports-next}
use Rattle.mix_run.proofs.check.report_next.Goals as goal

pub returns-clause-reported : goal.returns-clause-reported
returns-clause-reported g c sources s reported rest =
    let here = rw c.in_ok-reports.was at reported in (
      reports-next c.args.json sources c.args.name.now s _ _ here.0 (c.in_ok-report_source.ensures.report s rest),
      c.in_ok-report_source.ensures.faulty s rest ∙ ap (λ (b : Bool). b || has_faults s) here.1 ∙ sym (any-more sources (record { name = c.args.name.now; text = s })),
    )
