-- Without reports nothing is written.
use Rattle.std.proofs.lemmas.Result.{err_from_is_err_and}
use Rattle.mix_run.proofs.CheckLemmas.{broken-checks}
use Rattle.mix_run.proofs.check.write_reports.Goals as goal

pub returns-in_err-reports-clause-output : goal.returns-in_err-reports-clause-output
returns-in_err-reports-clause-output g c json sources reported =
    let p = err_from_is_err_and c.from_residual.result c.from_residual.ensures.1 in
    let here = rw c.in_err-reports.was at reported in
    rw (p.1, p.2) (broken-checks json sources c.in_err-reports.field-0.0 (g.W.Out.told c.args.out.now) here)
