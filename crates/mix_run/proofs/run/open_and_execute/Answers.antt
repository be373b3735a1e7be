-- Out of memory before the machine stands, nothing is written.
use Rattle.std.proofs.lemmas.Result.{err_from_is_err_and}
use Rattle.mix_refused.specs.declared.refused.Refused.TheVariants as reads
use Rattle.mix_session.specs.Session.{opened}
use Rattle.mix_run.specs.Output.{outcome_of_script}
use Rattle.mix_run.proofs.RunLemmas.{Meets-unread}
use Rattle.mix_run.proofs.run.open_and_execute.Goals as goal

pub returns-in_err-session-clause-output : goal.returns-in_err-session-clause-output
returns-in_err-session-clause-output g c =
    let p = err_from_is_err_and c.from_residual.result c.from_residual.ensures.1 in
    rw (p.1, p.2) (Meets-unread (outcome_of_script c.args.echo (opened c.args.program c.args.units) c.args.script.now) reads.Memory (g.W.Out.told c.args.out.now))
