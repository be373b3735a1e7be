-- What was read of the script is all that its outcome looks at.
use Rattle.std.proofs.Common.{◌∙◌}
use Rattle.std.proofs.lemmas.Result.{err_from_is_err_and}
use Rattle.mix_session.specs.Session.{opened}
use Rattle.mix_run.specs.Output.{outcome_of_script}
use Rattle.mix_run.proofs.RunLemmas.{Meets-unread, Meets-script}
use Rattle.mix_run.proofs.run.run_script.Goals as goal

pub returns-in_err-commands-clause-output : goal.returns-in_err-commands-clause-output
returns-in_err-commands-clause-output g c t ht =
    let p = err_from_is_err_and c.from_residual.result c.from_residual.ensures.1 in
    rw (p.1, p.2) (Meets-unread (outcome_of_script c.args.echo (opened c.args.program c.args.units) t) _ (g.W.Out.told c.args.out.now))

pub returns-clause-output : goal.returns-clause-output
returns-clause-output g c t ht =
    Meets-script c.args.echo _ t _ _ _ _ (c.deref.ensures.value ∙ (c.in_ok-commands.ensures.whole t ht).0) c.open_and_execute.ensures.output
