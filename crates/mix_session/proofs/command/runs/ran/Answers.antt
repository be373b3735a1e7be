-- The answer is made of the steps that were done.
use Rattle.std.proofs.Common.{refl}
use Rattle.mix_session.specs.Prelude.{effect_of_run, New}
use Rattle.mix_session.proofs.CommandLemmas.{begun-before, effect_of_run-is}
use Rattle.mix_session.proofs.UntilLemmas.{effect-err}
use Rattle.mix_session.proofs.command.runs.ran.Goals as goal

pub returns-clause-effect : goal.returns-clause-effect
returns-clause-effect c =
    let done = c.in_ok-done.ensures in
    rw (effect_of_run-is New c.args.stops.now c.args.journal.now c.args.count _ _ done.within done.end done.least) (done.first, done.moved, refl)

pub returns-in_err-done-clause-effect : goal.returns-in_err-done-clause-effect
returns-in_err-done-clause-effect c =
    let effect = effect_of_run New c.args.stops.now c.args.journal.now c.args.count in
    effect-err effect c.args.journal.now c.run_on.new.journal _ c.from_residual.ensures.0 c.in_err-done.ensures.first (begun-before effect _ c.in_err-done.ensures.memory)
