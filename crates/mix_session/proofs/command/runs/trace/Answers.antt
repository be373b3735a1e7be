-- The answer is made of the steps that were done, and nothing is waited for.
use Rattle.std.proofs.Common.{[], refl}
use Rattle.mix_session.specs.Prelude.{no_stops, New}
use Rattle.mix_session.specs.Command.{effect_of_trace}
use Rattle.mix_session.proofs.CommandLemmas.{begun-before, effect_of_run-is, if_err}
use Rattle.mix_session.proofs.UntilLemmas.{effect-err}
use Rattle.mix_session.proofs.command.runs.trace.Goals as goal

pub run_on-requires-clause-known : goal.run_on-requires-clause-known
run_on-requires-clause-known c = rw c.stops_at-stops.ensures (c.nothing-known.ensures [] New c.args.journal.now refl)

pub returns-clause-effect : goal.returns-clause-effect
returns-clause-effect c =
    let done = c.in_ok-done.ensures in
    let stops = c.stops_at-stops.ensures in
    rw (effect_of_run-is New no_stops c.args.journal.now c.args.count _ _ done.within (rw stops at done.end) (rw stops at done.least)) (done.first, done.moved, refl)

pub returns-in_err-done-clause-effect : goal.returns-in_err-done-clause-effect
returns-in_err-done-clause-effect c =
    effect-err _ c.args.journal.now c.run_on.new.journal _ c.from_residual.ensures.0 c.in_err-done.ensures.first
    (begun-before (effect_of_trace c.args.journal.now c.args.count) c.run_on.new.journal (rw c.stops_at-stops.ensures at c.in_err-done.ensures.memory))

pub returns-in_err-done-clause-memory : goal.returns-in_err-done-clause-memory
returns-in_err-done-clause-memory c = if_err c.from_residual.result _ (rw c.stops_at-stops.ensures at c.in_err-done.ensures.memory)
