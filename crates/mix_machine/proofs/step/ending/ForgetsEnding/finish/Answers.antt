use Rattle.std.proofs.Common.{sym, subst}
use Rattle.mix_word.specs.declared.decoding.Decoded.TheVariants.{Named}
use Rattle.mix_machine.specs.Prelude.{IsWorld, step_or_fault}
use Rattle.mix_machine.specs.law.Undone.{step-fits}
use Rattle.mix_machine.proofs.Counting.{few_in_step}
use Rattle.mix_machine.proofs.EndingLemmas.{passed-on, not-planned}
use Rattle.mix_machine.proofs.step.ending.ForgetsEnding.finish.Goals as goal

pub pass-requires-clause-fits : goal.pass-requires-clause-fits
pass-requires-clause-fits c =
    (step-fits (Named c.args.operation) c.args.world.now c.args.a c.in-Ok.plan (subst IsWorld c.world.view_is c.world.invariant) (sym c.in-Ok.ensures)).0

pub pass-requires-clause-units : goal.pass-requires-clause-units
pass-requires-clause-units c =
    (step-fits (Named c.args.operation) c.args.world.now c.args.a c.in-Ok.plan (subst IsWorld c.world.view_is c.world.invariant) (sym c.in-Ok.ensures)).1

pub pass-requires-clause-few : goal.pass-requires-clause-few
pass-requires-clause-few c = few_in_step (Named c.args.operation) c.args.world.now c.args.a c.in-Ok.plan c.requires.f (sym c.in-Ok.ensures)

pub returns-in-Err : goal.returns-in-Err
returns-in-Err c = not-planned c.args.world.now c.in-Err.fault (step_or_fault (Named c.args.operation) c.args.world.now c.args.a) _ c.told.ensures c.in-Err.ensures

pub returns-in-Ok-pass : goal.returns-in-Ok-pass
returns-in-Ok-pass c =
    passed-on c.args.world.now c.pass.new.self c.in-Ok.plan (step_or_fault (Named c.args.operation) c.args.world.now c.args.a) _ c.told-in-Ok-pass.ensures c.in-Ok.ensures
    c.in-Ok-pass.ensures.state
