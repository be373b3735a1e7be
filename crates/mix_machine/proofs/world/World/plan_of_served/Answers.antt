use Rattle.std.proofs.Common.{◌≡◌, ◌∙◌, sym, ap, ◌==◌, false, arith}
use Rattle.std.proofs.lemmas.Bool.Decides.{nat_tests}
use Rattle.mix_word.specs.declared.decoding.Decoded.TheVariants.{Named}
use Rattle.mix_machine.specs.Prelude.{effects, applies, step_plan}
use Rattle.mix_machine.specs.law.Stages.{timed_or_fault}
use Rattle.mix_machine.proofs.StageLemmas.{fault-of-operation, fault-of-clock}
use Rattle.mix_machine.proofs.world.World.plan_of_served.Goals as goal

pub returns-in-Err : goal.returns-in-Err
returns-in-Err c =
    let op = c.args.operation in
    let w = c.args.self.now in
    let cell = c.requires.cell in
    let there : (w.loc == 4000) ≡ false = grind (arith, nat_tests) in
    sym (fault-of-operation (applies (Named op) w c.args.a) (step_plan op w c.args.a) (effects op w c.args.a) c.in-Err.fault there c.requires.served (sym c.requires.outcome ∙ c.in-Err.is))

pub returns-in-Ok : goal.returns-in-Ok
returns-in-Ok c =
    let op = c.args.operation in
    let w = c.args.self.now in
    let cell = c.requires.cell in
    let there : (w.loc == 4000) ≡ false = grind (arith, nat_tests) in
    let all = fault-of-clock (applies (Named op) w c.args.a) (step_plan op w c.args.a) (effects op w c.args.a) c.in-Ok.effects there c.requires.served (sym c.requires.outcome ∙ c.in-Ok.is) in
    c.timed.ensures ∙ ap (timed_or_fault op w c.args.a) (sym all.1) ∙ sym all.0
