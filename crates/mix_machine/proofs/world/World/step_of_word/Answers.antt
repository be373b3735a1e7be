use Rattle.std.proofs.Common.{◌≡◌, sym, subst, ◌==◌, false, Result, Err, rules, arith}
use Rattle.std.proofs.lemmas.Bool.Decides.{nat_tests}
use Rattle.mix_refused.specs.declared.refused.Refused.{Refused}
use Rattle.mix_word.specs.Prelude.{decode_of, parts_of}
use Rattle.mix_machine.specs.Prelude.{arguments_of, operation_or_nop, step_or_fault, step_plan, MixFault}
use Rattle.mix_machine.proofs.StageLemmas.{fault-of-address}
use Rattle.mix_machine.proofs.world.World.step_of_word.Goals as goal

pub returns-in-Some : goal.returns-in-Some
returns-in-Some g c =
    let w = c.args.self.now in
    let a = c.arguments-arguments.result in
    let d = decode_of (parts_of c.args.word).code a.f in
    let cell = c.requires.cell in
    let there : (w.loc == 4000) ≡ false = grind (arith, nat_tests) in
    let refused : step_or_fault d w a ≡ Err c.in-Some.fault = fault-of-address d w a (step_plan (operation_or_nop d) w a) c.in-Some.fault there (sym c.in-Some.ensures) in
    let parts = parts_of c.args.word in
    let whole : step_or_fault (decode_of parts.code parts.f) w (arguments_of w parts) ≡ Err c.in-Some.fault = search (rules, refused) in
    subst (λ (r : Result (Unit {0}) (Refused MixFault)). g.E.Ending.ended (step_or_fault (decode_of parts.code parts.f) w (arguments_of w parts)) w w c.args.end.now c.args.end.now r)
    (sym c.told.ensures) (g.E.Ending.refused (step_or_fault (decode_of parts.code parts.f) w (arguments_of w parts)) w c.args.end.now c.in-Some.fault whole)
