use Rattle.std.proofs.Common.{◌≡◌, ◌∙◌, ap, sym, subst, ◌==◌, false, Result, arith}
use Rattle.std.proofs.lemmas.Bool.Decides.{nat_tests}
use Rattle.mix_refused.specs.declared.refused.Refused.{Refused}
use Rattle.mix_word.specs.Prelude.{decode_of, parts_of}
use Rattle.mix_word.specs.declared.decoding.Decoded.TheVariants.{Floating, Unknown}
use Rattle.mix_machine.specs.Prelude.{arguments_of, step_or_fault, MixFault}
use Rattle.mix_machine.specs.declared.fault.MixFault.TheVariants.{NoOperation, FloatingOperation}
use Rattle.mix_machine.proofs.StageLemmas.{fault-of-floating, fault-of-unknown}
use Rattle.mix_machine.proofs.world.World.step_of_rarest.Goals as goal

pub returns-in-Floating : goal.returns-in-Floating
returns-in-Floating g c =
    let w = c.args.self.now in
    let parts = parts_of c.args.word in
    let cell = c.requires.cell in
    let there : (w.loc == 4000) ≡ false = grind (arith, nat_tests) in
    let is : decode_of parts.code parts.f ≡ Floating = ap (λ p. decode_of p.code p.f) (sym c.parts-parts.ensures.is) ∙ sym c.decode.ensures.is ∙ c.in-Floating.is in
    let whole = fault-of-floating (decode_of parts.code parts.f) w (arguments_of w parts) is there in
    subst (λ (r : Result (Unit {0}) (Refused MixFault)). g.E.Ending.ended (step_or_fault (decode_of parts.code parts.f) w (arguments_of w parts)) w w c.args.end.now c.args.end.now r)
    (sym c.told.ensures) (g.E.Ending.refused (step_or_fault (decode_of parts.code parts.f) w (arguments_of w parts)) w c.args.end.now FloatingOperation whole)

pub returns-in-Unknown : goal.returns-in-Unknown
returns-in-Unknown g c =
    let w = c.args.self.now in
    let parts = parts_of c.args.word in
    let cell = c.requires.cell in
    let there : (w.loc == 4000) ≡ false = grind (arith, nat_tests) in
    let is : decode_of parts.code parts.f ≡ Unknown = ap (λ p. decode_of p.code p.f) (sym c.parts-parts.ensures.is) ∙ sym c.decode.ensures.is ∙ c.in-Unknown.is in
    let whole = fault-of-unknown (decode_of parts.code parts.f) w (arguments_of w parts) is there in
    subst (λ (r : Result (Unit {0}) (Refused MixFault)). g.E.Ending.ended (step_or_fault (decode_of parts.code parts.f) w (arguments_of w parts)) w w c.args.end.now c.args.end.now r)
    (sym c.told-in-Unknown.ensures) (g.E.Ending.refused (step_or_fault (decode_of parts.code parts.f) w (arguments_of w parts)) w c.args.end.now NoOperation whole)
