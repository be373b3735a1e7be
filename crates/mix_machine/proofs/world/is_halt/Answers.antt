use Rattle.std.proofs.Common.{◌≡◌, ◌==◌, arith}
use Rattle.std.proofs.lemmas.Bool.Decides.{nat_tests}
use Rattle.mix_word.specs.Prelude.{parts_of, decode_of, number_of_pair}
use Rattle.mix_word.specs.declared.operation.Operation.TheVariants.{Hlt}
use Rattle.mix_machine.proofs.Halting.{halt-tested}
use Rattle.mix_machine.proofs.world.is_halt.Goals as goal

pub returns : goal.returns
returns c =
    let code = (parts_of c.args.word).code in
    let f = (parts_of c.args.word).f in
    let number : c.pair_number.result ≡ number_of_pair (decode_of code f) = c.pair_number.ensures in
    halt-tested code f (decode_of code f) (c.pair_number.result == 42) (c.decode_law.ensures code f Hlt)
    (λ h. c.number_law.ensures code f Hlt (grind (arith, nat_tests)) (λ t. absurd (cc)), λ h. grind (arith, nat_tests))
