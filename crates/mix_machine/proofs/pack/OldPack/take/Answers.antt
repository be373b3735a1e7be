use Rattle.mix_machine.proofs.PackLemmas.{take-last}
use Rattle.mix_machine.proofs.pack.OldPack.take.Goals as goal

pub returns : goal.returns
returns c =
    take-last c.args.units.now.items c.pop.new.self.items c.take_before.new.units.items c.in_ok-header.header
    c.args.anchor.now c.take_before.new.anchor c.take_before.result
    c.in_ok-header.ensures.items c.take_before.ensures
