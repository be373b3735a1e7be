use Rattle.std.proofs.Common.{◌∙◌}
use Rattle.std.proofs.lemmas.List.{length-set}
use Rattle.mix_machine.proofs.transfers.Transfers.set.Goals as goal

pub invariant_of-self : goal.invariant_of-self
invariant_of-self c = record {
  units = length-set c.self.inside.list c.from.result _ ∙ c.self.invariant.units;
  over = c.last_end-self-inside.ensures;
}
