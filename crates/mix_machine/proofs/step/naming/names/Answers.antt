use Rattle.std.proofs.Common.{◌∙◌, sym}
use Rattle.mix_machine.proofs.step.naming.names.Goals as goal

pub returns : goal.returns
returns c = c.number_law.ensures c.args.code c.args.f c.args.op (sym c.requires.number ∙ sym c.requires.same) c.requires.register
