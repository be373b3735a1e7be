use Rattle.std.proofs.Common.{false}
use Rattle.mix_machine.proofs.StepsLemmas.{one-done}
use Rattle.mix_machine.proofs.world.World.step.Goals as goal

pub returns : goal.returns
returns c =
    one-done (λ _. false) c.args.self.now c.steps.new.self c.args.kept.now.items c.steps.new.kept.items c.steps.result.0 c.steps.result.1 c.steps.ensures
