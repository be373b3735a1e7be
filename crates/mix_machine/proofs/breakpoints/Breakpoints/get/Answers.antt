use Rattle.mix_machine.proofs.BreakLemmas.{no-break-at}
use Rattle.mix_machine.proofs.breakpoints.Breakpoints.get.Goals as goal

pub returns-then-not-self : goal.returns-then-not-self
returns-then-not-self c = no-break-at c.self.inside.words c.args.self.now c.args.p c.self.view_is (c.self.invariant c.if-not-self.true)
