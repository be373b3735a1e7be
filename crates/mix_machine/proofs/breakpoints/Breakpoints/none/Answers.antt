use Rattle.mix_machine.proofs.BreakLemmas.{no-breaks}
use Rattle.mix_machine.proofs.breakpoints.Breakpoints.none.Goals as goal

pub returns : goal.returns
returns c = no-breaks
