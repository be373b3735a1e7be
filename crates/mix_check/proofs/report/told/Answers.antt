-- None is left.
use Rattle.mix_check.proofs.SayingLemmas.{none-left}
use Rattle.mix_check.proofs.report.told.Goals as goal

pub returns : goal.returns
returns c = none-left c.args.json c.args.name.now c.args.diagnostics.now c.loop-rest.rest.now c.loop-rest.text.items c.in_default.len_below c.loop-rest.invariant
