-- A deck that is asked for or not.
use Rattle.mix_run.specs.Keep.{kept_deck}
use Rattle.mix_run.proofs.KeepLemmas.{added-not}
use Rattle.mix_run.proofs.keep.keep_units.Goals as goal

pub returns-then-keep : goal.returns-then-keep
returns-then-keep c = rw c.if-keep.true c.add_deck.ensures

pub returns-else-keep : goal.returns-else-keep
returns-else-keep c = added-not c.args.keep _ (kept_deck c.args.world.now) c.if-keep.false
