use Rattle.mix_session.specs.Altered.{is_altered}
use Rattle.mix_session.proofs.AlteredLemmas.{filter-next}
use Rattle.mix_session.proofs.ShowLemmas.{appended}
use Rattle.mix_session.proofs.altered.add_each.Goals as goal

pub loop-part-preserved : goal.loop-part-preserved
loop-part-preserved c =
    appended _ _ _ _ _ _ c.loop-part.invariant c.in_ok-add.ensures
    (filter-next (is_altered c.args.worlds.before.now c.args.worlds.after.now) _ _ _ c.loop-part-test.true c.part-item.is)
