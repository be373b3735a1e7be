use Rattle.mix_session.specs.Prelude.{numbered, is_altered, Cells, Breaks, Units}
use Rattle.mix_session.proofs.AlteredLemmas.{filter-pieces}
use Rattle.mix_session.proofs.altered.altered_among.Goals as goal

pub returns : goal.returns
unfolding Rattle.mix_session.specs.Altered.with_numbered
returns c =
    filter-pieces (is_altered c.args.worlds.before.now c.args.worlds.after.now) c.args.unnumbered.now (numbered Cells) (numbered Breaks) (numbered Units)
    _ _ _ _ _ c.new-parts.ensures.items c.in_ok-add_each.ensures c.in_ok-add_numbered.ensures c.in_ok-add_numbered-2.ensures c.in_ok-add_numbered-3.ensures
