-- The values of a change lead back from the state after it to the one before it.
use Rattle.std.proofs.Common.{ap, is_some, sym, ◌∙◌}
use Rattle.mix_session.proofs.timeline.unwind.Goals as goal

pub restore_all-requires : goal.restore_all-requires
restore_all-requires c = ap is_some (c.requires.back _ c.requires.after).1

pub returns : goal.returns
returns c =
    let led = c.requires.back _ c.requires.after in
    led.2 ∙ sym led.1 ∙ c.restore_all.ensures
