use Rattle.mix_session.proofs.altered.altered_by_kept.Goals as goal

pub altered_in-requires : goal.altered_in-requires
altered_in-requires c =
    c.by.ensures c.args.worlds.before.now c.args.worlds.after.now
    record { begins = c.mark-before.ensures.world; ends = c.mark-after.ensures.world; change = c.args.change.now; given = c.requires.given; back = c.requires.back }
