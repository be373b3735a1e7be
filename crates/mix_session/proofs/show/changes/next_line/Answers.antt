use Rattle.std.proofs.Common.{ap, ◌∙◌, ◌+◌}
use Rattle.mix_session.proofs.ChangeLemmas.{change_line_at-next}
use Rattle.mix_session.proofs.show.changes.next_line.Goals as goal

pub returns : goal.returns
returns c =
    c.in_ok-line.ensures
    ∙ change_line_at-next c.args.journal.now _ _ _ _ (ap (λ n. n + 1) c.done-number.ensures.count) c.next_change-change.ensures
    c.world_of.ensures c.in_ok-after.ensures
