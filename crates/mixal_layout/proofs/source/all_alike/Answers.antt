use Rattle.std.proofs.Common.{sym, ◌∙◌}
use Rattle.mixal_layout.proofs.AlikeLemmas.{last_alike}
use Rattle.mixal_layout.proofs.source.all_alike.Goals as goal

pub returns : goal.returns
returns c =
    last_alike c.args.source.now c.args.text.now c.loop-first.first.now c.loop-first.second.now c.is_empty-2.result
    (sym c.is_empty.ensures ∙ c.loop-first-test.false) c.is_empty-2.ensures c.loop-first.invariant
