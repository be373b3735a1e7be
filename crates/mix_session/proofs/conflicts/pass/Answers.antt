-- The change is the next of all, and what is known before it are the transfers after those before.
use Rattle.std.proofs.Common.{◌∙◌, List, ap, get_or}
use Rattle.mix_machine.specs.declared.old.Change.{Change}
use Rattle.mix_session.proofs.ConflictLemmas.{conflict_at-is, transfers_at-next}
use Rattle.mix_session.proofs.conflicts.pass.Goals as goal

pub returns-clause-conflict : goal.returns-clause-conflict
returns-clause-conflict c =
    let change = c.at-change.result in
    let at = c.at-change.ensures ∙ ap (λ (xs : List Change). get_or xs c.args.number change) c.all.ensures in
    conflict_at-is c.args.journal.now c.args.number change _ _ _ c.requires.within at c.requires.transfers c.requires.before c.conflict-conflict.ensures

pub returns-clause-transfers : goal.returns-clause-transfers
returns-clause-transfers c =
    let change = c.at-change.result in
    let at = c.at-change.ensures ∙ ap (λ (xs : List Change). get_or xs c.args.number change) c.all.ensures in
    transfers_at-next c.args.journal.now c.args.number change _ _ _ c.requires.within at c.requires.transfers c.requires.before c.go.ensures
