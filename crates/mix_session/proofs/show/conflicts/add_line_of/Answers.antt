-- What is appended is the line of the change, and then its conflict.
use Rattle.std.proofs.Common.{◌∙◌, ◌++◌, ◌∷◌, [], List, ap, append_assoc, get_or}
use Rattle.mix_machine.specs.declared.old.Change.{Change}
use Rattle.mix_session.specs.Conflicts.{conflict_column}
use Rattle.mix_session.proofs.ConflictLemmas.{line_of_conflict}
use Rattle.mix_session.proofs.show.conflicts.add_line_of.Goals as goal

pub returns : goal.returns
returns c =
    let change = c.at-change.result in
    let at = c.at-change.ensures ∙ ap (λ (xs : List Change). get_or xs c.args.number change) c.all.ensures in
    let line = line_of_conflict c.args.journal.now c.args.number change _ _ c.args.conflict c.requires.within at c.requires.before c.requires.after c.requires.conflict in
    let front = c.in_ok-front.ensures in
    let extended = c.in_ok-extend_from_slice.ensures.items in
    let read = c.deref.ensures.value in
    let wrote = c.in_ok-add_conflict.ensures in
    let whole = append_assoc c.args.text.now.items c.in_ok-front.front.items (conflict_column c.args.conflict ++ 10 ∷ []) in
    cc
