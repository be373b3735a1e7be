-- What is appended is the line of the change, if the change is chosen.
use Rattle.std.proofs.Common.{◌≡◌, ◌+◌, ◌++◌, ◌∙◌, Bool, List, [], ap, append-nil, get_or, reverse, sym, if◌then◌else◌}
use Rattle.mix_machine.specs.declared.old.Change.{Change}
use Rattle.mix_session.specs.Change.{change_line_at, chosen_line_at}
use Rattle.mix_session.proofs.ChangeLemmas.{change_line_at-done, chosen_line_at-done}
use Rattle.mix_session.proofs.ConditionLemmas.{change-given}
use Rattle.mix_session.proofs.show.last.add_chosen.Goals as goal

pub returns-else-is_chosen : goal.returns-else-is_chosen
returns-else-is_chosen c =
    let whole = change_line_at c.args.journal.now (c.args.number + 1) in
    let same = chosen_line_at-done c.args.chosen c.args.journal.now c.args.number _ _ _ c.requires.within c.requires.before c.requires.after c.is_chosen.ensures in
    let none : [] ≡ chosen_line_at c.args.chosen c.args.journal.now (c.args.number + 1) =
    ap (λ (b : Bool). if b then whole else []) (sym c.if-is_chosen.false) ∙ same in
    sym (append-nil _) ∙ ap (λ l. c.args.text.now.items ++ reverse l) none

pub returns-in_ok-add_reversed : goal.returns-in_ok-add_reversed
returns-in_ok-add_reversed c =
    let whole = change_line_at c.args.journal.now (c.args.number + 1) in
    let same = chosen_line_at-done c.args.chosen c.args.journal.now c.args.number _ _ _ c.requires.within c.requires.before c.requires.after c.is_chosen.ensures in
    let one : whole ≡ chosen_line_at c.args.chosen c.args.journal.now (c.args.number + 1) =
    ap (λ (b : Bool). if b then whole else []) (sym c.if-is_chosen.true) ∙ same in
    let change = c.at-change.result in
    let at = c.at-change.ensures ∙ ap (λ (xs : List Change). get_or xs c.args.number change) c.changes.ensures in
    let line = change_line_at-done c.args.journal.now c.args.number change _ _ c.requires.within at c.requires.before c.requires.after in
    let written = c.in_ok-line.ensures in
    let turned = c.in_ok-add_reversed.ensures in
    let read = c.deref.ensures.value in
    cc

pub altered_by_kept-requires-clause-given : goal.altered_by_kept-requires-clause-given
altered_by_kept-requires-clause-given c =
    let t = c.args.journal.now in
    let change = c.at-change.result in
    let at = c.at-change.ensures ∙ ap (λ (xs : List Change). get_or xs c.args.number change) c.changes.ensures in
    change-given t.first t.changes c.args.number change _ _ c.requires.within at c.requires.before c.requires.after
