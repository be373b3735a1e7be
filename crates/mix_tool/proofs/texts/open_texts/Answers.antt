-- One name after the other, up to the first that can't be opened.
use Rattle.std.proofs.Common.{◌∙◌}
use Rattle.std.proofs.lemmas.Result.{err_from_is_err_and}
use Rattle.mix_tool.proofs.OpeningLemmas.{opens-end, opens-then}
use Rattle.mix_tool.proofs.texts.open_texts.Goals as goal

pub returns-in_err-source-clause-missing : goal.returns-in_err-source-clause-missing
returns-in_err-source-clause-missing g c all e =
    let p = err_from_is_err_and c.from_residual.result c.from_residual.ensures.1 in
    rw (p.1, p.2) (opens-end all _ _ _ _ _ (c.in_err-source.ensures.missing all e))

pub returns-in_err-deck-clause-missing : goal.returns-in_err-deck-clause-missing
returns-in_err-deck-clause-missing g c all e =
    let p = err_from_is_err_and c.from_residual-in_err-deck.result c.from_residual-in_err-deck.ensures.1 in
    let second = c.in_ok-source.ensures.same ∙ e in
    rw (p.1, p.2) (opens-then all _ _ _ _ _ _ (c.in_ok-source.ensures.opened all e) (opens-end all _ _ _ _ _ (c.in_err-deck.ensures.missing all second)))

pub returns-in_err-cards-clause-missing : goal.returns-in_err-cards-clause-missing
returns-in_err-cards-clause-missing g c all e =
    let p = err_from_is_err_and c.from_residual-in_err-cards.result c.from_residual-in_err-cards.ensures.1 in
    let second = c.in_ok-source.ensures.same ∙ e in
    let third = c.in_ok-deck.ensures.same ∙ second in
    rw (p.1, p.2) (opens-then all _ _ _ _ _ _ (c.in_ok-source.ensures.opened all e) (opens-then all _ _ _ _ _ _ (c.in_ok-deck.ensures.opened all second)
    (opens-end all _ _ _ _ _ (c.in_err-cards.ensures.missing all third))))

pub returns-in_err-typewriter-clause-missing : goal.returns-in_err-typewriter-clause-missing
returns-in_err-typewriter-clause-missing g c all e =
    let p = err_from_is_err_and c.from_residual-in_err-typewriter.result c.from_residual-in_err-typewriter.ensures.1 in
    let second = c.in_ok-source.ensures.same ∙ e in
    let third = c.in_ok-deck.ensures.same ∙ second in
    let fourth = c.in_ok-cards.ensures.same ∙ third in
    rw (p.1, p.2) (opens-then all _ _ _ _ _ _ (c.in_ok-source.ensures.opened all e) (opens-then all _ _ _ _ _ _ (c.in_ok-deck.ensures.opened all second)
    (opens-then all _ _ _ _ _ _ (c.in_ok-cards.ensures.opened all third)
    (opens-end all _ _ _ _ _ (c.in_err-typewriter.ensures.missing all fourth)))))

pub returns-in_err-script-clause-missing : goal.returns-in_err-script-clause-missing
returns-in_err-script-clause-missing g c all e =
    let p = err_from_is_err_and c.from_residual-in_err-script.result c.from_residual-in_err-script.ensures.1 in
    let second = c.in_ok-source.ensures.same ∙ e in
    let third = c.in_ok-deck.ensures.same ∙ second in
    let fourth = c.in_ok-cards.ensures.same ∙ third in
    let last = c.in_ok-typewriter.ensures.same ∙ fourth in
    rw (p.1, p.2) (opens-then all _ _ _ _ _ _ (c.in_ok-source.ensures.opened all e) (opens-then all _ _ _ _ _ _ (c.in_ok-deck.ensures.opened all second)
    (opens-then all _ _ _ _ _ _ (c.in_ok-cards.ensures.opened all third) (opens-then all _ _ _ _ _ _ (c.in_ok-typewriter.ensures.opened all fourth)
    (c.in_err-script.ensures.missing all last)))))

pub returns-clause-opened : goal.returns-clause-opened
returns-clause-opened g c all e =
    let second = c.in_ok-source.ensures.same ∙ e in
    let third = c.in_ok-deck.ensures.same ∙ second in
    let fourth = c.in_ok-cards.ensures.same ∙ third in
    let last = c.in_ok-typewriter.ensures.same ∙ fourth in
    opens-then all _ _ _ _ _ _ (c.in_ok-source.ensures.opened all e) (opens-then all _ _ _ _ _ _ (c.in_ok-deck.ensures.opened all second)
    (opens-then all _ _ _ _ _ _ (c.in_ok-cards.ensures.opened all third) (opens-then all _ _ _ _ _ _ (c.in_ok-typewriter.ensures.opened all fourth)
    (c.in_ok-script.ensures.opened all last))))
