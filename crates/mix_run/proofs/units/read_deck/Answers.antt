-- What was read of the deck is all that its units look at.
use Rattle.std.proofs.Common.{◌∙◌, Err, subst, sym}
use Rattle.std.proofs.lemmas.Result.{err_from_is_err_and}
use Rattle.mix_machine.specs.units.deck.Deck.{deck_of}
use Rattle.mix_run.specs.UnitsRead.{GivesUnits}
use Rattle.mix_run.proofs.RunLemmas.{deck_of-read, gives-unread}
use Rattle.mix_run.specs.law.Truncation.{deck-read-whole}
use Rattle.mix_run.proofs.units.read_deck.Goals as goal

pub returns-in_err-text-clause-units : goal.returns-in_err-text-clause-units
returns-in_err-text-clause-units g c d hd =
    let p = err_from_is_err_and c.from_residual.result c.from_residual.ensures.1 in
    rw (p.1, p.2) (gives-unread (deck_of d) _)

pub returns-in-Ok-clause-units : goal.returns-in-Ok-clause-units
returns-in-Ok-clause-units g c d hd =
    let same = deck_of-read d _ (c.deref.ensures.value ∙ (c.in_ok-text.ensures.whole d hd).0) in rw same at c.in-Ok.ensures.units

pub returns-in-Err-clause-units : goal.returns-in-Err-clause-units
returns-in-Err-clause-units g c d hd =
    let same = deck_of-read d _ (c.deref.ensures.value ∙ (c.in_ok-text.ensures.whole d hd).0) in
    subst (λ r. GivesUnits r (Err c.in-Err.fault)) same c.in-Err.ensures.units

pub returns-in-Ok-clause-text : goal.returns-in-Ok-clause-text
returns-in-Ok-clause-text g c d hd =
    sym c.deref.ensures.value ∙ deck-read-whole d _ _ (c.deref.ensures.value ∙ (c.in_ok-text.ensures.whole d hd).0) c.in-Ok.ensures.units
