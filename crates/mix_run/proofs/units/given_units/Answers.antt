-- A deck that is read, or one in a text.
use Rattle.std.proofs.Common.{◌∙◌, Err, subst, sym, true≢false}
use Rattle.mix_machine.specs.units.deck.Deck.{deck_of}
use Rattle.mix_run.specs.UnitsRead.{GivesUnits, deck_given}
use Rattle.mix_run.proofs.RunLemmas.{ConsumesAtMost-none}
use Rattle.mix_run.proofs.units.given_units.Goals as goal

pub returns-in-Ok-clause-units : goal.returns-in-Ok-clause-units
returns-in-Ok-clause-units g c d hd = rw c.if-given.true (c.in-Ok.ensures.units d hd)

pub returns-in-Err-clause-units : goal.returns-in-Err-clause-units
returns-in-Err-clause-units g c d hd =
    subst (λ v. GivesUnits (deck_of (deck_given v c.args.own.now d)) (Err c.in-Err.fault)) (sym c.if-given.true) (c.in-Err.ensures.units d hd)

pub returns-in-Ok-clause-whole : goal.returns-in-Ok-clause-whole
returns-in-Ok-clause-whole g c d hd asked = c.in-Ok.ensures.whole d hd

pub returns-else-given-clause-units : goal.returns-else-given-clause-units
returns-else-given-clause-units g c d hd = rw c.if-given.false c.units_of.ensures.units

pub returns-else-given-clause-whole : goal.returns-else-given-clause-whole
returns-else-given-clause-whole g c d hd asked = absurd (true≢false (sym asked ∙ c.if-given.false))

pub returns-else-given-clause-deck : goal.returns-else-given-clause-deck
returns-else-given-clause-deck g c = ConsumesAtMost-none _ _
