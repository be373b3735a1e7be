-- The lines of a text, if it is given.
use Rattle.std.proofs.Common.{◌∙◌, ap, subst}
use Rattle.mix_machine.specs.units.deck.Deck.{text_of_unit}
use Rattle.mix_run.specs.UnitsRead.{GivesUnits}
use Rattle.mix_run.specs.law.Truncation.{text_of-take}
use Rattle.mix_tool.proofs.read.units_with_text.Goals as goal

pub returns-in-Cards-clause-units : goal.returns-in-Cards-clause-units
returns-in-Cards-clause-units g c t ht =
    let same = ap (text_of_unit c.args.units 16) (c.deref.ensures.value ∙ (c.in-Ok.ensures.whole t ht).0) ∙ text_of-take c.args.units 16 t in
    rw (c.if-not-given.false, c.in-Cards.is) (subst (λ r. GivesUnits r c.with_cards.result) same c.with_cards.ensures.units)

pub returns-clause-units : goal.returns-clause-units
returns-clause-units g c t ht =
    let same = ap (text_of_unit c.args.units 19) (c.deref-in-Typewriter.ensures.value ∙ (c.in-Ok.ensures.whole t ht).0) ∙ text_of-take c.args.units 19 t in
    rw (c.if-not-given.false, c.in-Typewriter.is) (subst (λ r. GivesUnits r c.with_typewriter.result) same c.with_typewriter.ensures.units)
