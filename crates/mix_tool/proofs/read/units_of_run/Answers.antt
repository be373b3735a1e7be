-- The deck, then the cards, then the lines for the typewriter.
use Rattle.std.proofs.Common.{◌∙◌, Err, Ok, ap, subst, sym}
use Rattle.std.specs.Prelude.{is_some}
use Rattle.mix_machine.specs.units.deck.Deck.{deck_of}
use Rattle.mix_run.specs.UnitsRead.{GivesUnits, deck_given}
use Rattle.mix_tool.specs.Run.{with_text}
use Rattle.mix_tool.proofs.RunLemmas.{gives-none, gives-text}
use Rattle.mix_tool.proofs.read.units_of_run.Goals as goal

pub returns-in-Err-clause-units : goal.returns-in-Err-clause-units
returns-in-Err-clause-units g c given hd hk ht =
    let deck = deck_of (deck_given (is_some c.args.plan.now.devices) c.args.own.now given.deck) in
    let cards = is_some c.args.plan.now.cards in
    let none = subst (λ v. GivesUnits (deck_of (deck_given v c.args.own.now given.deck)) (Err c.in-Err.fault)) c.is_some.ensures
    (c.in-Err.ensures.units given.deck hd) in
    gives-none 19 (with_text 16 deck cards given.cards) _ given.typewriter _ (gives-none 16 deck cards given.cards _ none)

pub returns-in-Err-units_with_text-clause-units : goal.returns-in-Err-units_with_text-clause-units
returns-in-Err-units_with_text-clause-units g c given hd hk ht =
    let deck = deck_of (deck_given (is_some c.args.plan.now.devices) c.args.own.now given.deck) in
    let cards = is_some c.args.plan.now.cards in
    let made = ap (λ v. deck_of (deck_given v c.args.own.now given.deck)) (sym c.is_some.ensures) ∙ c.in-Ok.ensures.units given.deck hd in
    gives-none 19 (with_text 16 deck cards given.cards) _ given.typewriter _ (gives-text 16 deck c.in-Ok.units _ cards given.cards
    (Err c.in-Err-units_with_text.fault) made c.is_some-given.ensures (c.in-Err-units_with_text.ensures.units given.cards hk))

pub returns-clause-units : goal.returns-clause-units
returns-clause-units g c given hd hk ht =
    let deck = deck_of (deck_given (is_some c.args.plan.now.devices) c.args.own.now given.deck) in
    let cards = is_some c.args.plan.now.cards in
    let made = ap (λ v. deck_of (deck_given v c.args.own.now given.deck)) (sym c.is_some.ensures) ∙ c.in-Ok.ensures.units given.deck hd in
    gives-text 19 (with_text 16 deck cards given.cards) c.in-Ok-units_with_text.units _ (is_some c.args.plan.now.typewriter) given.typewriter _
    (gives-text 16 deck c.in-Ok.units _ cards given.cards (Ok c.in-Ok-units_with_text.units) made c.is_some-given.ensures
    (c.in-Ok-units_with_text.ensures.units given.cards hk)) c.is_some-given-2.ensures (c.units_with_text-2.ensures.units given.typewriter ht)
