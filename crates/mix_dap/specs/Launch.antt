-- What a launch loads: the machine of a source, with the units of a deck, the cards of a text, and what another gives to be typed; or the fault of the
-- first text that is at fault.
use Rattle.std.specs.Prelude.{ℕ, List, Option, None, Some, Result, Ok, Err, unwrap_or}
use Rattle.mixal_asm.specs.Prelude.{assembly, ProgramValue}
use Rattle.mixal_asm.specs.declared.fault.AsmFault.{AsmFault}
use Rattle.mix_machine.specs.Prelude.{UnitsState, deck_of, cards_of, typewriter_of}
use Rattle.mix_machine.specs.declared.units.deck_fault.DeckFault.{DeckFault}
use Rattle.mix_session.specs.Session.{SessionState, opened}
use Rattle.dap_asked.specs.declared.fault.Fault.{Fault}
use Rattle.dap_asked.specs.declared.fault.Fault.TheVariants as fault
use Rattle.mixal_text.specs.Steps.{◌>>=◌}
use Rattle.std.specs.Option.{option_map}
use Rattle.mix_files.specs.Bundle.{parts_of}
use Rattle.mix_dap.specs.declared.launch.Texts.{Texts}

abbrev pub or_source : Result ProgramValue AsmFault → Result ProgramValue Fault
or_source (Ok program) = Ok program
or_source (Err at) = Err (fault.Source at)

abbrev pub or_deck : Result UnitsState DeckFault → Result UnitsState Fault
or_deck (Ok units) = Ok units
or_deck (Err at) = Err (fault.Deck at)

abbrev pub or_cards : Result UnitsState DeckFault → Result UnitsState Fault
or_cards (Ok units) = Ok units
or_cards (Err at) = Err (fault.Cards at)

-- the cards of a text in place of those of the deck, where there is one
abbrev pub cards_launched : UnitsState → Option (List ℕ) → Result UnitsState Fault
cards_launched units None = Ok units
cards_launched units (Some cards) = or_cards (cards_of units cards)

-- and the lines of another in place of those that the typewriter would give
abbrev pub or_typed : Result UnitsState DeckFault → Result UnitsState Fault
or_typed (Ok units) = Ok units
or_typed (Err at) = Err (fault.Typed at)

abbrev pub typed_launched : UnitsState → Option (List ℕ) → Result UnitsState Fault
typed_launched units None = Ok units
typed_launched units (Some typed) = or_typed (typewriter_of units typed)

unfoldable pub units_launched : List ℕ → Option (List ℕ) → Option (List ℕ) → Result UnitsState Fault
units_launched deck cards typed = do
  units ← or_deck (deck_of deck)
  fed ← cards_launched units cards
  typed_launched fed typed

unfoldable pub launched : List ℕ → List ℕ → Option (List ℕ) → Option (List ℕ) → Result SessionState Fault
launched source deck cards typed = do
  program ← or_source (assembly source)
  units ← units_launched deck cards typed
  Ok (opened program units)

-- ---- what the texts of a launch load: a bundle gives its deck, unless there is another

abbrev pub source_of : Texts → List ℕ
source_of texts = (parts_of texts.source.items).source

abbrev pub deck_in : Texts → List ℕ
deck_in texts = unwrap_or (option_map (λ deck. deck.items) texts.deck) (parts_of texts.source.items).deck

abbrev pub launched_of : Texts → Result SessionState Fault
launched_of texts =
    launched (source_of texts) (deck_in texts) (option_map (λ cards. cards.items) texts.cards) (option_map (λ typed. typed.items) texts.typed)
