-- What the reading of units answers: the units of a deck or of cards, or why there are none.
use Rattle.std.specs.Prelude.{◌≡◌, ⊤, ℕ, Bool, List, Result, Ok, Err, if◌then◌else◌}
use Rattle.mix_machine.specs.declared.units.deck_fault.DeckFault.{DeckFault}
use Rattle.mix_machine.specs.units.Units.{UnitsState}
use Rattle.mix_run.specs.declared.fault.ToolFault.{ToolFault}
use Rattle.mix_run.specs.declared.fault.ToolFault.TheVariants as faults
use Rattle.mix_run.specs.declared.units.Deck.{Deck}

-- what the reading of units may answer: the units, their fault, or that memory is refused or a read failed
abbrev pub GivesUnits : Result UnitsState DeckFault → Result UnitsState ToolFault → Type 0
GivesUnits expected (Ok units) = expected ≡ Ok units
GivesUnits expected (Err (faults.Deck fault)) = expected ≡ Err fault
GivesUnits expected (Err faults.Memory) = ⊤
GivesUnits expected (Err faults.Read) = ⊤
GivesUnits expected (Err faults.Write) = ⊥
GivesUnits expected (Err faults.Long) = ⊥

-- the units of a deck that was read
abbrev pub units_in : Result Deck ToolFault → Result UnitsState ToolFault
units_in (Ok deck) = Ok deck.units
units_in (Err fault) = Err fault

-- a deck that is given is in the place of the one that a bundle has
abbrev pub deck_given : Bool → List ℕ → List ℕ → List ℕ
deck_given given own deck = if given then deck else own
