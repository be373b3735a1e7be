-- The faults of a deck: number and text.
use Rattle.std.specs.Prelude.{ℕ, List, ◌++◌, codes, decimal}
use Rattle.mix_machine.specs.declared.units.deck_fault.DeckKind.{DeckKind}
use Rattle.mix_machine.specs.declared.units.deck_fault.DeckKind.TheVariants.{BadHeader, UnitGivenTwice, LineTooLong, NoMixCharacter, BadWord, PartOfBlock, NoInput, TooManyBlocks, DeckTooLong}
use Rattle.mix_machine.specs.declared.units.deck_fault.DeckFault.{DeckFault}

abbrev pub deck_number : DeckKind → ℕ
deck_number BadHeader = 1
deck_number UnitGivenTwice = 2
deck_number LineTooLong = 3
deck_number NoMixCharacter = 4
deck_number BadWord = 5
deck_number PartOfBlock = 6
deck_number NoInput = 7
deck_number TooManyBlocks = 8
deck_number DeckTooLong = 9

abbrev pub deck_text : DeckKind → List ℕ
deck_text BadHeader = codes "bad header"
deck_text UnitGivenTwice = codes "unit given twice"
deck_text LineTooLong = codes "line too long"
deck_text NoMixCharacter = codes "no MIX character"
deck_text BadWord = codes "bad word"
deck_text PartOfBlock = codes "part of a block"
deck_text NoInput = codes "unit takes no input"
deck_text TooManyBlocks = codes "too many blocks"
deck_text DeckTooLong = codes "deck too long"

-- `K1 bad header`
abbrev pub deck_kind_text : DeckKind → List ℕ
deck_kind_text kind = codes "K" ++ decimal (deck_number kind) ++ codes " " ++ deck_text kind

-- `line 1: K1 bad header`
abbrev pub deck_fault_text : DeckFault → List ℕ
deck_fault_text fault = codes "line " ++ decimal fault.line ++ codes ": " ++ deck_kind_text fault.kind
