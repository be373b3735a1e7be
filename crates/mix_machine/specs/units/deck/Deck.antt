-- The deck, line by line: what it gives to the units, or its first fault.
use Rattle.std.specs.Prelude.{ℕ, ◌+◌, ◌*◌, ◌%◌, ◌≡◌, ◌≤◌, ◌==◌, Bool, true, false, not, ◌&&◌, nat_lt, List, [], ◌∷◌, ◌++◌, length, replicate, slice_index_or, slice_set, Option, None, Some, unwrap_or, Result, Ok, Err, if◌then◌else◌}
use Rattle.std.specs.Option.{is_some}
use Rattle.mix_refused.specs.declared.refused.Refused.{Refused}
use Rattle.mix_refused.specs.declared.refused.Refused.TheVariants.{Fault, Memory}
use Rattle.mix_lines.specs.Lines.{lines, words}
use Rattle.mix_word.specs.Prelude.{WordValue, unit_count}
use Rattle.mix_machine.specs.units.UnitKind.{block_length}
use Rattle.mix_machine.specs.units.Unit.{most_entries}
use Rattle.mix_machine.specs.units.Units.{UnitsState, empty_units, unit_of, set_delay, fill}
use Rattle.mix_machine.specs.units.deck.Header.{is_header, header_of}
use Rattle.mix_machine.specs.units.deck.Block.{deck_words, is_too_long, has_codes, words_from}
use Rattle.mix_machine.specs.declared.units.kind.UnitKind.{UnitKind}
use Rattle.mix_machine.specs.declared.units.kind.UnitKind.TheVariants.{Tape, Disk, CardReader, CardPunch, Printer, Typewriter, PaperTape}
use Rattle.mix_machine.specs.declared.units.deck.header.Header.{Header}
use Rattle.mix_machine.specs.declared.units.deck_fault.DeckKind.{DeckKind}
use Rattle.mix_machine.specs.declared.units.deck_fault.DeckKind.TheVariants.{BadHeader, UnitGivenTwice, LineTooLong, NoMixCharacter, BadWord, PartOfBlock, NoInput, TooManyBlocks, DeckTooLong}
use Rattle.mix_machine.specs.declared.units.deck_fault.DeckFault.{DeckFault}

-- how many bytes a deck may have
abbrev pub max_deck_bytes : ℕ
max_deck_bytes = 33554432

-- What is read so far: the units, up to the last header; the unit of that header; the words read for it; and of
-- each unit whether a header named it.
pub record Reading : Type 0 where
  pub units : UnitsState
  pub unit : Option ℕ
  pub words : List WordValue
  pub given : List Bool

-- before the first line
abbrev pub nothing_read : Reading
nothing_read = record { units = empty_units; unit = None; words = []; given = replicate unit_count false }

abbrev pub kind_at : Reading → ℕ → UnitKind
kind_at r n = (unit_of r.units n).kind

-- the words of a unit become its blocks, each of which is whole
abbrev pub end_unit : UnitsState → Option ℕ → List WordValue → Result UnitsState DeckKind
end_unit us None ws = Ok us
end_unit us (Some n) ws =
    if length ws % block_length (unit_of us n).kind == 0 then Ok (fill us n ws) else Err PartOfBlock

-- whether a unit reads nothing: a card punch or a printer
abbrev pub reads_nothing : UnitKind → Bool
reads_nothing Tape = false
reads_nothing Disk = false
reads_nothing CardReader = false
reads_nothing CardPunch = true
reads_nothing Printer = true
reads_nothing Typewriter = false
reads_nothing PaperTape = false

-- a header begins a unit, which no header named before; one that reads nothing is named for its delay alone
abbrev pub begin_unit : UnitsState → List Bool → Option Header → Result Reading DeckKind
begin_unit us given None = Err BadHeader
begin_unit us given (Some h) =
    if slice_index_or given h.unit false then Err UnitGivenTwice else
    if reads_nothing (unit_of us h.unit).kind && not (is_some h.delay) then Err NoInput else
    Ok (record {
      units = set_delay us h.unit (unwrap_or h.delay 0);
      unit = Some h.unit;
      words = [];
      given = slice_set given h.unit true;
    })

abbrev pub header_after : Result UnitsState DeckKind → List Bool → Option Header → Result Reading DeckKind
header_after (Ok us) given h = begin_unit us given h
header_after (Err k) given h = Err k

abbrev pub header_line : Reading → List ℕ → Result Reading DeckKind
header_line r text = header_after (end_unit r.units r.unit r.words) r.given (header_of (words text))

-- only a blank line is nothing
abbrev pub blank_or : DeckKind → Reading → List (List ℕ) → Result Reading DeckKind
blank_or k r [] = Ok r
blank_or k r (word ∷ rest) = Err k

-- whether so many words more would begin a block too many
abbrev pub is_over : UnitKind → Reading → ℕ → Bool
is_over kind r n = nat_lt (most_entries * block_length kind) (length r.words + n)

abbrev pub with_words : List WordValue → Option (List WordValue) → Result (List WordValue) DeckKind
with_words ws None = Err BadWord
with_words ws (Some more) = Ok (ws ++ more)

abbrev pub words_read : Reading → Result (List WordValue) DeckKind → Result Reading DeckKind
words_read r (Ok ws) = Ok (record r { words = ws })
words_read r (Err k) = Err k

-- a line of a tape or a disk: words
abbrev pub line_of_words : UnitKind → Reading → List ℕ → Result Reading DeckKind
line_of_words kind r text =
    if is_over kind r (length (words text)) then Err TooManyBlocks
    else words_read r (with_words r.words (deck_words (words text)))

-- a line of cards or text: one block, five characters a word
abbrev pub line_of_text : UnitKind → Reading → List ℕ → Result Reading DeckKind
line_of_text kind r text =
    if is_over kind r (block_length kind) then Err TooManyBlocks else
    if is_too_long (5 * block_length kind) text then Err LineTooLong else
    if not (has_codes (5 * block_length kind) text) then Err NoMixCharacter else
    Ok (record r { words = r.words ++ words_from (block_length kind) 0 text })

abbrev pub line_of_unit : UnitKind → Reading → List ℕ → Result Reading DeckKind
line_of_unit Tape r text = line_of_words Tape r text
line_of_unit Disk r text = line_of_words Disk r text
line_of_unit CardReader r text = line_of_text CardReader r text
line_of_unit CardPunch r text = blank_or NoInput r (words text)
line_of_unit Printer r text = blank_or NoInput r (words text)
line_of_unit Typewriter r text = line_of_text Typewriter r text
line_of_unit PaperTape r text = line_of_text PaperTape r text

-- a line that is no header; what stands before the first header is blank
abbrev pub line_below : Option ℕ → Reading → List ℕ → Result Reading DeckKind
line_below None r text = blank_or BadHeader r (words text)
line_below (Some n) r text = line_of_unit (kind_at r n) r text

-- one line read, or its fault; a line is a header only in a text that has them
unfoldable pub line_read : Bool → Reading → List ℕ → Result Reading DeckKind
line_read headers r text = if headers && is_header text then header_line r text else line_below r.unit r text

abbrev pub refused_at : ℕ → DeckKind → Result UnitsState DeckFault
refused_at line k = Err (record { line = line; kind = k })

abbrev pub at_line : ℕ → Result UnitsState DeckKind → Result UnitsState DeckFault
at_line line (Ok us) = Ok us
at_line line (Err k) = refused_at line k

abbrev pub go_on : ℕ → Result Reading DeckKind → (Reading → Result UnitsState DeckFault) → Result UnitsState DeckFault
go_on line (Ok r) next = next r
go_on line (Err k) next = refused_at line k

-- lines, with headers or without, the first of which has this number; the last unit ends after the last line
abbrev pub lines_from : Bool → ℕ → Reading → List (List ℕ) → Result UnitsState DeckFault
lines_from headers line r [] = at_line line (end_unit r.units r.unit r.words)
lines_from headers line r (text ∷ rest) = go_on line (line_read headers r text) (λ s. lines_from headers (line + 1) s rest)

-- the units that a deck fills, or its first fault
unfoldable pub deck_of : List ℕ → Result UnitsState DeckFault
deck_of bytes =
    if nat_lt max_deck_bytes (length bytes) then refused_at 1 DeckTooLong else lines_from true 1 nothing_read (lines bytes)

-- no line read for a unit, of units that are there
abbrev pub no_line_read : UnitsState → ℕ → Reading
no_line_read us n = record { units = us; unit = Some n; words = []; given = replicate unit_count false }

-- The units with the lines of a text in place of the blocks that one of them had, of which the first is read next: each line
-- is a block, also one that begins with %. Everything else of the units stays.
unfoldable pub text_of_unit : UnitsState → ℕ → List ℕ → Result UnitsState DeckFault
text_of_unit us n text =
    if nat_lt max_deck_bytes (length text) then refused_at 1 DeckTooLong else lines_from false 1 (no_line_read us n) (lines text)

-- the units with other cards: those of the card reader
abbrev pub cards_of : UnitsState → List ℕ → Result UnitsState DeckFault
cards_of us text = text_of_unit us 16 text

-- the units with other lines to read from the typewriter
abbrev pub typewriter_of : UnitsState → List ℕ → Result UnitsState DeckFault
typewriter_of us text = text_of_unit us 19 text

-- what was read keeps to the room of its unit
abbrev pub room_of : UnitsState → Option ℕ → ℕ
room_of us None = 0
room_of us (Some n) = most_entries * block_length (unit_of us n).kind

pub record IsReading (r : Reading) : Type 0 where
  pub words : length r.words ≤ room_of r.units r.unit
  pub given : length r.given ≡ unit_count

-- What a step of the reading answers: the new state where it is accepted, and its fault where that refuses it. A step
-- that is out of memory promises nothing.
abbrev pub Gives : {X : Type 0} → Result X DeckKind → X → Result (Unit {0}) (Refused DeckKind) → Type 0
Gives expected x (Ok u) = expected ≡ Ok x
Gives expected x (Err (Fault k)) = expected ≡ Err k
Gives expected x (Err Memory) = Unit {0}

-- and what the whole reading says
abbrev pub Reads : Result UnitsState DeckFault → Result UnitsState (Refused DeckFault) → Type 0
Reads expected (Ok us) = expected ≡ Ok us
Reads expected (Err (Fault f)) = expected ≡ Err f
Reads expected (Err Memory) = Unit {0}
