-- The first pass (1.3.2): what the lines before a line give, and what a line adds to it, or why it is refused.
use Rattle.std.specs.Prelude.{ℕ, ◌+◌, ◌&&◌, nat_lt, nat_le, Bool, false, List, [], ◌∷◌, ◌++◌, length, fold, count_by, is_some, Option, Some, None, option_and_then, ok_or, Result, Ok, Err, if◌then◌else◌}
use Rattle.std.specs.List.{list_any}
use Rattle.std.specs.Map.{lookup}
use Rattle.mix_word.specs.declared.word.Sign.TheVariants.{Plus}
use Rattle.mix_word.specs.Word.{WordValue, plus, natural_of, word_of_parts, parts_of}
use Rattle.mixal_text.specs.Prelude.{misread, part_span, ◌>>=◌, NamesValue, up_to, w_value_of}
use Rattle.mixal_text.specs.declared.misread.Misread.{Misread}
use Rattle.mixal_text.specs.declared.label.Label.{Label}
use Rattle.mixal_text.specs.declared.parts.Part.TheVariants as part
use Rattle.mixal_text.specs.declared.label.Label.TheVariants as label
use Rattle.mixal_text.specs.Address.{APartValue, Value, Name, Ahead, Literal, OperandValue, address_of}
use Rattle.mixal_asm.specs.declared.fault.AsmKind.{AsmKind}
use Rattle.mixal_asm.specs.declared.fault.AsmKind.TheVariants.{Text, AddressTooLarge, LocationOutOfRange}
use Rattle.mixal_asm.specs.declared.key.Key.{Key}
use Rattle.mixal_asm.specs.declared.key.Key.TheVariants as key
use Rattle.mixal_asm.specs.declared.words.Emitted.{Emitted}
use Rattle.mixal_asm.specs.declared.row.Shows.{Shows}
use Rattle.mixal_asm.specs.declared.row.Shows.TheVariants as shows
use Rattle.mixal_asm.specs.Key.{same_key, is_local}

-- ---- what the lines before a line give

-- names and their values, in the order in which they got them
abbrev pub NamesSoFar : Type 0
NamesSoFar = List (Key × WordValue)

-- where a row of the listing comes from: a line of the source by its number, a literal, or an undefined name
pub data SourceValue : Type 0 where
  Line : ℕ → List ℕ → SourceValue
  OfLiteral : List ℕ → SourceValue
  OfName : List ℕ → SourceValue

-- a row of the listing, and what it shows of it
pub record RowValue : Type 0 where
  pub source : SourceValue
  pub shown : Shows

pub record Before : Type 0 where
  -- the location, for which the asterisk stands: 0 to 4000
  pub here : ℕ
  pub names : NamesSoFar
  -- the words, in the order of their lines
  pub emitted : List Emitted
  -- the texts of the literals, in the order of their use
  pub literals : List (List ℕ)
  -- a row for each line
  pub rows : List RowValue

abbrev pub at_first : Before
at_first = record { here = 0; names = []; emitted = []; literals = []; rows = [] }

-- ---- names

-- the value of a name that has one
abbrev pub value_of : NamesSoFar → Key → Option WordValue
value_of names name = lookup (same_key name) names

abbrev pub is_defined : NamesSoFar → Key → Bool
is_defined names name = is_some (value_of names name)

-- how many dH there are
abbrev pub locals_in : ℕ → NamesSoFar → ℕ
locals_in d names = count_by (λ name. is_local d name.0) names

-- the value of dB: that of the last dH
abbrev pub back_of : NamesSoFar → ℕ → Option WordValue
back_of names d = fold (λ found name. if is_local d name.0 then Some name.1 else found) None names

-- the name that a LOC defines: of dH it is the next one
abbrev pub name_of : NamesSoFar → Label → Key
name_of names (label.Name symbol) = key.Name symbol
name_of names (label.Local d) = key.Local d (locals_in d names)

-- whether a LOC is a symbol that has a value already
abbrev pub is_taken : NamesSoFar → Option Label → Bool
is_taken names None = false
is_taken names (Some (label.Name symbol)) = is_defined names (key.Name symbol)
is_taken names (Some (label.Local d)) = false

-- what names mean in the ADDRESS of a line: a symbol is known from its own line on, a dH only after it
abbrev pub names_at : NamesSoFar → NamesSoFar → NamesValue
names_at earlier names = record { value = λ symbol. value_of names (key.Name symbol); back = back_of earlier }

-- ---- the two steps of which lines are made: a name gets a value, a word is emitted

-- whether a word waits for a name
abbrev pub waits_for : Key → Option Key → Bool
waits_for name None = false
waits_for name (Some awaited) = same_key name awaited

abbrev pub is_awaited : Key → List Emitted → Bool
is_awaited name emitted = list_any (λ word. waits_for name word.awaits) emitted

-- a name that gets a value. As an address it has to fit two bytes if a word waits for it
abbrev pub with_name : Before → Key → WordValue → Result Before AsmKind
with_name b name value =
    if is_awaited name b.emitted && nat_le 4096 value.magnitude then Err AddressTooLarge
    else Ok (record b { names = b.names ++ (name, value) ∷ [] })

-- what a LOC does where the line gives it a value
abbrev pub with_loc : Before → Option Label → WordValue → Result Before AsmKind
with_loc b None value = Ok b
with_loc b (Some loc) value = with_name b (name_of b.names loc) value

-- a word at the location, if there is a cell for it, and the name that it waits for, if its address is not known yet
abbrev pub with_word : Before → WordValue → Option Key → Result Before AsmKind
with_word b word awaits =
    if nat_lt b.here 4000
    then Ok (record b { here = b.here + 1; emitted = b.emitted ++ record { place = b.here; word = word; awaits = awaits } ∷ [] })
    else Err LocationOutOfRange

-- a row of the listing
abbrev pub with_row : Before → SourceValue → Shows → Before
with_row b source shown = record b { rows = b.rows ++ record { source = source; shown = shown } ∷ [] }

-- the row of a line of the source
abbrev pub with_line : Before → ℕ → List ℕ → Shows → Before
with_line b number text shown = with_row b (Line number text) shown

-- the number of the next line, where only lines of the source stand before it
abbrev pub number_after : Before → ℕ
number_after b = length b.rows + 1

-- ---- instructions

-- a fault of a line's text
abbrev pub of_text : {A : Type 0} → Result A Misread → Result A AsmKind
of_text (Ok x) = Ok x
of_text (Err misread) = Err (Text misread)

-- a fault of the ADDRESS of a line, whose bytes are counted from the beginning of the line
abbrev pub in_line : List ℕ → Misread → Misread
in_line line m =
    misread m.fault ((part_span line part.Address).from + m.at.from) ((part_span line part.Address).from + m.at.to)

abbrev pub of_address : {A : Type 0} → List ℕ → Result A Misread → Result A AsmKind
of_address line (Ok x) = Ok x
of_address line (Err m) = Err (Text (in_line line m))

-- an instruction whose address is +0 so far
abbrev pub instruction : ℕ → OperandValue → WordValue
instruction code operand =
    word_of_parts record { sign = Plus; address = 0; index = operand.index; f = operand.f; code = code }

-- an instruction with this address
abbrev pub with_address : WordValue → WordValue → WordValue
with_address word value = word_of_parts (record (parts_of word) { sign = value.sign; address = value.magnitude })

-- an instruction by its A-part. A literal is used once: its place is waited for
abbrev pub with_instruction : Before → WordValue → APartValue → Result Before AsmKind
with_instruction b word (Value value) =
    if nat_le 4096 value.magnitude then Err AddressTooLarge else with_word b (with_address word value) None
with_instruction b word (Name symbol) = with_word b word (Some (key.Name symbol))
with_instruction b word (Ahead d) = with_word b word (Some (key.Local d (locals_in d b.names)))
with_instruction b word (Literal text) =
    with_word (record b { literals = b.literals ++ text ∷ [] }) word (Some (key.Literal (length b.literals)))

-- ---- the lines, by OP. LOC gets the location before ADDRESS is read, but after EQU its value

-- an instruction
unfoldable pub machine_line : Before → List ℕ → Option Label → ℕ → ℕ → List ℕ → Result Before AsmKind
machine_line b text loc code f address = do
  named ← with_loc b loc (plus b.here)
  operand ← of_address text (address_of (names_at b.names named.names) (plus named.here) f address)
  next ← with_instruction named (instruction code operand) operand.a
  Ok (with_line next (number_after b) text (shows.Word (length b.emitted)))

unfoldable pub equ_line : Before → List ℕ → Option Label → List ℕ → Result Before AsmKind
equ_line b text loc address = do
  value ← of_address text (w_value_of (names_at b.names b.names) (plus b.here) address)
  named ← with_loc b loc value
  Ok (with_line named (number_after b) text (shows.Value value))

-- the location that ORIG sets
abbrev pub location_of : WordValue → Result ℕ AsmKind
location_of value = ok_or (option_and_then (up_to 4000) (natural_of value)) LocationOutOfRange

unfoldable pub orig_line : Before → List ℕ → Option Label → List ℕ → Result Before AsmKind
orig_line b text loc address = do
  named ← with_loc b loc (plus b.here)
  value ← of_address text (w_value_of (names_at b.names named.names) (plus named.here) address)
  here ← location_of value
  Ok (with_line (record named { here = here }) (number_after b) text shows.Nothing)

unfoldable pub con_line : Before → List ℕ → Option Label → List ℕ → Result Before AsmKind
con_line b text loc address = do
  named ← with_loc b loc (plus b.here)
  value ← of_address text (w_value_of (names_at b.names named.names) (plus named.here) address)
  next ← with_word named value None
  Ok (with_line next (number_after b) text (shows.Word (length b.emitted)))

unfoldable pub alf_line : Before → List ℕ → Option Label → WordValue → Result Before AsmKind
alf_line b text loc word = do
  named ← with_loc b loc (plus b.here)
  next ← with_word named word None
  Ok (with_line next (number_after b) text (shows.Word (length b.emitted)))
