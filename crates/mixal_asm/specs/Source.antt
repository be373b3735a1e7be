-- What a program tells of its source (1.3.2): of a place its line, whether that is an instruction's, of a line its cell, of a
-- symbol the line that defines it, and the symbols.
use Rattle.std.specs.Prelude.{ℕ, nat_eq, nat_le, Bool, true, false, List, slice_get, Option, Some, None, Result, Ok, Err, if◌then◌else◌}
use Rattle.std.specs.Option.{option_map}
use Rattle.std.specs.List.{filter_map, last_or}
use Rattle.std.specs.Map.{lookup}
use Rattle.std.specs.Str.{bytes_eq}
use Rattle.mix_word.specs.Word.{WordValue}
use Rattle.mixal_text.specs.declared.misread.Misread.{Misread}
use Rattle.mixal_text.specs.declared.label.Label.{Label}
use Rattle.mixal_text.specs.declared.label.Label.TheVariants as label
use Rattle.mixal_text.specs.declared.op.Op.{Op}
use Rattle.mixal_text.specs.declared.op.Op.TheVariants.{Machine}
use Rattle.mixal_text.specs.Line.{LineValue, Remark, Code, line_of}
use Rattle.mixal_asm.specs.declared.key.Key.{Key}
use Rattle.mixal_asm.specs.declared.key.Key.TheVariants.{Name, Local, Literal}
use Rattle.mixal_asm.specs.declared.row.Shows.{Shows}
use Rattle.mixal_asm.specs.declared.row.Shows.TheVariants.{Word}
use Rattle.mixal_asm.specs.PassOne.{NamesSoFar, SourceValue, Line, OfLiteral, OfName, RowValue}
use Rattle.mixal_asm.specs.Program.{ProgramValue}

-- the place of the word that a row shows, by the words with their places
abbrev pub place_of : List (ℕ × WordValue) → Shows → Option ℕ
place_of words (Word i) = option_map (λ word. word.0) (slice_get words i)
place_of words _ = None

-- ---- of a place its line: that of the last word there

abbrev pub is_that : ℕ → Option ℕ → Bool
is_that place None = false
is_that place (Some other) = nat_eq other place

-- where a row's word comes from, if it stands at this place
abbrev pub source_in : List (ℕ × WordValue) → ℕ → RowValue → Option SourceValue
source_in words place row = if is_that place (place_of words row.shown) then Some row.source else None

abbrev pub source_at : ProgramValue → ℕ → Option SourceValue
source_at program place = last_or None (filter_map (source_in program.words place) program.rows)

-- a word, if it was put at this place
abbrev pub word_in : ℕ → ℕ × WordValue → Option WordValue
word_in place word = if nat_eq word.0 place then Some word.1 else None

-- the last word that was put at a place
abbrev pub word_at : ProgramValue → ℕ → Option WordValue
word_at program place = last_or None (filter_map (word_in place) program.words)

-- ---- whether a line is an instruction's: its OP is a symbolic operation of MIX, and no pseudo-operation

abbrev pub is_machine : Op → Bool
is_machine (Machine code f) = true
is_machine _ = false

-- what a line says, if it is an instruction: a remark is none, and neither is a line with a fault
abbrev pub says_instruction : LineValue → Bool
says_instruction Remark = false
says_instruction (Code loc op address) = is_machine op

abbrev pub is_instruction_read : Result LineValue Misread → Bool
is_instruction_read (Ok line) = says_instruction line
is_instruction_read (Err fault) = false

-- a line of the source by its text; what is inserted before END is a constant
abbrev pub is_instruction : SourceValue → Bool
is_instruction (Line number text) = is_instruction_read (line_of text)
is_instruction (OfLiteral text) = false
is_instruction (OfName symbol) = false

-- ---- of a line its cell: that of the first word of the lines of the source from this one on

abbrev pub is_from : ℕ → SourceValue → Bool
is_from number (Line n text) = nat_le number n
is_from number (OfLiteral text) = false
is_from number (OfName symbol) = false

-- the place of a row's word, if it is of a line from this one on
abbrev pub place_in : List (ℕ × WordValue) → ℕ → RowValue → Option ℕ
place_in words number row = if is_from number row.source then place_of words row.shown else None

abbrev pub cell_from : ProgramValue → ℕ → Option ℕ
cell_from program number = slice_get (filter_map (place_in program.words number) program.rows) 0

-- ---- of a symbol the line that defines it: the line of the source whose LOC it is, of which there is at most one. A symbol that
-- no LOC defines has none, since the line that is inserted for it is none of the source

-- the symbol that a LOC is, if it is one
abbrev pub symbol_of_loc : Option Label → Option (List ℕ)
symbol_of_loc None = None
symbol_of_loc (Some (label.Name symbol)) = Some symbol
symbol_of_loc (Some (label.Local d)) = None

-- the symbol that a line defines, if it defines one: a remark defines none, and neither does a line with a fault
abbrev pub symbol_of_line : LineValue → Option (List ℕ)
symbol_of_line Remark = None
symbol_of_line (Code loc op address) = symbol_of_loc loc

abbrev pub symbol_of_read : Result LineValue Misread → Option (List ℕ)
symbol_of_read (Ok line) = symbol_of_line line
symbol_of_read (Err fault) = None

-- a line of the source that defines a symbol, by the symbol and its number
abbrev pub definition_in : SourceValue → Option (List ℕ × ℕ)
definition_in (Line number text) = option_map (λ symbol. (symbol, number)) (symbol_of_read (line_of text))
definition_in (OfLiteral text) = None
definition_in (OfName symbol) = None

-- the symbols that lines of the source define, each with its line
abbrev pub definitions_in : List RowValue → List (List ℕ × ℕ)
definitions_in rows = filter_map (λ row. definition_in row.source) rows

abbrev pub line_defining : ProgramValue → List ℕ → Option ℕ
line_defining program symbol = lookup (bytes_eq symbol) (definitions_in program.rows)

-- ---- the symbols with their values, in the order in which they got them: local ones and literals are none

abbrev pub symbol_in : Key → WordValue → Option (List ℕ × WordValue)
symbol_in (Name symbol) value = Some (symbol, value)
symbol_in (Local d n) value = None
symbol_in (Literal j) value = None

abbrev pub symbols_of : NamesSoFar → List (List ℕ × WordValue)
symbols_of names = filter_map (λ name. symbol_in name.0 name.1) names
