-- The second pass (1.3.2): what END does, the finished words, and a source as a program or its first fault.
use Rattle.std.specs.Prelude.{ℕ, ◌+◌, ◌%◌, ◌^◌, ◌&&◌, ◌||◌, nat_lt, nat_le, Bool, true, false, not, List, [], ◌∷◌, ◌++◌, length, map, fold, count_by, Option, Some, None, Result, Ok, Err, if◌then◌else◌}
use Rattle.std.specs.List.{find, list_any}
use Rattle.std.specs.Str.{bytes_eq}
use Rattle.mix_word.specs.Word.{WordValue, plus, zero_word}
use Rattle.mix_lines.specs.Lines.{lines}
use Rattle.mixal_text.specs.declared.fault.TextFault.TheVariants.{NoSuchLocalSymbol}
use Rattle.mixal_text.specs.Prelude.{misread, ◌>>=◌, NamesValue, w_value_of}
use Rattle.mixal_text.specs.declared.misread.Misread.{Misread}
use Rattle.mixal_text.specs.declared.label.Label.{Label}
use Rattle.mixal_text.specs.declared.label.Label.TheVariants as label
use Rattle.mixal_text.specs.declared.op.Op.{Op}
use Rattle.mixal_text.specs.declared.op.Op.TheVariants.{Machine, Equ, Orig, Con, Alf, End}
use Rattle.mixal_text.specs.Line.{LineValue, Remark, Code, line_of}
use Rattle.mixal_asm.specs.declared.fault.AsmKind.{AsmKind}
use Rattle.mixal_asm.specs.declared.fault.AsmKind.TheVariants.{DefinedTwice, NoEnd, StartOutOfRange, SourceTooLong}
use Rattle.mixal_asm.specs.declared.fault.AsmFault.{AsmFault}
use Rattle.mixal_asm.specs.declared.key.Key.{Key}
use Rattle.mixal_asm.specs.declared.key.Key.TheVariants.{Name, Local, Literal}
use Rattle.mixal_asm.specs.declared.words.Emitted.{Emitted}
use Rattle.mixal_asm.specs.declared.row.Shows.TheVariants as shows
use Rattle.mixal_asm.specs.Key.{same_key}
use Rattle.mixal_asm.specs.Place.{kind_span}
use Rattle.mixal_asm.specs.Program.{ProgramValue}
use Rattle.mixal_asm.specs.User.{after_equals, at_use}
use Rattle.mixal_asm.specs.PassOne.{Before, NamesSoFar, OfLiteral, OfName, at_first, value_of, is_defined, name_of, is_taken, names_at, with_name, with_loc, with_word, with_row, with_line, number_after, of_text, of_address, with_address, machine_line, equ_line, orig_line, con_line, alf_line}

-- ---- the lines that are inserted before END

-- a fault of the literal of this number, at the line that uses it
abbrev pub of_literal : {A : Type 0} → Before → ℕ → Result A Misread → Result A AsmKind
of_literal b j (Ok x) = Ok x
of_literal b j (Err m) = Err (at_use b (Literal j) (after_equals m))

-- a literal, as a CON line at the location
abbrev pub literal_line : Before → ℕ → List ℕ → Result Before AsmKind
literal_line b j text = do
  value ← of_literal b j (w_value_of (names_at b.names b.names) (plus b.here) text)
  placed ← with_name b (Literal j) (plus b.here)
  next ← with_word placed value None
  Ok (with_row next (OfLiteral text) (shows.Word (length b.emitted)))

-- all literals in the order of their use, the first of which has this number
abbrev pub literal_lines : Before → ℕ → List (List ℕ) → Result Before AsmKind
literal_lines b j [] = Ok b
literal_lines b j (text ∷ more) = do
  next ← literal_line b j text
  literal_lines next (j + 1) more

-- the names that words wait for, each once, in the order of first use
abbrev pub with_use : List Key → Option Key → List Key
with_use uses None = uses
with_use uses (Some name) = if list_any (same_key name) uses then uses else uses ++ name ∷ []

abbrev pub first_uses : List Emitted → List Key
first_uses emitted = fold (λ uses word. with_use uses word.awaits) [] emitted

-- an undefined symbol, as a line NAME CON 0 at the location
abbrev pub zero_line : Before → List ℕ → Result Before AsmKind
zero_line b symbol = do
  named ← with_name b (Name symbol) (plus b.here)
  next ← with_word named zero_word None
  Ok (with_row next (OfName symbol) (shows.Word (length b.emitted)))

-- whether a symbol is the LOC of END
abbrev pub is_own : Option Label → List ℕ → Bool
is_own None symbol = false
is_own (Some (label.Name name)) symbol = bytes_eq name symbol
is_own (Some (label.Local d)) symbol = false

-- a symbol that was used and that no LOC defines, that of END included, gets its line
abbrev pub zero_line_for : Option Label → Before → Key → Result Before AsmKind
zero_line_for loc b (Name symbol) = if is_defined b.names (Name symbol) || is_own loc symbol then Ok b else zero_line b symbol
zero_line_for loc b (Local d n) = Ok b
zero_line_for loc b (Literal j) = Ok b

abbrev pub zero_lines : Option Label → Before → List Key → Result Before AsmKind
zero_lines loc b [] = Ok b
zero_lines loc b (name ∷ more) = do
  next ← zero_line_for loc b name
  zero_lines loc next more

-- ---- END

-- whether a name is the LOC of END
abbrev pub is_label : NamesSoFar → Option Label → Key → Bool
is_label names None name = false
is_label names (Some loc) name = same_key (name_of names loc) name

-- whether a dF meets no dH, that of END included
abbrev pub is_unmet : NamesSoFar → Option Label → Key → Bool
is_unmet names loc (Name symbol) = false
is_unmet names loc (Local d n) = not (is_defined names (Local d n)) && not (is_label names loc (Local d n))
is_unmet names loc (Literal j) = false

-- the first one, in the order of first use
abbrev pub first_unmet : Before → Option Label → Option Key
first_unmet b loc = find (is_unmet b.names loc) (first_uses b.emitted)

-- it is at fault, where it is used first
abbrev pub met : Before → Option Key → Result Before AsmKind
met b None = Ok b
met b (Some name) = Err (at_use b name (misread NoSuchLocalSymbol 0 2))

-- the value of the ADDRESS of END, which is 0 where it is left out
abbrev pub end_value : NamesValue → WordValue → List ℕ → List ℕ → Result WordValue AsmKind
end_value names here line [] = Ok zero_word
end_value names here line (byte ∷ rest) = of_address line (w_value_of names here (byte ∷ rest))

-- the start: field (4:5) of that value
abbrev pub start_of : WordValue → Result ℕ AsmKind
start_of value = if nat_lt (value.magnitude % 64 ^ 2) 4000 then Ok (value.magnitude % 64 ^ 2) else Err StartOutOfRange

-- ---- the finished words

-- a word by the finished map of names
abbrev pub with_value : WordValue → Option WordValue → WordValue
with_value word None = word
with_value word (Some value) = with_address word value

abbrev pub finished_word : NamesSoFar → WordValue → Option Key → WordValue
finished_word names word None = word
finished_word names word (Some name) = with_value word (value_of names name)

abbrev pub words_of : NamesSoFar → List Emitted → List (ℕ × WordValue)
words_of names emitted = map (λ word. (word.place, finished_word names word.word word.awaits)) emitted

-- whether a word has a future reference: a literal is none
abbrev pub is_reference : Option Key → Bool
is_reference None = false
is_reference (Some (Name symbol)) = true
is_reference (Some (Local d n)) = true
is_reference (Some (Literal j)) = false

-- how many future references there are
abbrev pub references_in : List Emitted → ℕ
references_in emitted = count_by (λ word. is_reference word.awaits) emitted

-- how many of them no line has defined yet
abbrev pub is_waiting : NamesSoFar → Option Key → Bool
is_waiting names None = false
is_waiting names (Some name) = is_reference (Some name) && not (is_defined names name)

abbrev pub waiting_in : Before → ℕ
waiting_in b = count_by (λ word. is_waiting b.names word.awaits) b.emitted

abbrev pub program_at : Before → ℕ → ProgramValue
program_at b start =
    record {
      words = words_of b.names b.emitted;
      start = start;
      names = b.names;
      rows = b.rows;
      patches = references_in b.emitted;
    }

-- the lines inserted before END: the literals, and then the undefined symbols
unfoldable pub inserted : Option Label → Before → Result Before AsmKind
inserted loc b = do
  placed ← literal_lines b 0 b.literals
  zero_lines loc placed (first_uses b.emitted)

-- what END does with its LOC and its ADDRESS, where those lines stand before it
unfoldable pub ended : Before → ℕ → List ℕ → Option Label → List ℕ → Result ProgramValue AsmKind
ended b number text loc address = do
  all ← met b (first_unmet b loc)
  named ← with_loc all loc (plus all.here)
  value ← end_value (names_at all.names named.names) (plus named.here) text address
  start ← start_of value
  Ok (program_at (with_line named number text shows.Start) start)

unfoldable pub end_line : Before → List ℕ → Option Label → List ℕ → Result ProgramValue AsmKind
end_line b text loc address = do
  whole ← inserted loc b
  ended whole (number_after b) text loc address

-- ---- a line, and a source

-- what a line gives: what stands before the next one or, at END, the program
pub data Answer : Type 0 where
  More : Before → Answer
  Done : ProgramValue → Answer

abbrev pub more : Result Before AsmKind → Result Answer AsmKind
more (Ok b) = Ok (More b)
more (Err kind) = Err kind

abbrev pub done : Result ProgramValue AsmKind → Result Answer AsmKind
done (Ok program) = Ok (Done program)
done (Err kind) = Err kind

-- a line by its OP
abbrev pub answer_of_op : Before → List ℕ → Option Label → Op → List ℕ → Result Answer AsmKind
answer_of_op b text loc (Machine code f) address = more (machine_line b text loc code f address)
answer_of_op b text loc Equ address = more (equ_line b text loc address)
answer_of_op b text loc Orig address = more (orig_line b text loc address)
answer_of_op b text loc Con address = more (con_line b text loc address)
answer_of_op b text loc (Alf word) address = more (alf_line b text loc word)
answer_of_op b text loc End address = done (end_line b text loc address)

-- a line that was read. A symbol is defined once
abbrev pub answer_of_line : Before → List ℕ → LineValue → Result Answer AsmKind
answer_of_line b text Remark = Ok (More (with_line b (number_after b) text shows.Nothing))
answer_of_line b text (Code loc code address) =
    if is_taken b.names loc then Err DefinedTwice else answer_of_op b text loc code address

-- how many lines and how many bytes a source may have
abbrev pub max_lines : ℕ
max_lines = 20000

abbrev pub max_source_bytes : ℕ
max_source_bytes = 1048576

-- a line without its line end, by what the lines before it give
unfoldable pub answer_of : Before → List ℕ → Result Answer AsmKind
answer_of b text =
    if nat_le max_lines (length b.rows) then Err SourceTooLong
    else (do
      line ← of_text (line_of text)
      answer_of_line b text line)

-- a fault at a line, at the bytes that it is about
abbrev pub fault_at : ℕ → List ℕ → AsmKind → Result ProgramValue AsmFault
fault_at number text kind = Err (record { line = number; at = kind_span text kind; kind = kind })

-- a line's answer, and what the lines after it give
abbrev pub program_after : ℕ → List ℕ → Result Answer AsmKind → (Before → Result ProgramValue AsmFault) → Result ProgramValue AsmFault
program_after number text (Err kind) rest = fault_at number text kind
program_after number text (Ok (Done program)) rest = Ok program
program_after number text (Ok (More b)) rest = rest b

abbrev pub program_from : Before → List (List ℕ) → Result ProgramValue AsmFault
program_from b [] = fault_at (number_after b) [] NoEnd
program_from b (text ∷ more) = program_after (number_after b) text (answer_of b text) (λ next. program_from next more)

-- a source as a program, or its first fault. What follows END is ignored
unfoldable pub assembly : List ℕ → Result ProgramValue AsmFault
assembly source =
    if nat_lt max_source_bytes (length source) then fault_at 1 [] SourceTooLong
    else program_from at_first (lines source)
