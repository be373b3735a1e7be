-- Where in a line its parts stand, and which bytes of a part are at fault (1.3.2).
use Rattle.std.specs.Prelude.{ℕ, ◌+◌, ◌-◌, nat_lt, nat_le, Bool, not, ◌||◌, List, [], ◌∷◌, length, take, drop, is_none, Result, Ok, if◌then◌else◌}
use Rattle.std.specs.List.{before_first, after_first, position_or_len}
use Rattle.mix_word.specs.Characters.{character_code}
use Rattle.mix_lines.specs.Lines.{is_blank}
use Rattle.mixal_text.specs.declared.fault.TextFault.{TextFault}
use Rattle.mixal_text.specs.declared.fault.TextFault.TheVariants.{BadByte}
use Rattle.mixal_text.specs.declared.op.Mnemonic.{Mnemonic}
use Rattle.mixal_text.specs.declared.op.Mnemonic.TheVariants.{Machine, Alf}
use Rattle.mixal_text.specs.declared.misread.Span.{Span}
use Rattle.mixal_text.specs.declared.misread.Misread.{Misread}
use Rattle.mixal_text.specs.declared.parts.Part.{Part}
use Rattle.mixal_text.specs.declared.parts.Part.TheVariants as part
use Rattle.mixal_text.specs.Words.{after_blanks, first_word, after_word}
use Rattle.mixal_text.specs.Alf.{is_quote, alf_start}
use Rattle.mixal_text.specs.Op.{op_of, address_after}
use Rattle.mixal_text.specs.Part.{is_open, is_close}
use Rattle.mixal_text.specs.WrittenF.{after_a_part}

-- where a part of a text stands that begins what is left of the text
abbrev pub span_in : List ℕ → List ℕ → List ℕ → Span
span_in text rest piece =
    record { from = length text - length rest; to = length text - length rest + length piece }

-- ---- the parts of a line

abbrev pub label_span : List ℕ → Span
label_span text = span_in text text (before_first is_blank text)

abbrev pub operation_span : List ℕ → Span
operation_span text =
    span_in text (after_blanks (after_first is_blank text)) (first_word (after_first is_blank text))

-- what ALF takes its characters from, by what stands after the blank that ends OP: a quotation, or the rest of the line
abbrev pub alf_text : List ℕ → List ℕ → List ℕ
alf_text [] rest = alf_start rest
alf_text (first ∷ text) rest = if is_quote first then text else alf_start rest

-- the characters: up to the next quotation mark, or five
abbrev pub alf_piece : List ℕ → List ℕ → List ℕ
alf_piece [] rest = take 5 (alf_start rest)
alf_piece (first ∷ text) rest = if is_quote first then before_first is_quote text else take 5 (alf_start rest)

-- an ADDRESS, by what stands after the blank that ends OP. Where it is left out, or a remark stands in its place, its span
-- is empty; after a name of no operation it is the next word
unfoldable pub address_span_by : Result Mnemonic TextFault → List ℕ → List ℕ → Span
address_span_by (Ok (Machine operation)) text rest = span_in text (after_blanks rest) (address_after operation rest)
address_span_by (Ok Alf) text rest =
    span_in text (alf_text (after_blanks rest) rest) (alf_piece (after_blanks rest) rest)
address_span_by _ text rest = span_in text (after_blanks rest) (first_word rest)

unfoldable pub address_span : List ℕ → Span
address_span text =
    address_span_by (op_of (first_word (after_first is_blank text))) text (after_word (after_first is_blank text))

-- the bytes of a span
abbrev pub piece_at : List ℕ → Span → List ℕ
piece_at text span = take (span.to - span.from) (drop span.from text)

-- the A-part, with which an ADDRESS begins
abbrev pub a_part_span : List ℕ → Span → Span
a_part_span text at = record { from = at.from; to = at.to - length (after_a_part (piece_at text at)) }

-- what follows the opening bracket of an ADDRESS
abbrev pub after_open : List ℕ → List ℕ
after_open address = after_first is_open (after_a_part address)

-- F without its brackets
abbrev pub f_span : List ℕ → Span → Span
f_span text at =
    record {
      from = at.to - length (after_open (piece_at text at));
      to = at.to - length (after_open (piece_at text at)) + length (before_first is_close (after_open (piece_at text at)));
    }

-- from one part to another, if that is not empty
abbrev pub joined : Span → Span → Span
joined first second = if nat_lt second.from second.to then record { from = first.from; to = second.to } else first

unfoldable pub part_span : List ℕ → Part → Span
part_span text part.Label = label_span text
part_span text part.Operation = operation_span text
part_span text part.Address = address_span text
part_span text part.APart = a_part_span text (address_span text)
part_span text part.FPart = f_span text (address_span text)
part_span text part.Statement = joined (operation_span text) (address_span text)

-- ---- the bytes at fault in a part

-- neither a MIX character nor a tab
abbrev pub is_bad : ℕ → Bool
is_bad byte = not (is_blank byte || not (is_none (character_code byte)))

-- no byte that continues a character of several bytes in UTF-8
abbrev pub is_new : ℕ → Bool
is_new byte = nat_lt byte 128 || nat_le 192 byte

-- how many bytes the character has that begins a text
abbrev pub character_length : List ℕ → ℕ
character_length [] = 0
character_length (byte ∷ rest) = 1 + position_or_len is_new rest

-- the character that begins at a place
abbrev pub character_span : List ℕ → ℕ → Span
character_span text at = record { from = at; to = at + character_length (drop at text) }

-- the first bad byte of a span, with the bytes that continue its character
abbrev pub bad_span : List ℕ → Span → Span
bad_span text span =
    character_span text (span.from + position_or_len is_bad (take (span.to - span.from) (drop span.from text)))

-- a bad byte is marked alone, and any other fault in its whole part
abbrev pub narrowed : List ℕ → TextFault → Span → Span
narrowed text BadByte span = bad_span text span
narrowed text _ span = span

-- a fault of a part of a line
abbrev pub part_misread : List ℕ → Part → TextFault → Misread
part_misread text p fault = record { fault = fault; at = narrowed text fault (part_span text p) }
