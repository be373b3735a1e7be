-- What `show unit` writes of a unit: lines of bytes, in a form of this project's own.
use Rattle.std.specs.Prelude.{◌==◌, ℕ, ◌+◌, ◌/◌, ◌%◌, List, [], ◌∷◌, ◌++◌, codes, length, map, slice_index_or, flat_map, Some, None, if◌then◌else◌}
use Rattle.std.specs.Fmt.{decimal}
use Rattle.std.specs.List.{range_with_len}
use Rattle.mix_word.specs.Prelude.{character_of, sign_text}
use Rattle.mix_word.specs.Word.{WordValue, zero_word, bytes_of}
use Rattle.mix_machine.specs.Prelude.{WorldState, unit_at, kind_of, RowState, UnitState}
use Rattle.mix_machine.specs.declared.units.kind.UnitKind.{UnitKind}
use Rattle.mix_machine.specs.declared.units.kind.UnitKind.TheVariants.{Tape, Disk, CardReader, CardPunch, Printer, Typewriter, PaperTape}

-- a byte, in two digits
abbrev pub pair_text : ℕ → List ℕ
pair_text byte = (48 + byte / 10) ∷ (48 + byte % 10) ∷ []

-- a word as a deck has it, its sign and its five bytes: +0000000007
unfoldable pub deck_word_text : WordValue → List ℕ
deck_word_text word = sign_text word.sign ++ flat_map pair_text (bytes_of word)

-- what follows word j of a block, counted from 0: each fifth ends a line, and after the others there is a blank
abbrev pub text_after : ℕ → List ℕ
text_after j = if j % 5 == 4 then 10 ∷ [] else 32 ∷ []

-- word j of a block, and what follows it
abbrev pub block_word_text : List WordValue → ℕ → List ℕ
block_word_text words j = deck_word_text (slice_index_or words j zero_word) ++ text_after j

-- a block of a tape or a disk: lines of five words
abbrev pub block_text : List WordValue → List ℕ
block_text words = flat_map (block_word_text words) (range_with_len 0 (length words))

-- a word in characters, one a byte
unfoldable pub letters_text : WordValue → List ℕ
letters_text word = map character_of (bytes_of word)

-- words in characters, five a word
abbrev pub characters_text : List WordValue → List ℕ
characters_text words = flat_map letters_text words

-- a block that is read in characters
abbrev pub input_line : List WordValue → List ℕ
input_line words = codes "< " ++ characters_text words ++ 10 ∷ []

-- a row that was written, or the mark of a new page
abbrev pub row_line : RowState → List ℕ
row_line (Some words) = codes "> " ++ characters_text words ++ 10 ∷ []
row_line None = codes "> %PAGE" ++ 10 ∷ []

-- what a unit holds: the blocks that it reads, and then the rows that it wrote
abbrev pub contents_text : UnitKind → UnitState → List ℕ
contents_text Tape u = flat_map block_text u.blocks
contents_text Disk u = flat_map block_text u.blocks
contents_text CardReader u = flat_map input_line u.blocks
contents_text CardPunch u = flat_map row_line u.rows
contents_text Printer u = flat_map row_line u.rows
contents_text Typewriter u = flat_map input_line u.blocks ++ flat_map row_line u.rows
contents_text PaperTape u = flat_map input_line u.blocks ++ flat_map row_line u.rows

-- the place of the next block, and how many blocks and rows there are
unfoldable pub counts_text : UnitState → List ℕ
counts_text u = codes "place " ++ decimal u.place ++ codes " blocks " ++ decimal (length u.blocks) ++ codes " output " ++ decimal (length u.rows)

-- the delay and the time until which the last transfer takes; nothing of a unit that has no delay
abbrev pub times_text : UnitState → List ℕ
times_text u = if u.delay == 0 then [] else codes " delay " ++ decimal u.delay ++ codes " until " ++ decimal u.until

-- the line of a unit
unfoldable pub unit_line : ℕ → UnitState → List ℕ
unit_line n u = codes "unit " ++ decimal n ++ codes " " ++ counts_text u ++ times_text u ++ 10 ∷ []

-- the reply of `show unit`
unfoldable pub unit_text : WorldState → ℕ → List ℕ
unit_text w n =
    let u = unit_at w n in
    unit_line n u ++ contents_text (kind_of n) u
