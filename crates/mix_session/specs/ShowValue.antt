-- What `show value` writes: a word as its bytes, as its number and in characters.
use Rattle.std.specs.Prelude.{ℕ, ◌+◌, List, [], ◌∷◌, ◌++◌, codes, flat_map}
use Rattle.mix_word.specs.Prelude.{WordValue, byte_of, location_text, word_text, short_text, character_of, number_text, all_registers, name_of_register}
use Rattle.mix_word.specs.declared.register.Reg.{Reg}
use Rattle.mix_machine.specs.World.{WorldState, register_of, cell_of}
use Rattle.mix_session.specs.Columns.{left_in, right_in}
use Rattle.mix_session.specs.Each.{texts}
use Rattle.mix_session.specs.Show.{by_width}
use Rattle.mix_session.specs.ShowUnit.{letters_text}

-- the bytes left in their places, the number right in its places, and the characters in quotes
unfoldable pub columns_text : List ℕ → WordValue → List ℕ → List ℕ
columns_text bytes word letters =
    left_in 16 bytes ++ codes " " ++ right_in 11 (number_text word) ++ codes "  \"" ++ letters ++ codes "\"" ++ 10 ∷ []

-- a word of five bytes
abbrev pub value_line : WordValue → List ℕ
value_line word = columns_text (word_text word) word (letters_text word)

-- the characters of the two bytes of an index register
abbrev pub short_letters : WordValue → List ℕ
short_letters word = character_of (byte_of word 4) ∷ character_of (byte_of word 5) ∷ []

-- a word of two bytes
abbrev pub short_line : WordValue → List ℕ
short_line word = columns_text (short_text word) word (short_letters word)

-- what a register holds
abbrev pub register_columns : Reg → WordValue → List ℕ
register_columns r word = by_width r (value_line word) (short_line word)

-- a register, by its name left in two places and a blank
abbrev pub register_values : WorldState → Reg → List ℕ
register_values w r = left_in 2 (name_of_register r) ++ codes " " ++ register_columns r (register_of w r)

-- a cell, by its location
abbrev pub cell_values : WorldState → ℕ → List ℕ
cell_values w p = location_text p ++ codes " " ++ value_line (cell_of w p)

-- the reply of `show values`, of the registers
abbrev pub values_text : WorldState → List ℕ
values_text w = flat_map (register_values w) all_registers

-- and of cells
abbrev pub cell_values_text : WorldState → ℕ → ℕ → List ℕ
cell_values_text w first last = texts (cell_values w) first (last + 1)
