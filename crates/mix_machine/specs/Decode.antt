-- The instruction at the location and what it gives to its operation: I, M and F (1.3.1, "Instruction format").
use Rattle.std.specs.Prelude.{ℕ, Bool, ◌&&◌, nat_lt, unwrap_or}
use Rattle.std.specs.Option.{is_some}
use Rattle.mix_word.specs.Prelude.{WordValue, word, parts_of, is_natural, sum_of, FieldValue, field, field_of, field_value_of, decode_of}
use Rattle.mix_word.specs.declared.decoding.Decoded.{Decoded}
use Rattle.mix_word.specs.declared.word.Parts.{Parts}
use Rattle.mix_machine.specs.Registers.{index_in}
use Rattle.mix_machine.specs.World.{WorldState, cell_of}
use Rattle.mix_machine.specs.declared.decode.Arguments.{Arguments}

-- the instruction at the location, in its parts
abbrev pub instruction : WorldState → Parts
instruction w = parts_of (cell_of w w.loc)

-- what its code and its F name
abbrev pub decode_at : WorldState → Decoded
decode_at w = decode_of (instruction w).code (instruction w).f

-- the index register of an instruction
abbrev pub index_of : WorldState → ℕ → WordValue
index_of w i = index_in w.registers i

-- M: the sum of the address and the index register, of which a zero has the sign of the instruction
abbrev pub address_of : WorldState → Parts → WordValue
address_of w p = (sum_of (word p.sign p.address) (index_of w p.index)).0

abbrev pub arguments_of : WorldState → Parts → Arguments
arguments_of w p = record { index = p.index; m = address_of w p; f = p.f }

abbrev pub arguments_at : WorldState → Arguments
arguments_at w = arguments_of w (instruction w)

-- whether a word's number is that of a cell, 0 to 3999
abbrev pub is_cell : WordValue → Bool
is_cell m = is_natural m && nat_lt m.magnitude 4000

-- whether F is a field
abbrev pub is_field : ℕ → Bool
is_field f = is_some (field_of f)

-- the field F (the whole word where it is none, which is refused)
abbrev pub field_at : ℕ → FieldValue
field_at f = unwrap_or (field_of f) (field 0 5)

-- V: the field F of the cell M
abbrev pub operand : WorldState → Arguments → WordValue
operand w a = field_value_of (cell_of w a.m.magnitude) (field_at a.f)
