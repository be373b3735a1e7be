-- The names of this crate that most files cite, passed on from one place. Declares nothing.
pub use Rattle.mix_word.specs.Arithmetic.{product_of, quotient_of, sum_of}
pub use Rattle.mix_word.specs.Characters.{characters}
unfoldable pub use Rattle.mix_word.specs.Characters.{character_code, character_of}
pub use Rattle.mix_word.specs.Comparison.{order_of}
pub use Rattle.mix_word.specs.Field.{FieldValue, field, field_of, field_value_of, put_field_of}
pub use Rattle.mix_word.specs.Instruction.{signed_text}
unfoldable pub use Rattle.mix_word.specs.Instruction.{instruction_text, number_text}
pub use Rattle.mix_word.specs.Names.{name_of}
pub use Rattle.mix_word.specs.Operation.{normal_f_of, number_of_jump, number_of_shift, operation_code}
pub use Rattle.mix_word.specs.Pairs.{IsPairTable, is_of_register, number_of_operation, number_of_pair}
pub use Rattle.mix_word.specs.Register.{all_registers, name_of_register, number_of_register, offset_of, reg_of, register_named}
pub use Rattle.mix_word.specs.Table.{IsNamedBy}
unfoldable pub use Rattle.mix_word.specs.Table.{decode_of, operation_named, operations}
pub use Rattle.mix_word.specs.Text.{sign_text}
unfoldable pub use Rattle.mix_word.specs.Text.{location_text, short_text, word_text}
pub use Rattle.mix_word.specs.Uses.{needs, unit_count, uses_of}
pub use Rattle.mix_word.specs.Word.{WordValue, byte_of, is_natural, is_plus, is_same_sign, is_same_word, natural_of, negation_of, number_of, parts_of, plus, word, word_of_bytes, zero_word}
pub use Rattle.mix_word.specs.declared.decoding.Decoded.{Decoded}
pub use Rattle.mix_word.specs.declared.decoding.Decoded.TheVariants.{Floating, Named, Unknown}
pub use Rattle.mix_word.specs.declared.operation.Condition.{Condition}
pub use Rattle.mix_word.specs.declared.operation.Condition.TheVariants.{Negative}
pub use Rattle.mix_word.specs.declared.operation.JumpKind.{JumpKind}
pub use Rattle.mix_word.specs.declared.operation.JumpKind.TheVariants.{Jmp}
pub use Rattle.mix_word.specs.declared.operation.Operation.{Operation}
pub use Rattle.mix_word.specs.declared.operation.Operation.TheVariants.{Char, Compare, Decrease, Enter, EnterNegated, Hlt, Increase, Jump, Load, LoadNegated, Num, RegisterJump, Shift, Store}
pub use Rattle.mix_word.specs.declared.operation.ShiftKind.{ShiftKind}
pub use Rattle.mix_word.specs.declared.operation.ShiftKind.TheVariants.{Sla}
pub use Rattle.mix_word.specs.declared.register.DataReg.{DataReg}
pub use Rattle.mix_word.specs.declared.register.DataReg.TheVariants.{A, I1, I2, I3, I4, I5, I6, X}
pub use Rattle.mix_word.specs.declared.register.Reg.{Reg}
pub use Rattle.mix_word.specs.declared.word.Sign.{Sign}
