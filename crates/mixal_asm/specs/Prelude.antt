-- The names of this crate that most files cite, passed on from one place. Declares nothing.
pub use Rattle.mixal_asm.specs.Assembly.{first_uses, literal_lines, program_at, program_from, zero_lines}
unfoldable pub use Rattle.mixal_asm.specs.Assembly.{assembly}
pub use Rattle.mixal_asm.specs.Chain.{Held, IsChained, IsUsed, closed_held, emitted_of, held_of, links_of}
pub use Rattle.mixal_asm.specs.Diagnose.{up_to_end, warnings_from}
pub use Rattle.mixal_asm.specs.Draft.{HasNoLiteral, IsReady, scope_value}
pub use Rattle.mixal_asm.specs.Fault.{asm_fault_line}
pub use Rattle.mixal_asm.specs.Faults.{program_with}
pub use Rattle.mixal_asm.specs.Index.{HasDefinitions, IsFirstFrom, LeadsToLast}
pub use Rattle.mixal_asm.specs.Key.{same_key, same_key_decides}
pub use Rattle.mixal_asm.specs.Listing.{rows_text}
unfoldable pub use Rattle.mixal_asm.specs.Listing.{listing}
pub use Rattle.mixal_asm.specs.PassOne.{Before, Line, NamesSoFar, OfLiteral, OfName, SourceValue, at_first, instruction, is_awaited, is_taken, location_of, name_of, names_at, number_after, of_address, value_of, waits_for, with_address, with_instruction, with_line, with_loc, with_name, with_word}
unfoldable pub use Rattle.mixal_asm.specs.PassOne.{con_line, machine_line, orig_line}
pub use Rattle.mixal_asm.specs.Place.{kind_span}
pub use Rattle.mixal_asm.specs.Program.{ProgramValue}
pub use Rattle.mixal_asm.specs.Row.{row_value, source_value}
pub use Rattle.mixal_asm.specs.Source.{cell_from, is_instruction, source_at, source_in, symbols_of, word_in}
pub use Rattle.mixal_asm.specs.Table.{IsNew}
pub use Rattle.mixal_asm.specs.User.{first_wait}
pub use Rattle.mixal_asm.specs.declared.diagnostic.Diagnostic.{Diagnostic}
pub use Rattle.mixal_asm.specs.declared.fault.AsmFault.{AsmFault}
pub use Rattle.mixal_asm.specs.declared.fault.AsmKind.{AsmKind}
pub use Rattle.mixal_asm.specs.declared.fault.AsmKind.TheVariants.{Text}
pub use Rattle.mixal_asm.specs.declared.key.Key.{Key}
pub use Rattle.mixal_asm.specs.declared.key.Key.TheVariants.{Literal, Name}
pub use Rattle.mixal_asm.specs.declared.words.Entry.{Entry}
