-- The names of this crate that most files cite, passed on from one place. Declares nothing.
pub use Rattle.mix_machine.specs.Cells.{IsRow, cell_values, with_copies, with_words, words_of}
pub use Rattle.mix_machine.specs.Decode.{arguments_at, arguments_of, decode_at, instruction}
pub use Rattle.mix_machine.specs.Do.{IsReal, is_halt_next, is_looked_at, is_plain_next, is_step, state_after, step_or_fault, step_plan}
unfoldable pub use Rattle.mix_machine.specs.Do.{does, kept_values, plan_of}
pub use Rattle.mix_machine.specs.Effects.{copy_of, effects, quotient_into, shift_into, sum_into}
pub use Rattle.mix_machine.specs.Fault.{answer_of}
pub use Rattle.mix_machine.specs.Jump.{jump_writes}
pub use Rattle.mix_machine.specs.KeptCount.{most_kept}
unfoldable pub use Rattle.mix_machine.specs.Loaded.{loaded}
pub use Rattle.mix_machine.specs.Many.{ends_at, ends_if}
pub use Rattle.mix_machine.specs.Order.{applies, first_fault, operation_or_nop, order}
pub use Rattle.mix_machine.specs.Pack.{LastValue, header_of, last_of, last_value, long_word, said, seen, short_word, value_by}
pub use Rattle.mix_machine.specs.Part.{IsPart, is_altered, is_same_indicator, is_same_kind, is_same_mark, is_same_row, is_same_unit, mark_before, mark_given, mark_of}
pub use Rattle.mix_machine.specs.Registers.{RegistersState, fits_register}
pub use Rattle.mix_machine.specs.Transfers.{TransfersState, conflict_of, last_end, made_by, no_transfers, transfers_after}
unfoldable pub use Rattle.mix_machine.specs.Transfers.{transfer_by}
pub use Rattle.mix_machine.specs.UnitAction.{start_of, transfer_end, transfer_start, use_of}
pub use Rattle.mix_machine.specs.View.{view_of}
pub use Rattle.mix_machine.specs.World.{IsWorld, WorldState, cell_of, has_break, last_clock, register_of, unit_at}
pub use Rattle.mix_machine.specs.Write.{Write, append_writes, busy, control_writes, copies, each, fits, from_block, from_cell, grow, input_writes, is_clock, output_writes, place_after, print, put_value, replace_writes, row_writes, set, set_value, words_out, write_all, writes_in, writes_of, written}
pub use Rattle.mix_machine.specs.declared.decode.Arguments.{Arguments}
pub use Rattle.mix_machine.specs.declared.fault.MixFault.{MixFault}
pub use Rattle.mix_machine.specs.declared.fault.MixFault.TheVariants.{IndexOverflow}
pub use Rattle.mix_machine.specs.declared.old.Change.{Change}
pub use Rattle.mix_machine.specs.declared.old.Change.TheVariants.{Break, Clear, SetCell, SetCmp, SetLoc, SetOver, SetReg, Step}
pub use Rattle.mix_machine.specs.declared.old.Old.{Old}
pub use Rattle.mix_machine.specs.declared.old.Old.TheVariants.{At, Cell, Item, Len, Until}
pub use Rattle.mix_machine.specs.declared.pack.anchor.Anchor.{Anchor}
pub use Rattle.mix_machine.specs.declared.pack.kind.Kind.{Kind}
pub use Rattle.mix_machine.specs.declared.part.Mark.{Mark}
pub use Rattle.mix_machine.specs.declared.part.Part.{Part}
pub use Rattle.mix_machine.specs.declared.plan.Plan.{Plan}
pub use Rattle.mix_machine.specs.declared.plan.Transfer.{Transfer}
pub use Rattle.mix_machine.specs.declared.plan.Writes.{Writes}
pub use Rattle.mix_machine.specs.declared.plan.Writes.TheVariants.{Copy, Nothing}
pub use Rattle.mix_machine.specs.declared.transfers.Pending.{Pending}
pub use Rattle.mix_machine.specs.declared.units.kind.UnitKind.{UnitKind}
pub use Rattle.mix_machine.specs.declared.units.kind.UnitKind.TheVariants.{CardPunch, CardReader, Disk, PaperTape, Printer, Tape, Typewriter}
pub use Rattle.mix_machine.specs.law.Carried.{Carried}
pub use Rattle.mix_machine.specs.law.Fits.{world-set_value}
pub use Rattle.mix_machine.specs.law.Passed.{passed}
pub use Rattle.mix_machine.specs.law.Plans.{fits-until-in}
pub use Rattle.mix_machine.specs.law.Restored.{Restored}
pub use Rattle.mix_machine.specs.law.Stages.{fault_among, of_address, outcome_of}
pub use Rattle.mix_machine.specs.law.Steps.{steps_on}
pub use Rattle.mix_machine.specs.law.Wrote.{HasRoom, Tried, Wrote}
pub use Rattle.mix_machine.specs.units.Keep.{keep-add_row, length-units}
pub use Rattle.mix_machine.specs.units.Row.{RowState, row_of}
pub use Rattle.mix_machine.specs.units.Unit.{IsUnit, UnitState, blocks_in, empty_unit, filled, last_delay, most_entries, with_blocks, with_row, with_word, word_of}
pub use Rattle.mix_machine.specs.units.UnitKind.{block_length, has_medium, has_output, has_place, kind_of, kinds}
pub use Rattle.mix_machine.specs.units.Units.{UnitsState, can_cut, cut_to, fits_item, length_of, unit_of, with_unit}
pub use Rattle.mix_machine.specs.units.View.{unit_of_fields}
pub use Rattle.mix_machine.specs.units.deck.Block.{deck_words, words_from}
pub use Rattle.mix_machine.specs.units.deck.Deck.{cards_of, max_deck_bytes, typewriter_of}
unfoldable pub use Rattle.mix_machine.specs.units.deck.Deck.{deck_of, text_of_unit}
