-- The names of this crate that most files cite, passed on from one place. Declares nothing.
pub use Rattle.mix_session.specs.Altered.{alterations, count_of, is_altered, part_of}
unfoldable pub use Rattle.mix_session.specs.Altered.{numbered}
pub use Rattle.mix_session.specs.Answer.{refusal_of, told_of}
pub use Rattle.mix_session.specs.BrokenOff.{BrokenOff, IsBefore}
pub use Rattle.mix_session.specs.Change.{all_changes, change_at, change_text, chosen_line_at}
unfoldable pub use Rattle.mix_session.specs.Change.{change_line, world_at}
pub use Rattle.mix_session.specs.Client.{change_numbered, condition_at, conflict_after}
pub use Rattle.mix_session.specs.Command.{Begun, Effect, HasEffect, after, end_of_last, end_of_more, end_there, fault_end, is_halt_done, is_met_by, is_reached_forth, least_below, move_conflicts, reply_of}
unfoldable pub use Rattle.mix_session.specs.Command.{count_back, count_of_run, effect_of, effect_of_back_until, effect_of_forth_until, effect_of_run, end_at}
pub use Rattle.mix_session.specs.Condition.{is_conflict, is_met, is_reached, watched}
pub use Rattle.mix_session.specs.Conflicts.{conflict_line_at, last_conflicts, transfers_at}
unfoldable pub use Rattle.mix_session.specs.Conflicts.{conflict_at, conflict_column, conflict_text}
pub use Rattle.mix_session.specs.Counts.{is_step, is_step_after, tally_at, tally_of_all}
pub use Rattle.mix_session.specs.Differences.{cells_in, column_text, columns_text, lines_text}
unfoldable pub use Rattle.mix_session.specs.Each.{texts}
pub use Rattle.mix_session.specs.Keyword.{indicator_name, toggle_name}
pub use Rattle.mix_session.specs.Known.{IsLast, KnownState, Knows, LooksOn, Tells, has_conflict}
pub use Rattle.mix_session.specs.Marks.{AreMarks, HasMoved, end_by_marks, first_met, is_met_from}
pub use Rattle.mix_session.specs.Moments.{IsMoment}
pub use Rattle.mix_session.specs.Named.{IsOutside, is_of}
pub use Rattle.mix_session.specs.Names.{names_of}
pub use Rattle.mix_session.specs.Operand.{no_word}
pub use Rattle.mix_session.specs.Passages.{passages_back}
pub use Rattle.mix_session.specs.Path.{IsPath}
pub use Rattle.mix_session.specs.Plain.{ArePlain, IsLeft}
pub use Rattle.mix_session.specs.Reply.{told_of_both}
pub use Rattle.mix_session.specs.Session.{SessionState, effect_in, request_in}
unfoldable pub use Rattle.mix_session.specs.Session.{opened}
pub use Rattle.mix_session.specs.ShowUnit.{characters_text}
pub use Rattle.mix_session.specs.Stops.{StopsState, is_awaited, no_stops}
pub use Rattle.mix_session.specs.Tally.{location_in, tally_in}
pub use Rattle.mix_session.specs.Timeline.{Timeline, back_by, begins_with_step, forth_by, is_at_break, moved, moved_once, with_change}
unfoldable pub use Rattle.mix_session.specs.Timeline.{world_of}
pub use Rattle.mix_session.specs.Writes.{writes_back}
pub use Rattle.mix_session.specs.declared.altered.Kind.TheVariants.{Breaks, Cells, Units}
pub use Rattle.mix_session.specs.declared.answer.Answer.{Answer}
pub use Rattle.mix_session.specs.declared.answer.Answer.TheVariants.{Ran}
pub use Rattle.mix_session.specs.declared.command.stops.Way.{Way}
pub use Rattle.mix_session.specs.declared.command.stops.Way.TheVariants.{Again, Back, New}
pub use Rattle.mix_session.specs.declared.condition.Condition.{Condition}
pub use Rattle.mix_session.specs.declared.condition.Condition.TheVariants.{Alters, At, Conflicts}
pub use Rattle.mix_session.specs.declared.fault.Refusal.{Refusal}
pub use Rattle.mix_session.specs.declared.reply.End.{End}
pub use Rattle.mix_session.specs.declared.reply.End.TheVariants.{Until}
pub use Rattle.mix_session.specs.declared.request.Request.{Request}
pub use Rattle.mix_session.specs.declared.tally.Tally.{Tally}
