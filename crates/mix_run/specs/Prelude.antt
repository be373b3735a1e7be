-- The names of this crate that most files cite, passed on from one place. Declares nothing.
pub use Rattle.mix_run.specs.Asked.{after_lines, is_quit}
pub use Rattle.mix_run.specs.Bundle.{origin_of}
pub use Rattle.mix_run.specs.Check.{Checks, Named, Reported}
pub use Rattle.mix_run.specs.Counted.{end_table_asked}
unfoldable pub use Rattle.mix_run.specs.Counted.{counted_run}
pub use Rattle.mix_run.specs.Debug.{origin_given}
unfoldable pub use Rattle.mix_run.specs.Debug.{debug_output}
pub use Rattle.mix_run.specs.Drawn.{DrawnIf, DrawnRun}
pub use Rattle.mix_run.specs.Fault.{IsMemoryOrRead, IsMemoryOrWrite, fault_of_read}
pub use Rattle.mix_run.specs.Hearing.{Answered}
pub use Rattle.mix_run.specs.Keep.{kept_if}
pub use Rattle.mix_run.specs.Opening.{Asks, Files, GivesText, Missing, Opens, Saved, WhyUnsaved, asked_of, missing_of, named, noted, opened_text, refused_by}
pub use Rattle.mix_run.specs.Output.{Ended, IsStatus, Meets, max_bundle_bytes, max_script_bytes, refusal_of, replies, status_of}
unfoldable pub use Rattle.mix_run.specs.Output.{bundle_output, list_output, outcome_of, outcome_of_script, output}
unfoldable pub use Rattle.mix_run.specs.Points.{with_points}
pub use Rattle.mix_run.specs.Print.{Run, counted, printed, printed_first, run_of, steps_of, stops, written_by}
pub use Rattle.mix_run.specs.PrintOutput.{Leaves, PrintOutcome, answered, came_to, kept_of, parts_of}
unfoldable pub use Rattle.mix_run.specs.PrintOutput.{outcome_of_run}
pub use Rattle.mix_run.specs.PrintSteps.{HasCounts, conflicts_after}
pub use Rattle.mix_run.specs.Reload.{begun}
pub use Rattle.mix_run.specs.Sources.{Knows}
pub use Rattle.mix_run.specs.StepTable.{run_told}
pub use Rattle.mix_run.specs.Stretch.{talk_of, typed_line}
pub use Rattle.mix_run.specs.Talk.{is_too_long, is_whole, max_line_bytes}
pub use Rattle.mix_run.specs.UnitsRead.{GivesUnits, deck_given}
pub use Rattle.mix_run.specs.Writes.{Writes}
pub use Rattle.mix_run.specs.declared.fault.ToolFault.{ToolFault}
pub use Rattle.mix_run.specs.declared.print.PrintAnswer.{PrintAnswer}
pub use Rattle.mix_run.specs.declared.print.PrintAnswer.TheVariants.{NoTable, Ran}
pub use Rattle.mix_run.specs.declared.print.Printed.{Printed}
pub use Rattle.mix_run.specs.declared.print.options.PrintOptions.{PrintOptions}
pub use Rattle.mix_run.specs.declared.print.steps.RunEnd.{RunEnd}
pub use Rattle.mix_run.specs.declared.print.steps.Stepped.{Stepped}
pub use Rattle.mix_run.specs.declared.reason.Reason.{Reason}
pub use Rattle.mix_run.specs.declared.table.TableFormat.{TableFormat}
pub use Rattle.mix_run.specs.declared.talk.aside.Talker.{Talker}
pub use Rattle.mix_run.specs.declared.talk.aside.Talker.TheVariants.{Program}
pub use Rattle.mix_run.specs.declared.talk.moment.Moment.{Moment}
