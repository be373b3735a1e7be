-- The names of this crate that most files cite, passed on from one place. Declares nothing.
pub use Rattle.mix_dap.specs.Answer.{LaunchTells}
pub use Rattle.mix_dap.specs.Before.{AskedShows}
pub use Rattle.mix_dap.specs.Console.{is_said, line_meant}
pub use Rattle.mix_dap.specs.Ended.{end_told}
pub use Rattle.mix_dap.specs.Events.{AddsEvents, Event, invalidated, stopped, terminated}
pub use Rattle.mix_dap.specs.Launch.{launched_of}
pub use Rattle.mix_dap.specs.Output.{all_told, output, outputs, row_output}
pub use Rattle.mix_dap.specs.Reaction.{acted, beside, reaction, restarted}
pub use Rattle.mix_dap.specs.Reacts.{Answered, Keeps}
pub use Rattle.mix_dap.specs.Replies.{AddsReply}
pub use Rattle.mix_dap.specs.Runs.{why_of_run, word_at}
pub use Rattle.mix_dap.specs.Stopped.{end_of, fault_at, only, out_of_memory, why_of}
pub use Rattle.mix_dap.specs.Texts.{Known}
pub use Rattle.mix_dap.specs.declared.launch.Texts.{Texts}
