-- The names of this crate that most files cite, passed on from one place. Declares nothing.
pub use Rattle.undo_core.specs.Counts.{ArePlaces, IsPart, counts_in, is_ended, newest_part, newest_place, open_in, places_after, places_below, run_of, total}
pub use Rattle.undo_core.specs.History.{History, HoldsOfState}
pub use Rattle.undo_core.specs.Leads.{IsSound, IsStored}
pub use Rattle.undo_core.specs.Pack.{unit_list}
pub use Rattle.undo_core.specs.Repeat.{Repeats, goes_unless}
pub use Rattle.undo_core.specs.Replay.{count_kept, put_back, replay, unwound}
pub use Rattle.undo_core.specs.Runs.{IsRising, end_of, items_of}
pub use Rattle.undo_core.specs.declared.runs.Run.{Run}
