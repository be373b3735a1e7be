-- Plain steps of a run, which are done many at a time where the run needs no look at the machine between them.
use Rattle.std.specs.Prelude.{◌≡◌, ◌<◌, ◌≤◌, ℕ, zero, suc, Bool, true, false, List, Option, None, Some, Ok, IsOk, [], ◌∷◌, nat_lt, replicate, slice_set, if◌then◌else◌}
use Rattle.mix_machine.specs.Prelude.{WorldState, has_break, does, is_plain_next, ends_at, steps_on}
use Rattle.mix_machine.specs.declared.many.Many.{Many}
use Rattle.mix_machine.specs.declared.old.Change.TheVariants.{Step}
use Rattle.mix_machine.specs.declared.part.Mark.{Mark}
use Rattle.mix_machine.specs.Watch.{WatchState, with_all, with_location}
use Rattle.mix_machine.specs.declared.watch.Seen.{Seen}
use Rattle.mix_session.specs.Known.{has_conflict}
use Rattle.mix_session.specs.Marks.{AreMarks, end_by_marks}
use Rattle.mix_session.specs.Stops.{StopsState}
use Rattle.mix_session.specs.Timeline.{Timeline, world_of, with_change}
use Rattle.mix_session.specs.declared.command.stops.Way.{Way}
use Rattle.mix_session.specs.declared.command.stops.Way.TheVariants.{New}
use Rattle.mix_session.specs.declared.condition.Condition.{Condition}
use Rattle.mix_session.specs.declared.condition.Condition.TheVariants.{Alters, At}
use Rattle.mix_session.specs.declared.reply.End.{End}

-- the breakpoints that stop a run, if they do
abbrev pub breaks_of : Bool → WorldState → List Bool
breaks_of breaks w = if breaks then w.breaks else replicate 4000 false

-- nothing stops a run at a state that a plain step may lead to: nothing is watched, no cell and no location stops it, and no breakpoint that is set
pub record IsFree (stops : StopsState) (w : WorldState) : Type 0 where
  pub watched : stops.watched ≡ []
  pub cells : stops.cells ≡ []
  pub location : stops.location ≡ None
  pub breaks : stops.breaks ≡ true → (p : ℕ) → p < 4000 → has_break w p ≡ false

-- A run whose plain steps may be done many at a time, with these marks and these breakpoints: it does new ones, waits for no conflict, and has no end
-- at a state from which such steps go on.
pub record AllowsMany (way : Way) (stops : StopsState) (marks : List Mark) (breaks : List Bool) (many : Many) : Type 0 where
  pub new : way ≡ New
  pub conflicts : has_conflict stops.watched ≡ false
  pub going : (w : WorldState) → w.breaks ≡ breaks → steps_on (ends_at many) w ≡ true → end_by_marks false false stops marks w ≡ None

-- so many new steps lead from one timeline to another: each of them is plain, and none but the last leads to a state at which such steps end
abbrev pub ArePlain : (WorldState → Bool) → ℕ → Timeline → Timeline → Type 0
ArePlain ends zero old new = new ≡ old
ArePlain ends (suc n) old new =
    let next = with_change old Step in
    (is_plain_next (world_of old) ≡ true) × (does (world_of old) Step ≡ Ok (world_of next)) × (0 < n → steps_on ends (world_of next) ≡ true) × ArePlain ends n next new

-- the same of a run that may do them many at a time, or of one that may not, which does none
abbrev pub AreSteps : Option Many → ℕ → Timeline → Timeline → Type 0
AreSteps None n old new = (n ≡ 0) × (new ≡ old)
AreSteps (Some many) n old new = ArePlain (ends_at many) n old new

-- After so many such steps the marks are those of the state, and this is why the run ends there, if it does; with none they stay.
pub record HasEnd (stops : StopsState) (marks later : List Mark) (n : ℕ) (new : Timeline) (end : Option End) : Type 0 where
  pub none : n ≡ 0 → (end ≡ None) × (later ≡ marks)
  pub why : 0 < n → end ≡ end_by_marks false false stops marks (world_of new)
  pub marked : 0 < n → AreMarks stops.watched later (world_of new)

-- Fewer such steps are done than may be, which go on from where they led, and the next could be done.
pub record IsLeft (ends : WorldState → Bool) (n most : ℕ) (new : Timeline) : Type 0 where
  pub fewer : n < most
  pub going : 0 < n → steps_on ends (world_of new) ≡ true
  pub more : IsOk (does (world_of new) Step)

-- the same of a run that may do them many at a time, which alone asks for memory here
abbrev pub LeavesOff : Option Many → ℕ → ℕ → Timeline → Type 0
LeavesOff None n most new = ⊥
LeavesOff (Some many) n most new = IsLeft (ends_at many) n most new

-- what is watched for some conditions beside these locations, where there is one at most and none is a conflict
abbrev pub watch_for : List Condition → List Mark → List Bool → Option WatchState
watch_for [] marks locations = Some (record { locations = locations; seen = None })
watch_for (Alters part ∷ []) (m ∷ ms) locations = Some (record { locations = locations; seen = Some (record { part = part; mark = m }) })
watch_for (At place ∷ []) (m ∷ ms) locations = Some (record { locations = slice_set locations place true; seen = None })
watch_for other marks locations = None

-- the locations at which a run stops: the breakpoints, the cells of a client, and the location that is waited for
abbrev pub locations_of : StopsState → WorldState → List Bool
locations_of stops w = with_location stops.location (with_all stops.cells (breaks_of stops.breaks w))
