-- What a request of a launched program does: one row for each kind of request.
use Rattle.std.specs.Prelude.{◌^◌, ◌==◌, ℕ, List, [], ◌∷◌, ◌++◌, codes, Option, None, Some, Result, Ok, Err, nat_lt, if◌then◌else◌, Bool, true, false}
use Rattle.mix_word.specs.Word.{WordValue}
use Rattle.mix_word.specs.declared.register.Reg.TheVariants as reg
use Rattle.mix_machine.specs.declared.fault.MixFault.{MixFault}
use Rattle.mix_machine.specs.World.{register_of}
use Rattle.mix_session.specs.Prelude.{Effect, after, effect_of, Timeline, world_of}
use Rattle.mix_session.specs.Over.{steps_over}
use Rattle.mix_session.specs.declared.answer.Answer.{Answer}
use Rattle.mix_session.specs.declared.request.Request.TheVariants as ask
use Rattle.rpc_message.specs.Request.{text_of as text_in}
use Rattle.rpc_message.specs.declared.request.Request.{Request}
use Rattle.mix_dap.specs.Console.{is_said, line_meant}
use Rattle.dap_asked.specs.declared.deed.Deed.{Deed}
use Rattle.dap_asked.specs.declared.fault.Fault.{Fault}
use Rattle.dap_asked.specs.declared.kind.Act.{Act}
use Rattle.dap_asked.specs.declared.kind.Kind.{Kind}
use Rattle.dap_asked.specs.Deed.{deed_of, effect_of_deed, is_line, line_deed}
use Rattle.mix_dap.specs.Events.{Event, beginning, invalidated, stopped, terminated}
use Rattle.mix_dap.specs.Leaves.{refusal_in}
use Rattle.mix_dap.specs.Output.{all_told, outputs}
use Rattle.mix_dap.specs.Replies.{Outcome, denied, looked, served}
use Rattle.dap_points.specs.Points.{PointsState}
use Rattle.mix_dap.specs.Runs.{most, word_at}
use Rattle.mix_dap.specs.Stopped.{end_of, fault_at, only, why_of}
use Rattle.dap_points.specs.Written.{with_cells, write_asked}
use Rattle.mix_dap.specs.declared.adapter.Adapter.{Adapter}
use Rattle.mix_dap.specs.declared.adapter.Then.{Then}
use Rattle.mix_dap.specs.declared.adapter.Then.TheVariants as then
use Rattle.mix_dap.specs.declared.adapter.Way.TheVariants as way
use Rattle.mix_dap.specs.declared.capabilities.Client.{Client}
use Rattle.dap_asked.specs.declared.deed.Deed.TheVariants as deed
use Rattle.dap_asked.specs.declared.fault.Fault.TheVariants as fault
use Rattle.dap_asked.specs.declared.kind.Act.TheVariants as act
use Rattle.dap_asked.specs.declared.kind.Kind.TheVariants as kind
use Rattle.dap_asked.specs.declared.kind.Target.{Target}
use Rattle.dap_asked.specs.declared.kind.Target.TheVariants as target
use Rattle.mix_dap.specs.declared.launch.Opening.{Opening}
use Rattle.mix_dap.specs.declared.launch.Opening.TheVariants as opening
use Rattle.mix_dap.specs.declared.printed.Printed.{Printed}

-- What is left and told, and what comes then.
pub record Reaction : Type 0 where
  -- the changes and the machine
  pub timeline : Timeline
  -- the breakpoints, but for those of the kind that it sets
  pub points : PointsState
  pub sets : Target
  -- the fault that the last run or step has ended with, if one has
  pub fault : Option MixFault
  -- how many rows are told of the units that write them
  pub printed : Printed
  -- how it is answered, by the one response
  pub outcome : Outcome
  -- the events after it, in this order
  pub events : List Event
  -- a run, or the end of the talk, or nothing
  pub later : Then

-- what an adapter has beside its session, and may alter or asks for
pub record Beside : Type 0 where
  pub points : PointsState
  pub fault : Option MixFault
  pub printed : Printed
  pub client : Client
  pub opening : Opening

abbrev pub beside : Adapter → Beside
beside a = record { points = a.points; fault = a.fault; printed = a.printed; client = a.client; opening = a.opening }

-- everything is as it was, and nothing is told but that the request is done
abbrev pub stays : Beside → Timeline → Reaction
stays b t = record {
  timeline = t;
  points = b.points;
  sets = target.Nothing;
  fault = b.fault;
  printed = b.printed;
  outcome = served;
  events = [];
  later = then.Wait;
}

abbrev pub still : Adapter → Reaction
still a = stays (beside a) a.session.timeline

-- it is refused, and everything is as it was
abbrev pub refuses : Adapter → Fault → Reaction
refuses a why = record (still a) { outcome = denied why }

-- the program runs from its beginning, unless the launch asked to stop there
abbrev pub begun : Opening → Then
begun opening.Stops = then.Wait
begun opening.Runs = then.Run (way.Forth None)
begun opening.Free = then.Run (way.Forth None)

-- the location to which a subroutine returns: that in rJ
abbrev pub return_location : ℕ → Option ℕ
return_location n = if nat_lt n (2 ^ 16) then Some n else None

-- ---- an act that the session has answered so, and what is there then

-- a step, forwards or backwards
abbrev pub stepped : Answer → Beside → Timeline → Reaction
stepped answer b t = record (stays b t) {
  fault = fault_at (end_of answer);
  printed = all_told (world_of t);
  events = outputs b.printed (world_of t) ++ stopped (why_of (word_at b.points t) (end_of answer)) ∷ [];
}

abbrev pub acted : Act → Answer → Beside → Timeline → Reaction
acted act.Step answer b t = stepped answer b t
acted act.StepBack answer b t = stepped answer b t
acted act.Continue answer b t = record (stays b t) { fault = None; later = then.Run (way.Forth None) }
acted act.StepOut answer b t =
    record (stays b t) { fault = None; later = then.Run (way.Forth (return_location (register_of (world_of t) reg.J).magnitude)) }
acted act.ReverseContinue answer b t = record (stays b t) { fault = None; later = then.Run way.Back }
acted act.Begin answer b t = record (stays b t) { fault = None; events = beginning b.opening; later = begun b.opening }
acted act.Goto answer b t = record (stays b t) { events = stopped (only (codes "goto")) ∷ [] }
acted act.SetVariable answer b t = record (stays b t) { events = invalidated b.client }
acted act.SetExpression answer b t = record (stays b t) { events = invalidated b.client }
acted act.Evaluate answer b t = stays b t

-- unless the session refuses it
abbrev pub unless : Option Fault → Act → Effect → Adapter → Reaction
unless None act effect a = acted act effect.answer (beside a) (after effect)
unless (Some why) act effect a = refuses a why

abbrev pub deed_done : Act → Deed → Adapter → Reaction
deed_done act deed a = unless (refusal_in (effect_of_deed deed a.session.timeline)) act (effect_of_deed deed a.session.timeline) a

-- or it asks for nothing that is there
abbrev pub asked_done : Act → Result Deed Fault → Adapter → Reaction
asked_done act (Ok deed) a = deed_done act deed a
asked_done act (Err why) a = refuses a why

-- ---- a line of the console

-- the line of a script that it stands for, which the session has answered, with this timeline then
abbrev pub replied : Beside → Timeline → Reaction
replied b t = record (stays b t) {
  fault = None;
  printed = all_told (world_of t);
  events = outputs b.printed (world_of t) ++ invalidated b.client;
}

-- unless it is refused
abbrev pub replied_unless : Option Fault → Effect → Adapter → Reaction
replied_unless None effect a = replied (beside a) (after effect)
replied_unless (Some why) effect a = refuses a why

abbrev pub line_done : Result Deed Fault → Adapter → Reaction
line_done (Ok deed) a = replied_unless (refusal_in (effect_of_deed deed a.session.timeline)) (effect_of_deed deed a.session.timeline) a
line_done (Err why) a = refuses a why

-- what is only said alters nothing
abbrev pub said_or_done : Bool → List ℕ → Adapter → Reaction
said_or_done true line a = still a
said_or_done false line a = line_done (line_deed a.session line) a

abbrev pub console : Option (List ℕ) → Adapter → Reaction
console None a = refuses a fault.BadArgument
console (Some typed) a = said_or_done (is_said a.session typed) (line_meant a.session typed) a

-- an act, or a line of the console
abbrev pub acts : Act → Request → Adapter → Reaction
acts act r a = if is_line act r then console (text_in r (codes "expression")) a else asked_done act (deed_of act r a.session) a

-- ---- the rows

abbrev pub written : Result (List (ℕ × WordValue) × ℕ) Fault → Adapter → Reaction
written (Ok asked) a =
    record (stays (beside a) (with_cells a.session.timeline asked.0)) { events = invalidated a.client }
written (Err why) a = refuses a why

-- the first state again
abbrev pub restarted : Beside → Timeline → Reaction
restarted b t = record (stays b t) {
  fault = None;
  printed = all_told (world_of t);
  events = outputs b.printed (world_of t) ++ beginning b.opening;
  later = begun b.opening;
}

-- a step over of so many steps: a step, if it is one; or else the program runs on until what is called has come back
abbrev pub stepped_over : ℕ → Adapter → Reaction
stepped_over steps a =
    if steps == 1 then deed_done act.Step deed.Step a else record (still a) { fault = None; later = then.Run (way.Over steps) }

-- breakpoints are set, unless the program is not debugged
abbrev pub kind_set : Opening → Target → Target
kind_set opening.Stops which = which
kind_set opening.Runs which = which
kind_set opening.Free which = target.Nothing

abbrev pub reaction : Kind → Request → Adapter → Reaction
reaction kind.Initialize r a = still a
reaction (kind.Look look) r a = record (still a) { outcome = looked }
reaction (kind.Given given) r a = record (still a) { outcome = looked }
reaction (kind.Points which) r a = record (still a) { sets = kind_set a.opening which }
reaction kind.Pause r a = record (still a) { events = stopped (only (codes "pause")) ∷ [] }
reaction kind.Terminate r a = record (still a) { events = terminated ∷ [] }
reaction kind.Restart r a = restarted (beside a) (after (effect_of a.session.timeline ask.BackAll))
reaction kind.Cancel r a = still a
reaction kind.Launch r a = refuses a fault.Launched
reaction kind.Disconnect r a = record (still a) { later = then.End }
reaction kind.Write r a = written (write_asked a.session r) a
reaction kind.StepOver r a = stepped_over (steps_over (world_of a.session.timeline) most) a
reaction (kind.Act act) r a = acts act r a

-- by what it is about: one of no known name, or with an argument that is not what it has to be, is always refused
abbrev pub reaction_to : Result Kind Fault → Request → Adapter → Reaction
reaction_to (Err why) r a = refuses a why
reaction_to (Ok k) r a = reaction k r a
