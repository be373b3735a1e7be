-- What happens where a request is received: its reaction, and then a run, if there is to be one; and what is kept.
use Rattle.std.specs.Prelude.{◌≡◌, ◌⊎◌, ◌++◌, Option, Result, Ok, Err}
use Rattle.serde_json.specs.Data.{Data}
use Rattle.mix_refused.specs.declared.refused.Refused.{Refused}
use Rattle.mix_refused.specs.declared.refused.Refused.TheVariants as refused
use Rattle.mix_session.specs.Prelude.{effect_of, Begun, SessionState, Timeline, world_of}
use Rattle.mix_session.specs.declared.reply.End.{End}
use Rattle.mix_session.specs.declared.request.Request.TheVariants as ask
use Rattle.rpc_message.specs.declared.outbox.Outbox.{Outbox}
use Rattle.rpc_message.specs.declared.request.Request.{Request}
use Rattle.mix_dap.specs.Console.{deed_asked}
use Rattle.mix_dap.specs.Events.{AddsAnswer, AddsEvents}
use Rattle.dap_asked.specs.Deed.{effect_of_deed}
use Rattle.dap_asked.specs.declared.deed.Deed.TheVariants as deed
use Rattle.dap_asked.specs.declared.fault.Fault.{Fault}
use Rattle.dap_asked.specs.declared.kind.Kind.{Kind}
use Rattle.mix_dap.specs.Leaves.{Leaves}
use Rattle.mix_dap.specs.Ended.{end_told}
use Rattle.mix_dap.specs.Output.{all_told, outputs}
use Rattle.dap_points.specs.Points.{PointsState, with_kind}
use Rattle.mix_dap.specs.Reaction.{Reaction, reaction, reaction_to}
use Rattle.mix_dap.specs.Replies.{AddsReply, Denies, Refusal, Serves, Fits, answer_message}
use Rattle.mix_dap.specs.Runs.{Ran, fault_ran, why_ran}
use Rattle.dap_points.specs.Written.{WrittenSome, write_asked}
use Rattle.mix_dap.specs.declared.adapter.Adapter.{Adapter}
use Rattle.mix_dap.specs.declared.adapter.Flow.{Flow}
use Rattle.mix_dap.specs.declared.adapter.Flow.TheVariants as flow
use Rattle.mix_dap.specs.declared.adapter.Then.{Then}
use Rattle.mix_dap.specs.declared.adapter.Then.TheVariants as then
use Rattle.mix_dap.specs.declared.adapter.Way.{Way}
use Rattle.dap_asked.specs.declared.kind.Kind.TheVariants as kind

-- It is not refused, an adapter is left so, this comes then, and the response and the events are told.
abbrev pub Answered : Reaction → Request → Adapter → Then → Outbox → Outbox → Type 0
Answered x r b later old new = Serves x.outcome × (b.session.timeline ≡ x.timeline) × (b.points ≡ with_kind x.sets b.points x.points) × (b.fault ≡ x.fault)
    × (b.printed ≡ x.printed) × (later ≡ x.later) × AddsReply r x.events old new

-- all is as it was, but that the timeline was looked at
abbrev pub IsSame : Adapter → Adapter → Type 0
IsSame a b = (b.session.timeline ≡ a.session.timeline) × (b.points ≡ a.points) × (b.fault ≡ a.fault) × (b.printed ≡ a.printed)

-- A refusal is not told yet; for want of memory it is neither.
abbrev pub AnsweredOr : Reaction → Request → Adapter → Adapter → Outbox → Outbox → Result Then (Refused Fault) → Type 0
AnsweredOr x r a b old new (Ok later) = Answered x r b later old new
AnsweredOr x r a b old new (Err (refused.Fault why)) = Denies x.outcome why × IsSame a b × (new ≡ old)
AnsweredOr x r a b old new (Err refused.Memory) = Unit {0}

-- A run that has ended so, or memory was refused for it, is told: the rows that it wrote or took back, and why it stops.
pub record Runs (way : Way) (a b : Adapter) (old new : Outbox) : Type 0 where
  pub ended : Option End
  pub ran : Ran way a.points a.session.timeline ended b.points b.session.timeline
  pub fault : b.fault ≡ fault_ran ended
  pub printed : b.printed ≡ all_told (world_of b.session.timeline)
  pub told : AddsEvents (outputs a.printed (world_of b.session.timeline) ++ end_told a.opening ended (why_ran way b.points b.session.timeline ended)) old new

abbrev pub GoesOn : Then → Adapter → Adapter → Outbox → Outbox → Type 0
GoesOn then.Wait a b old new = (b ≡ a) × (new ≡ old)
GoesOn (then.Run way) a b old new = Runs way a b old new
GoesOn then.End a b old new = (b ≡ a) × (new ≡ old)

-- whether the client has more to ask then
abbrev pub flow_after : Then → Flow
flow_after then.Wait = flow.On
flow_after (then.Run way) = flow.On
flow_after then.End = flow.Over

abbrev pub flow_of : Result Data Refusal → Then → Flow
flow_of (Ok body) later = flow_after later
flow_of (Err refusal) later = flow.Refused refusal.why

-- A request is answered or refused, and then the program runs, if it is to.
pub record ReactsAs (x : Reaction) (r : Request) (how : Flow) (b : Adapter) (old new : Outbox) : Type 0 where
  -- the one response: of this body, or a refusal
  pub body : Result Data Refusal
  pub fits : Fits x.outcome body
  pub flow : how ≡ flow_of body x.later
  pub mid : Adapter
  pub between : Outbox
  pub timeline : mid.session.timeline ≡ x.timeline
  pub points : mid.points ≡ with_kind x.sets mid.points x.points
  pub fault : mid.fault ≡ x.fault
  pub printed : mid.printed ≡ x.printed
  pub told : AddsAnswer (answer_message r body) x.events old between
  pub goes : GoesOn x.later mid b between new

abbrev pub Reacts : Result Kind Fault → Request → Adapter → Flow → Adapter → Outbox → Outbox → Type 0
Reacts asked r a how b old new = ReactsAs (reaction_to asked r a) r how b old new

-- ---- for want of memory

-- a stage stands of what it asks of the session
abbrev pub Begins : Kind → Request → SessionState → Timeline → Type 0
Begins kind.Restart r s new = Begun (effect_of s.timeline ask.BackAll) new
Begins kind.Write r s new = WrittenSome (write_asked s r) s.timeline new
Begins kind.StepOver r s new = Begun (effect_of_deed deed.Step s.timeline) new
Begins (kind.Act act) r s new = Leaves {T = Fault} (deed_asked act r s) s.timeline new (Err refused.Memory)
Begins other r s new = new ≡ s.timeline

-- or a part of the run that follows it
abbrev pub RunsPartly : Then → PointsState → Timeline → Timeline → Type 0
RunsPartly then.Wait points t new = ⊥
RunsPartly (then.Run way) points t new = (ended : Option End) × (now : PointsState) × Ran way points t ended now new
RunsPartly then.End points t new = ⊥

abbrev pub Leaving : Kind → Request → Adapter → Timeline → Type 0
Leaving kind r a new = let x = reaction kind r a in
    (new ≡ a.session.timeline) ⊎ (Begins kind r a.session new
    ⊎ ((points : PointsState) × (points ≡ with_kind x.sets points x.points) × RunsPartly x.later points x.timeline new))

abbrev pub ReactsPartly : Result Kind Fault → Request → Adapter → Timeline → Type 0
ReactsPartly (Err why) r a new = new ≡ a.session.timeline
ReactsPartly (Ok k) r a new = Leaving k r a new

-- ---- what is kept

-- what nothing alters: what the launch and the client said
abbrev pub KeepsSaid : Adapter → Adapter → Type 0
KeepsSaid a b = (b.name ≡ a.name) × (b.client ≡ a.client) × (b.opening ≡ a.opening)

-- what no request alters but one that sets breakpoints: those too
abbrev pub Keeps : Adapter → Adapter → Type 0
Keeps a b = (b.name ≡ a.name) × (b.client ≡ a.client) × (b.opening ≡ a.opening) × (b.points ≡ a.points)
