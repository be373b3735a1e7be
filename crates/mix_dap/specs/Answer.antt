-- What a launch is answered with, what is told then, and how its adapter begins.
use Rattle.std.specs.Prelude.{◌≡◌, ℕ, List, [], ◌∷◌, ◌++◌, codes, string_bytes, None, Result, Ok, Err}
use Rattle.std.specs.Str.Lossy.{utf8_lossy}
use Rattle.mix_session.specs.Session.{SessionState}
use Rattle.rpc_message.specs.declared.outbox.Outbox.{Outbox}
use Rattle.rpc_message.specs.declared.request.Request.{Request}
use Rattle.mix_dap.specs.Events.{AddsEvents, Event, initialized}
use Rattle.mix_dap.specs.Launch.{launched_of}
use Rattle.mix_dap.specs.Output.{output}
use Rattle.mix_dap.specs.Replies.{AnswersAs, Outcome, denied, served}
use Rattle.dap_points.specs.Points.{no_points}
use Rattle.mix_dap.specs.declared.adapter.Adapter.{Adapter}
use Rattle.dap_asked.specs.declared.fault.Fault.{Fault}
use Rattle.mix_dap.specs.declared.launch.Texts.{Texts}

-- a launch is done, unless a text of it is refused
abbrev pub launch_outcome : Result SessionState Fault → Outcome
launch_outcome (Ok session) = served
launch_outcome (Err why) = denied why

-- what there is to say of a source, if there is something
abbrev pub report_told : List ℕ → List Event
report_told [] = []
report_told (byte ∷ text) = output (codes "stderr") (utf8_lossy (byte ∷ text)) ∷ []

-- a report of the source is told
pub record TellsReport (old new : Outbox) : Type 0 where
  pub report : List ℕ
  pub told : AddsEvents (report_told report) old new

-- what a launch tells after its answer: the report, and, if it is done, that the client may begin
abbrev pub launch_events : List Event → Result SessionState Fault → List Event
launch_events said (Ok session) = said ++ initialized ∷ []
launch_events said (Err why) = said

pub record LaunchTells (r : Request) (texts : Texts) (old new : Outbox) : Type 0 where
  pub report : List ℕ
  pub told : AnswersAs (launch_outcome (launched_of texts)) r (launch_events (report_told report) (launched_of texts)) old new

-- an adapter is as its launch asked: the names of its source, how it begins, no breakpoint, and no fault
abbrev pub HasTexts : Adapter → Texts → Type 0
HasTexts a texts = (string_bytes a.name ≡ string_bytes texts.name) × (a.opening ≡ texts.opening) × (a.points ≡ no_points) × (a.fault ≡ None)
