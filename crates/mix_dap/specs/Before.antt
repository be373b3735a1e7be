-- How a request is answered before a program is launched.
use Rattle.std.specs.Prelude.{◌≡◌, ℕ, List, [], ◌∷◌, Option, None, Some, Result, Ok, Err}
use Rattle.rpc_message.specs.declared.outbox.Outbox.{Outbox}
use Rattle.rpc_message.specs.declared.request.Request.{Request}
use Rattle.mix_dap.specs.Capabilities.{client_of}
use Rattle.mix_dap.specs.Events.{Event, terminated}
use Rattle.mix_dap.specs.Replies.{AddsRefusal, AnswersAs, Outcome, denied, looked, served}
use Rattle.mix_dap.specs.Texts.{Known, AreTexts, RefusesTexts}
use Rattle.dap_asked.specs.declared.fault.Fault.{Fault}
use Rattle.dap_asked.specs.declared.kind.Kind.{Kind}
use Rattle.dap_asked.specs.declared.fault.Fault.TheVariants as fault
use Rattle.mix_dap.specs.declared.capabilities.Client.{Client}
use Rattle.dap_asked.specs.declared.kind.Kind.TheVariants as kind
use Rattle.mix_dap.specs.declared.waiting.Asked.{Asked}
use Rattle.mix_dap.specs.declared.waiting.Asked.TheVariants as asked

-- how a request is answered that is no launch: what needs a program is refused, and a text is looked at
abbrev pub answer_before : Kind → Option Outcome
answer_before kind.Initialize = Some served
answer_before kind.Terminate = Some served
answer_before kind.Disconnect = Some served
answer_before kind.Launch = None
answer_before (kind.Given given) = Some looked
answer_before other = Some (denied fault.NotLaunched)

-- what is told after its answer
abbrev pub events_before : Kind → List Event
events_before kind.Terminate = terminated ∷ []
events_before other = []

-- and what comes then
abbrev pub later_before : Kind → Asked
later_before kind.Disconnect = asked.Over
later_before other = asked.Answered

-- a launch is refused, since a text can't be had, or it waits with its texts, of which a library knows this
abbrev pub LaunchShows : (List ℕ → Known) → Asked → Request → Outbox → Outbox → Type 0
LaunchShows knows asked.Answered r old new = (why : Fault) × RefusesTexts knows r why × AddsRefusal r why [] old new
LaunchShows knows asked.Over r old new = ⊥
LaunchShows knows (asked.Launch texts) r old new = AreTexts knows r texts × (new ≡ old)

abbrev pub ShowsBefore : (List ℕ → Known) → Option Outcome → List Event → Asked → Asked → Request → Outbox → Outbox → Type 0
ShowsBefore knows None events later how r old new = LaunchShows knows how r old new
ShowsBefore knows (Some outcome) events later how r old new = (how ≡ later) × AnswersAs outcome r events old new

-- by what it is about: one of no known name, or with an argument that is not what it has to be, is always refused
abbrev pub AskedShows : (List ℕ → Known) → Result Kind Fault → Asked → Request → Outbox → Outbox → Type 0
AskedShows knows (Err why) how r old new = ShowsBefore knows (Some (denied why)) [] asked.Answered how r old new
AskedShows knows (Ok k) how r old new = ShowsBefore knows (answer_before k) (events_before k) (later_before k) how r old new

-- whether a launch is asked for
abbrev pub IsLaunch : Result Kind Fault → Type 0
IsLaunch (Err why) = ⊥
IsLaunch (Ok k) = k ≡ kind.Launch

-- what the client is known to be like: what it says when it begins
abbrev pub kind_client : Kind → Request → Client → Client
kind_client kind.Initialize r client = client_of r
kind_client other r client = client

abbrev pub client_after : Result Kind Fault → Request → Client → Client
client_after (Err why) r client = client
client_after (Ok k) r client = kind_client k r client
