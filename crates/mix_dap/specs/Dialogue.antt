-- A dialogue of the adapter with its client.
use Rattle.std.specs.Prelude.{◌≡◌, ◌⊎◌, ◌++◌, ℕ, List, [], codes, Bool, true, false, Option, Result, Ok, Err, IsErr}
use Rattle.std.specs.Io.KnownBytes.{Appends, prepend_known}
use Rattle.serde_json.specs.Data.{Data}
use Rattle.dap_asked.specs.Kind.{IsAsked}
use Rattle.dap_asked.specs.declared.fault.Fault.{Fault}
use Rattle.dap_asked.specs.declared.kind.Kind.{Kind}
use Rattle.rpc_message.specs.declared.request.Request.{Request}
use Rattle.rpc_frame.specs.Frame.{first_frame, partial}
use Rattle.rpc_stream.specs.Prelude.{broken_text, TalkedAs}
use Rattle.rpc_stream.specs.declared.broken.Broken.{Broken}
use Rattle.rpc_stream.specs.declared.broken.Broken.TheVariants as broken
use Rattle.mix_dap.specs.Answer.{HasTexts, LaunchTells}
use Rattle.mix_dap.specs.Before.{AskedShows, IsLaunch, client_after}
use Rattle.mix_dap.specs.Capabilities.{unknown_client}
use Rattle.mix_dap.specs.Events.{Sends}
use Rattle.mix_dap.specs.Launch.{launched_of}
use Rattle.mix_dap.specs.Output.{none_told}
use Rattle.mix_dap.specs.Texts.{AreTexts, Known}
use Rattle.mix_dap.specs.declared.adapter.Adapter.{Adapter}
use Rattle.mix_dap.specs.declared.capabilities.Client.{Client}
use Rattle.mix_dap.specs.declared.launch.Texts.{Texts}
use Rattle.mix_dap.specs.declared.waiting.Asked.{Asked}
use Rattle.mix_dap.specs.declared.waiting.Asked.TheVariants as asked
use Rattle.rpc_stream.specs.declared.serves.Turn.{Turn}
use Rattle.rpc_stream.specs.declared.serves.Turn.TheVariants as turn
use Rattle.mix_dap.specs.Reacts.{KeepsSaid, Reacts}
use Rattle.mix_dap.specs.declared.adapter.Flow.{Flow}
use Rattle.mix_dap.specs.declared.adapter.Flow.TheVariants as flow

-- ---- how the client of a launched program is answered

abbrev pub turn_of : Flow → Turn
turn_of flow.On = turn.On
turn_of (flow.Refused why) = turn.On
turn_of flow.Over = turn.Over

-- a request of a launched program; the last messages before it and for it have these numbers
pub record AdapterServes (a : Adapter × ℕ) (request : Request) (told : List Data) (next : Turn) (b : Adapter × ℕ) : Type 0 where
  pub asked : Result Kind Fault
  pub is_asked : IsAsked asked request
  pub flow : Flow
  pub next_is : next ≡ turn_of flow
  pub program : b.0.session.program ≡ a.0.session.program
  pub first : b.0.session.timeline.first ≡ a.0.session.timeline.first
  pub keeps : KeepsSaid a.0 b.0
  pub reacts : Sends told a.1 b.1 (λ old new. Reacts asked request a.0 flow b.0 old new)

-- the line that tells what ended a dialogue, or that memory was refused for it
abbrev pub line_of : List ℕ → List ℕ
line_of text = codes "mixrev: " ++ text ++ codes "\n"

abbrev pub TellsBroken : Broken → Option (List ℕ) → Option (List ℕ) → Type 0
TellsBroken why old new = Appends old new (line_of (broken_text why)) ⊎ Appends old new (line_of (broken_text broken.Memory))

-- where a dialogue is: a launch of such a client is waited for, a program is debugged, or the client is done
pub data Stage : Type 0 where
  waiting : Client → Stage
  debugs : Adapter → Stage
  done : Stage

-- a launch that was asked for, with these texts: those that it gives, and of files what was known of them
abbrev pub Launches : Result Kind Fault → Request → Texts → Type 0
Launches kind request texts = IsLaunch kind × (knows : List ℕ → Known) × AreTexts knows request texts

-- where a dialogue is, and the number of the last message
abbrev pub Reached : Type 0
Reached = Stage × ℕ

-- no request was heard yet
abbrev pub at_first : Reached
at_first = (waiting unknown_client, 0)

-- it is answered, and what belongs to its answer is told
abbrev pub Opens : Result Kind Fault → Request → Texts → List Data → ℕ → ℕ → Type 0
Opens kind request texts told before last = Launches kind request texts
    × Sends told before last (λ old new. LaunchTells request texts old new)

-- another request is answered
abbrev pub Replied : Asked → Result Kind Fault → Request → List Data → ℕ → ℕ → Type 0
Replied asked kind request told before last =
    (knows : List ℕ → Known) × Sends told before last (λ old new. AskedShows knows kind asked request old new)

-- an adapter is as it begins, for these texts and this client: nothing is told of its rows
abbrev pub BeginsAs : Adapter → Texts → Client → Type 0
BeginsAs a texts client =
    (launched_of texts ≡ Ok a.session) × HasTexts a texts × (a.client ≡ client) × (a.printed ≡ none_told)

-- a request of a client before a program is launched, and what is waited for after it
abbrev pub BeforeStepsAs : Result Kind Fault → Client → ℕ → Request → List Data → Stage → ℕ → Type 0
BeforeStepsAs kind client before request told (waiting next) last = (next ≡ client_after kind request client)
    × (Replied asked.Answered kind request told before last ⊎ ((texts : Texts) × IsErr (launched_of texts) × Opens kind request texts told before last))
BeforeStepsAs kind client before request told (debugs a) last =
    (texts : Texts) × BeginsAs a texts (client_after kind request client) × Opens kind request texts told before last
BeforeStepsAs kind client before request told done last = Replied asked.Over kind request told before last

-- by what it is about
abbrev pub BeforeSteps : Client → ℕ → Request → List Data → Stage → ℕ → Type 0
BeforeSteps client before request told next last =
    (kind : Result Kind Fault) × IsAsked kind request × BeforeStepsAs kind client before request told next last

-- whether the client is done, or the dialogue was broken off
abbrev pub is_over : Stage → Bool
is_over (waiting client) = false
is_over (debugs a) = false
is_over done = true

-- a talk goes on up to where the client is done
abbrev pub turn_at : Stage → Turn
turn_at (waiting client) = turn.On
turn_at (debugs a) = turn.On
turn_at done = turn.Over

-- a request is answered; one of a client that is done is not
abbrev pub StageAnswers : Stage → ℕ → Request → List Data → Stage → ℕ → Type 0
StageAnswers (waiting client) before request told next last = BeforeSteps client before request told next last
StageAnswers (debugs a) before request told (waiting client) last = ⊥
StageAnswers (debugs a) before request told (debugs b) last = AdapterServes (a, before) request told turn.On (b, last)
StageAnswers (debugs a) before request told done last = (b : Adapter) × AdapterServes (a, before) request told turn.Over (b, last)
StageAnswers done before request told next last = (told ≡ []) × (next ≡ done)

abbrev pub StageServes : Reached → Request → List Data → Turn → Reached → Type 0
StageServes from request told next to = (next ≡ turn_at to.0) × StageAnswers from.0 from.1 request told to.0 to.1

-- where a dialogue is after a talk that came to its end there: one that was broken off is over
abbrev pub EndsAs : Result Unit Broken → Reached → Reached → Type 0
EndsAs (Ok ended) end to = to ≡ end
EndsAs (Err why) end to = to.0 ≡ done

-- A dialogue goes on from a stage with the input as it is: what serves the stages has a talk with the client. What is left of the input at its end was
-- not read, or read and not heard. After its end nothing is heard.
abbrev pub GoesBy : Bool → Reached → Result Unit Broken → Reached → Option (List ℕ) → Option (List ℕ) → Option (List ℕ) → Option (List ℕ) → Type 0
GoesBy true from result to old new told now = (result ≡ Ok tt) × (to ≡ from) × (new ≡ old) × (now ≡ told)
GoesBy false from result to old new told now =
    (kept : List ℕ) × (end : Reached) × EndsAs result end to × (result ≡ Err broken.Read → first_frame kept ≡ partial)
    × TalkedAs StageServes result from end old (prepend_known kept new) told now

abbrev pub GoesOnAs : Reached → Result Unit Broken → Reached → Option (List ℕ) → Option (List ℕ) → Option (List ℕ) → Option (List ℕ) → Type 0
GoesOnAs from result to old new told now = GoesBy (is_over from.0) from result to old new told now

-- A whole dialogue: it begins where a launch of a client is waited for that has said nothing.
abbrev pub DialogueAs : Result Unit Broken → Option (List ℕ) → Option (List ℕ) → Option (List ℕ) → Option (List ℕ) → Type 0
DialogueAs result old new told now = (to : Reached) × GoesOnAs at_first result to old new told now
