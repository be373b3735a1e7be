-- How a request is answered: with one response, whose body is not said here, or with a refusal.
use Rattle.std.specs.Prelude.{◌≡◌, ℕ, List, Result, Ok, Err}
use Rattle.serde_json.specs.Data.{Data}
use Rattle.rpc_message.specs.declared.outbox.Outbox.{Outbox}
use Rattle.rpc_message.specs.declared.request.Request.{Request}
use Rattle.rpc_message.specs.Message.{reply_message, refusal_message}
use Rattle.dap_asked.specs.declared.fault.Fault.{Fault}
use Rattle.dap_asked.specs.Fault.{fault_number}
use Rattle.mix_dap.specs.Events.{Event, AddsAnswer}

-- why a request is refused, and in which words, which are not said here
pub record Refusal : Type 0 where
  pub why : Fault
  pub text : List ℕ
  pub place : Data

-- the message that answers a request: with this as its body, or with why it is refused
abbrev pub answer_message : Request → Result Data Refusal → ℕ → Data
answer_message r (Ok shown) seq = reply_message seq r shown
answer_message r (Err refusal) seq = refusal_message seq r (fault_number refusal.why) refusal.text refusal.place

-- it is served, or refused for this reason, or, where it only looks, the one or the other
pub data Outcome : Type 0 where
  served : Outcome
  denied : Fault → Outcome
  looked : Outcome

abbrev pub Serves : Outcome → Type 0
Serves served = Unit {0}
Serves (denied why) = ⊥
Serves looked = Unit {0}

abbrev pub Denies : Outcome → Fault → Type 0
Denies served why = ⊥
Denies (denied wrong) why = why ≡ wrong
Denies looked why = Unit {0}

-- whether a response is of that kind
abbrev pub Fits : Outcome → Result Data Refusal → Type 0
Fits outcome (Ok body) = Serves outcome
Fits outcome (Err refusal) = Denies outcome refusal.why

-- to the messages that wait come a response, with some body or some refusal, and exactly these events
pub record AddsEither (r : Request) (events : List Event) (old new : Outbox) : Type 0 where
  pub body : Result Data Refusal
  pub adds : AddsAnswer (answer_message r body) events old new

-- with some body
pub record AddsReply (r : Request) (events : List Event) (old new : Outbox) : Type 0 where
  pub body : Data
  pub adds : AddsAnswer (answer_message r (Ok body)) events old new

-- with a refusal for this reason
pub record AddsRefusal (r : Request) (why : Fault) (events : List Event) (old new : Outbox) : Type 0 where
  pub text : List ℕ
  pub place : Data
  pub adds : AddsAnswer (answer_message r (Err (record { why = why; text = text; place = place }))) events old new

abbrev pub AnswersAs : Outcome → Request → List Event → Outbox → Outbox → Type 0
AnswersAs served r events old new = AddsReply r events old new
AnswersAs (denied why) r events old new = AddsRefusal r why events old new
AnswersAs looked r events old new = AddsEither r events old new
