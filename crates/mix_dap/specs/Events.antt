-- Events that are told one after the other.
use Rattle.std.specs.Prelude.{◌≡◌, ℕ, List, [], ◌∷◌, ◌++◌, codes, Bool, true, false}
use Rattle.serde_json.specs.Data.{Data, null, string, array, object, no_members, put}
use Rattle.serde_json.specs.View.{items_of}
use Rattle.rpc_message.specs.declared.outbox.Outbox.{Outbox}
use Rattle.rpc_message.specs.Message.{next_seq, waits, event_message}
use Rattle.mix_dap.specs.Stopped.{Why, only, stopped_body}
use Rattle.mix_dap.specs.declared.capabilities.Client.{Client}
use Rattle.mix_dap.specs.declared.launch.Opening.{Opening}
use Rattle.mix_dap.specs.declared.launch.Opening.TheVariants as opening

-- an event: its name, and its body
pub record Event : Type 0 where
  pub name : List ℕ
  pub body : Data

-- the messages of events, each with the next number
abbrev pub event_messages : ℕ → List Event → List Data
event_messages seq [] = []
event_messages seq (event ∷ rest) = event_message (next_seq seq) event.name event.body ∷ event_messages (next_seq seq) rest

-- the number of the last of them
abbrev pub last_seq : ℕ → List Event → ℕ
last_seq seq [] = seq
last_seq seq (event ∷ rest) = last_seq (next_seq seq) rest

-- to the messages that wait come exactly these events
pub record AddsEvents (events : List Event) (old new : Outbox) : Type 0 where
  pub told : waits new ≡ waits old ++ event_messages old.seq events
  pub seq : new.seq ≡ last_seq old.seq events

-- to the messages that wait come this one and exactly these events
pub record AddsAnswer (message : ℕ → Data) (events : List Event) (old new : Outbox) : Type 0 where
  pub told : waits new ≡ waits old ++ message (next_seq old.seq) ∷ event_messages (next_seq old.seq) events
  pub seq : new.seq ≡ last_seq (next_seq old.seq) events

-- these messages are those that come to an outbox in which none waits: the last one before them has this number, and the last of them that one
pub record Sends (messages : List Data) (before last : ℕ) (adds : Outbox → Outbox → Type 0) : Type 0 where
  pub old : Outbox
  pub new : Outbox
  pub none : waits old ≡ []
  pub all : waits new ≡ messages
  pub follow : old.seq ≡ before
  pub lead : new.seq ≡ last
  pub added : adds old new

-- the program stopped, for this reason
abbrev pub stopped : Why → Event
stopped why = record { name = codes "stopped"; body = stopped_body why }

-- a program was launched, and the client may set its breakpoints
abbrev pub initialized : Event
initialized = record { name = codes "initialized"; body = null }

-- the program ended
abbrev pub terminated : Event
terminated = record { name = codes "terminated"; body = null }

-- all that the client shows is out of date
abbrev pub all_areas : Data
all_areas = object (put (codes "areas") (array (items_of (string (codes "all") ∷ []))) no_members)

abbrev pub out_of_date : Event
out_of_date = record { name = codes "invalidated"; body = all_areas }

-- a client is told so if it hears that
abbrev pub invalidated_if : Bool → List Event
invalidated_if true = out_of_date ∷ []
invalidated_if false = []

abbrev pub invalidated : Client → List Event
invalidated client = invalidated_if client.hears_invalidated

-- the program stops at its beginning, if the launch asked for that
abbrev pub beginning : Opening → List Event
beginning opening.Stops = stopped (only (codes "entry")) ∷ []
beginning opening.Runs = []
beginning opening.Free = []
