-- Messages: the value of each, and what one says to the client that hears it.
use Rattle.std.specs.Prelude.{◌≡◌, ◌+◌, ◌%◌, ◌^◌, ◌≤◌, ℕ, List, [], ◌∷◌, ◌++◌, map, codes, Bool, true, false, Some, is_some, if◌then◌else◌}
use Rattle.serde_json.specs.Data.{Data, boolean, number, string, object, unsigned, Members, no_members, put, depth}
use Rattle.serde_json.specs.Find.{as_null}
use Rattle.serde_json.specs.Read.{read, max_depth}
use Rattle.serde_json.specs.View.{view}
use Rattle.serde_json.specs.Written.{IsInOrder}
use Rattle.rpc_message.specs.Request.{name_of}
use Rattle.rpc_message.specs.declared.request.Request.{Request}
use Rattle.rpc_message.specs.declared.outbox.Outbox.{Outbox}

-- a member, but for one that is null
abbrev pub put_unless_null : List ℕ → Data → Members → Members
put_unless_null name d ms = if is_some (as_null d) then ms else put name d ms

-- what every response says
abbrev pub response_head : Request → Bool → Members
response_head to success =
    put (codes "success") (boolean success) (put (codes "command") (string (name_of to))
    (put (codes "request_seq") (number (unsigned to.seq)) (put (codes "type") (string (codes "response")) no_members)))

-- the number of the next message
abbrev pub next_seq : ℕ → ℕ
next_seq seq = (seq + 1) % 2 ^ 64

-- a message of a number, with its body, where that is not null
abbrev pub numbered : ℕ → Members → Data → Data
numbered seq head body = object (put_unless_null (codes "body") body (put (codes "seq") (number (unsigned seq)) head))

-- the answer of a request that was done
abbrev pub reply_message : ℕ → Request → Data → Data
reply_message seq to body = numbered seq (response_head to true) body

-- the answer of a request that was refused, with its number and its text
abbrev pub refusal_error : ℕ → List ℕ → Data → Data
refusal_error number_of_fault text variables =
    object (put_unless_null (codes "variables") variables (put (codes "showUser") (boolean true)
    (put (codes "format") (string text) (put (codes "id") (number (unsigned number_of_fault)) no_members))))

abbrev pub refusal_body : ℕ → List ℕ → Data → Data
refusal_body number_of_fault text variables = object (put (codes "error") (refusal_error number_of_fault text variables) no_members)

abbrev pub refusal_message : ℕ → Request → ℕ → List ℕ → Data → Data
refusal_message seq to number_of_fault text variables =
    numbered seq (put (codes "message") (string text) (response_head to false)) (refusal_body number_of_fault text variables)

-- an event
abbrev pub event_message : ℕ → List ℕ → Data → Data
event_message seq name body = numbered seq (put (codes "event") (string name) (put (codes "type") (string (codes "event")) no_members)) body

-- the event that tells a text, of a category
abbrev pub output_body : List ℕ → List ℕ → Data
output_body category text = object (put (codes "output") (string text) (put (codes "category") (string category) no_members))

abbrev pub output_message : ℕ → List ℕ → List ℕ → Data
output_message seq category text = event_message seq (codes "output") (output_body category text)

-- the messages that wait
abbrev pub waits : Outbox → List Data
waits out = map view out.messages.items

-- one message more waits, of the next number
abbrev pub Adds : Outbox → Outbox → (ℕ → Data) → Type 0
Adds old new message = (waits new ≡ waits old ++ message (next_seq old.seq) ∷ []) × (new.seq ≡ next_seq old.seq)

-- no message more waits
abbrev pub Stays : Outbox → Outbox → Type 0
Stays old new = (waits new ≡ waits old) × (new.seq ≡ old.seq)

-- a text that says a message: each of its members once and in order; it reads back to the message, unless that nests deeper than JSON is read
abbrev pub IsTextOf : List ℕ → Data → Type 0
IsTextOf text message = IsInOrder text message × (depth message ≤ max_depth → read text ≡ Some message)
