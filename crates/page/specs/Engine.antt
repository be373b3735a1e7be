-- An engine: a dialogue that stays between two calls.
use Rattle.std.specs.Prelude.{◌≡◌, ◌<◌, ◌≤◌, ℕ, List, [], Option, None, Some, Result, Ok, Err, length, take, drop}
use Rattle.rpc_stream.specs.declared.broken.Broken.{Broken}
use Rattle.rpc_stream.specs.declared.broken.Broken.TheVariants as broken
use Rattle.mix_dap.specs.Dialogue.{GoesOnAs, Reached, at_first}

pub record EngineValue : Type 0 where
  -- where the dialogue is, and the number of its last message
  pub reached : Reached
  -- what was sent in it and is not given yet
  pub unread : List ℕ

-- nothing was heard yet
abbrev pub opened : EngineValue
opened = record { reached = at_first; unread = [] }

-- the dialogue goes on over messages, and what is sent stands behind what was sent before
abbrev pub Asks : EngineValue → List ℕ → Result Unit Broken → EngineValue → Type 0
Asks from messages result to =
    (left : List ℕ) × GoesOnAs from.reached result to.reached (Some messages) (Some left) (Some from.unread) (Some to.unread)

-- the status of a call in which the dialogue was broken off: memory was refused, or the messages are no whole frames
abbrev pub status_of : Broken → ℕ
status_of broken.Memory = 1
status_of broken.Write = 1
status_of broken.Read = 1
status_of broken.TooLong = 2
status_of broken.Cut = 2

-- a text stands at the beginning of a room, the rest of which is as it was
pub record IsGiven (text before after : List ℕ) : Type 0 where
  pub fits : length text ≤ length before
  pub begins : take (length text) after ≡ text
  pub others : drop (length text) after ≡ drop (length text) before

-- Where the engine is after messages all of which were answered, and all that was sent is given.
pub record Answered (old new : Option EngineValue) (messages before after : List ℕ) (count : ℕ) : Type 0 where
  pub from : EngineValue
  pub to : EngineValue
  pub was : old ≡ Some from
  pub asks : Asks from messages (Ok tt) to
  pub count_is : count ≡ length to.unread
  pub given : IsGiven to.unread before after
  pub stays : new ≡ Some (record to { unread = [] })

-- The same where what was sent is longer than the room: it waits for the next call.
pub record Waits (old new : Option EngineValue) (messages before after : List ℕ) (count : ℕ) : Type 0 where
  pub from : EngineValue
  pub to : EngineValue
  pub was : old ≡ Some from
  pub asks : Asks from messages (Ok tt) to
  pub count_is : count ≡ length to.unread
  pub long : length before < count
  pub room : after ≡ before
  pub stays : new ≡ Some to

-- The dialogue was broken off, and with it the engine is closed. What was sent until then is given, unless it is longer than the room.
pub record Closes (status : ℕ) (old new : Option EngineValue) (messages before after : List ℕ) (count : ℕ) : Type 0 where
  pub from : EngineValue
  pub to : EngineValue
  pub why : Broken
  pub was : old ≡ Some from
  pub asks : Asks from messages (Err why) to
  pub status_is : status ≡ status_of why
  pub count_is : count ≡ length to.unread
  pub given : count ≤ length before → IsGiven to.unread before after
  pub room : length before < count → after ≡ before
  pub closed : new ≡ None

-- nothing is open
pub record Closed (old new : Option EngineValue) (before after : List ℕ) (count : ℕ) : Type 0 where
  pub none : old ≡ None
  pub stays : new ≡ None
  pub count_is : count ≡ 0
  pub room : after ≡ before
