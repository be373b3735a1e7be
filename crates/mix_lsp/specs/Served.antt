-- How a client was served: its frames were heard, one after the other, and each request among them
-- was answered once, in its turn.
use Rattle.std.specs.Prelude.{◌≡◌, ◌⊎◌, ◌≤◌, ◌-◌, ◌^◌, ℕ, List, [], ◌∷◌, ◌++◌, codes, length, Option, None, Some, option_to_list, Result, Ok, Err}
use Rattle.std.specs.Io.KnownBytes.{Appends, prepend_known}
use Rattle.serde_json.specs.Data.{Data}
use Rattle.rpc_stream.specs.Prelude.{Body, broken_text, SendsFront, HearsBodies, HearsAs, SendsAll}
use Rattle.rpc_stream.specs.declared.broken.Broken.{Broken}
use Rattle.rpc_stream.specs.declared.broken.Broken.TheVariants as broken
use Rattle.rpc_stream.specs.declared.hear.Heard.TheVariants as heard
use Rattle.mix_lsp.specs.Protocol.{id_asked, id_in, ids_asked, ids_sent, message_of, phase_after, status_after}
use Rattle.mix_lsp.specs.declared.phase.Phase.{Phase}
use Rattle.mix_lsp.specs.declared.phase.Phase.TheVariants as phase

-- how far a server is after some frames
abbrev pub after : Phase → List Body → Phase
after p [] = p
after p (frame ∷ frames) = after (phase_after (message_of frame) p) frames

-- none of them ends it
abbrev pub GoOn : Phase → List Body → Type 0
GoOn p [] = Unit {0}
GoOn p (frame ∷ frames) = (status_after (message_of frame) p ≡ None) × GoOn (phase_after (message_of frame) p) frames

-- Frames were heard, none of which ends the server, and a text of each of these messages was sent,
-- in its frame, and nothing else. Each request has exactly one response among them, which has its
-- `id`, and the responses come in the order of the requests; what is no message is answered with
-- the `id` null. Nothing else has an `id`.
pub record Talks (p q : Phase) (old new told now : Option (List ℕ)) : Type 0 where
  pub frames : List Body
  pub messages : List Data
  pub hears : HearsBodies old frames new
  pub go_on : GoOn p frames
  pub reached : after p frames ≡ q
  pub answers : ids_sent messages ≡ ids_asked frames
  pub sends : SendsAll messages told now

-- a message, or none, is what a frame asks for
abbrev pub IsAnswer : Body → Option Data → Type 0
IsAnswer frame message = id_in message ≡ id_asked (message_of frame)

-- one frame more, which ends it with this status
pub record Ends (p : Phase) (status : ℕ) (old new told now : Option (List ℕ)) : Type 0 where
  pub frame : Body
  pub message : Option Data
  pub hears : HearsBodies old (frame ∷ []) new
  pub ends : status_after (message_of frame) p ≡ Some status
  pub answers : IsAnswer frame message
  pub sends : SendsAll (option_to_list message) told now

-- one frame more, of whose answer a beginning was sent, or nothing
pub record BreaksOff (old new told now : Option (List ℕ)) : Type 0 where
  pub frame : Body
  pub hears : HearsBodies old (frame ∷ []) new
  pub sends : (told ≡ now) ⊎ ((message : Option Data) × IsAnswer frame message × SendsFront (option_to_list message) told now)

-- how a frame was answered: all is done and sent, or a beginning of the answer was sent, or nothing
abbrev pub AnswersAs : Result (Option ℕ) Broken → Body → Phase → Phase → Option (List ℕ) → Option (List ℕ) → Type 0
AnswersAs (Ok end) frame p q told now = (message : Option Data) × IsAnswer frame message
    × (status_after (message_of frame) p ≡ end) × (phase_after (message_of frame) p ≡ q) × SendsAll (option_to_list message) told now
AnswersAs (Err why) frame p q told now =
    (told ≡ now) ⊎ ((message : Option Data) × IsAnswer frame message × SendsFront (option_to_list message) told now)

-- How one turn came out: it goes on, after a frame; it ends, with a frame or at the end of the
-- input; or it is broken off, before a frame or within the answer to it.
abbrev pub TurnAs : Result (Option ℕ) Broken → Phase → Phase → Option (List ℕ) → Option (List ℕ) → Option (List ℕ) → Option (List ℕ) → Type 0
TurnAs (Ok None) p q old new told now = (talks : Talks p q old new told now) × (length talks.frames ≡ 1)
TurnAs (Ok (Some status)) p q old new told now =
    Ends p status old new told now ⊎ ((status ≡ 0) × HearsAs (Ok heard.End) old new × (told ≡ now))
TurnAs (Err why) p q old new told now = (HearsAs (Err why) old new × (told ≡ now)) ⊎ BreaksOff old new told now

-- How it all came out: so many turns went on, and this was the last. After 2 ^ 64 - 1 frames it
-- ends too.
abbrev pub LastAs : Result ℕ Broken → ℕ → Phase → Phase → Option (List ℕ) → Option (List ℕ) → Option (List ℕ) → Option (List ℕ) → Type 0
LastAs (Ok status) count q r old new told now =
    TurnAs (Ok (Some status)) q r old new told now ⊎ ((2 ^ 64 - 1 ≤ count) × (status ≡ 0) × (new ≡ old) × (now ≡ told))
LastAs (Err why) count q r old new told now = TurnAs (Err why) q r old new told now

pub record Served (result : Result ℕ Broken) (p r : Phase) (old new told now : Option (List ℕ)) : Type 0 where
  pub state : Phase
  pub rest : Option (List ℕ)
  pub before : Option (List ℕ)
  pub talks : Talks p state old rest told before
  pub last : LastAs result (length talks.frames) state r rest new before now

-- the same from the first byte of an input, by a server that has heard nothing; some bytes that
-- were read may be left
pub record ServedAs (result : Result ℕ Broken) (old new told now : Option (List ℕ)) : Type 0 where
  pub state : Phase
  pub left : List ℕ
  pub served : Served result phase.New state old (prepend_known left new) told now

-- the line that tells what broke it off
abbrev pub TellsBroken : Broken → Option (List ℕ) → Option (List ℕ) → Type 0
TellsBroken why old new =
    Appends old new (codes "mixrev: " ++ broken_text why ++ codes "\n") ⊎ Appends old new (codes "mixrev: " ++ broken_text broken.Memory ++ codes "\n")
