-- How a talk came to its end.
use Rattle.std.specs.Prelude.{◌≡◌, ◌⊎◌, ◌≤◌, ◌-◌, ◌^◌, ℕ, List, [], ◌∷◌, Option, None, Some, Result, Ok, Err}
use Rattle.serde_json.specs.Data.{Data}
use Rattle.rpc_message.specs.declared.request.Request.{Request}
use Rattle.rpc_stream.specs.Asked.{Frame}
use Rattle.rpc_stream.specs.BrokenOff.{BrokenOff}
use Rattle.rpc_stream.specs.Heard.{Hears}
use Rattle.rpc_stream.specs.Hearing.{HearsAs}
use Rattle.rpc_stream.specs.Serving.{Phase, going, over, Steps, Takes}
use Rattle.rpc_stream.specs.Talk.{Talks}
use Rattle.rpc_stream.specs.declared.broken.Broken.{Broken}
use Rattle.rpc_stream.specs.declared.broken.Broken.TheVariants as broken
use Rattle.rpc_stream.specs.declared.hear.Heard.TheVariants as heard
use Rattle.rpc_stream.specs.declared.serves.Turn.{Turn}
use Rattle.rpc_stream.specs.declared.serves.Turn.TheVariants as turn

-- the client is done, or its input is at its end, or it had as many exchanges as are counted
abbrev pub IsEnd : {S : Type 0} → Phase S → ℕ → Option (List ℕ) → Option (List ℕ) → Type 0
IsEnd (going s) count left new = HearsAs (Ok heard.End) left new ⊎ ((2 ^ 64 - 1 ≤ count) × (new ≡ left))
IsEnd (over s) count left new = new ≡ left

abbrev pub state_in : {S : Type 0} → Phase S → S
state_in (going s) = s
state_in (over s) = s

-- A talk was had to its end, from a state to another: its frames were heard, one after the other, and the messages of each exchange were sent, and nothing
-- else.
pub record Ended {S : Type 0} (step : Phase S → Frame → List Data → Phase S → Type 0) (s t : S) (old new told now : Option (List ℕ)) : Type 0 where
  pub phase : Phase S
  pub count : ℕ
  pub rest : Option (List ℕ)
  pub talks : Talks step (going s) phase count old rest told now
  pub state : state_in phase ≡ t
  pub end : IsEnd phase count rest new

-- A talk was had up to where the bytes that are still to be heard break it off, or reading them does: all frames that were heard are answered.
pub record Stuck {S : Type 0} (step : Phase S → Frame → List Data → Phase S → Type 0) (why : Broken) (s : S) (old new told now : Option (List ℕ)) : Type 0 where
  pub state : S
  pub count : ℕ
  pub rest : Option (List ℕ)
  pub talks : Talks step (going s) (going state) count old rest told now
  pub breaks : HearsAs (Err why) rest new

-- How it came to this result. Where a read fails, all frames that were heard are answered; where a write fails, all but the last one, and of what is told
-- for that one a beginning is sent; where memory is refused, it is the one or the other.
abbrev pub TalkedAs : {S : Type 0} → (S × ℕ → Request → List Data → Turn → S × ℕ → Type 0)
    → Result Unit Broken → S × ℕ → S × ℕ → Option (List ℕ) → Option (List ℕ) → Option (List ℕ) → Option (List ℕ) → Type 0
TalkedAs serves (Ok done) s t old new told now = Ended (Steps serves) s t old new told now
TalkedAs serves (Err broken.Cut) s t old new told now = Stuck (Steps serves) broken.Cut s old new told now
TalkedAs serves (Err broken.TooLong) s t old new told now = Stuck (Steps serves) broken.TooLong s old new told now
TalkedAs serves (Err broken.Read) s t old new told now = Stuck (Steps serves) broken.Read s old new told now
TalkedAs serves (Err broken.Write) s t old new told now = BrokenOff (Steps serves) s old new told now
TalkedAs serves (Err broken.Memory) s t old new told now =
    Stuck (Steps serves) broken.Memory s old new told now ⊎ BrokenOff (Steps serves) s old new told now

-- the same of one frame: it is one exchange, after which the talk goes on, or the end
abbrev pub TurnAs : {S : Type 0} → (S × ℕ → Request → List Data → Turn → S × ℕ → Type 0)
    → Result Turn Broken → S × ℕ → S × ℕ → Option (List ℕ) → Option (List ℕ) → Option (List ℕ) → Option (List ℕ) → Type 0
TurnAs serves (Ok turn.On) s t old new told now = Talks (Steps serves) (going s) (going t) 1 old new told now
TurnAs serves (Ok turn.Over) s t old new told now = TalkedAs serves (Ok tt) s t old new told now
TurnAs serves (Err why) s t old new told now = TalkedAs serves (Err why) s t old new told now

-- What waits to be sent for the next frame: its answer. At the end there is no frame; what breaks it off is not heard, or memory is refused for its answer.
abbrev pub TakenAs : {S : Type 0} → (S × ℕ → Request → List Data → Turn → S × ℕ → Type 0)
    → Result (Option Turn) Broken → S × ℕ → S × ℕ → Option (List ℕ) → Option (List ℕ) → List Data → Type 0
TakenAs serves (Ok None) s t old new waits = HearsAs (Ok heard.End) old new × (t ≡ s)
TakenAs serves (Ok (Some next)) s t old new waits = (frame : Frame) × Hears old (frame ∷ []) new × Takes serves s frame waits next t
TakenAs serves (Err why) s t old new waits = HearsAs (Err why) old new ⊎ ((why ≡ broken.Memory) × (frame : Frame) × Hears old (frame ∷ []) new)
