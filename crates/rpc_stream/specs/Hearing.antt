-- What is heard of bytes that are still to be heard.
use Rattle.std.specs.Prelude.{◌≡◌, ◌≢◌, ℕ, List, [], ◌∷◌, Option, None, Some, option_map, Result, Ok, Err}
use Rattle.std.specs.Io.KnownBytes.{Keeps, prepend_known}
use Rattle.rpc_frame.specs.Frame.{First, partial, too_long, first_frame}
use Rattle.rpc_stream.specs.Heard.{HearsBodies}
use Rattle.rpc_stream.specs.declared.broken.Broken.{Broken}
use Rattle.rpc_stream.specs.declared.broken.Broken.TheVariants as broken
use Rattle.rpc_stream.specs.declared.hear.Ear.{Ear}
use Rattle.rpc_stream.specs.declared.hear.Heard.{Heard}
use Rattle.rpc_stream.specs.declared.hear.Heard.TheVariants as heard

-- the bytes that were read and not yet heard
abbrev pub kept : Ear → List ℕ
kept ear = ear.bytes.items

-- the bytes that are still to be heard: those, and what is left of the input
abbrev pub unheard : Ear → Option (List ℕ) → Option (List ℕ)
unheard ear left = prepend_known (kept ear) left

-- bytes that are known begin with no whole frame, but with this
abbrev pub OnlyBegins : First → Option (List ℕ) → Type 0
OnlyBegins first None = Unit {0}
OnlyBegins first (Some text) = first_frame text ≡ first

-- nothing is left of bytes that are known
abbrev pub IsOver : Option (List ℕ) → Type 0
IsOver None = Unit {0}
IsOver (Some text) = text ≡ []

abbrev pub IsNotOver : Option (List ℕ) → Type 0
IsNotOver None = Unit {0}
IsNotOver (Some text) = text ≢ []

-- A frame is taken off the bytes, or it is the end of them. What breaks it off is a frame that the end cuts, one that is too long, a read that fails, or
-- memory; after these two all bytes are still to be heard.
abbrev pub HearsAs : Result Heard Broken → Option (List ℕ) → Option (List ℕ) → Type 0
HearsAs (Ok (heard.Frame body)) old new = HearsBodies old (option_map (λ b. b.items) body ∷ []) new
HearsAs (Ok heard.End) old new = IsOver old × HearsBodies old [] new
HearsAs (Err broken.Cut) old new = OnlyBegins partial old × IsNotOver old
HearsAs (Err broken.TooLong) old new = OnlyBegins too_long old
HearsAs (Err broken.Read) old new = Keeps old new
HearsAs (Err broken.Memory) old new = Keeps old new
HearsAs (Err broken.Write) old new = ⊥

-- what is heard of the bytes that were read, whatever follows them
abbrev pub FirstAs : Result (Option Heard) Broken → List ℕ → List ℕ → Type 0
FirstAs (Ok None) old new = (first_frame old ≡ partial) × (new ≡ old)
FirstAs (Ok (Some first)) old new = (more : Option (List ℕ)) → HearsAs (Ok first) (prepend_known old more) (prepend_known new more)
FirstAs (Err why) old new = (why ≢ broken.Read) × ((more : Option (List ℕ)) → HearsAs (Err why) (prepend_known old more) (prepend_known new more))
