-- A talk with a client all of whose bytes are there when it begins.
use Rattle.std.specs.Prelude.{◌≡◌, ◌⊎◌, ◌==◌, ℕ, List, [], Some, Ok, Err, length, if◌then◌else◌}
use Rattle.rpc_stream.specs.declared.broken.Broken.{Broken}
use Rattle.rpc_stream.specs.Broken.{broken_text}
use Rattle.rpc_stream.specs.declared.broken.Broken.TheVariants as broken
use Rattle.mix_dap.specs.Dialogue.{DialogueAs, TellsBroken, line_of}

-- the dialogue over these bytes reached its end: this is what the client was sent, and nothing was reported
pub record IsServed (input sent reported : List ℕ) : Type 0 where
  pub left : List ℕ
  pub dialogue : DialogueAs (Ok tt) (Some input) (Some left) (Some []) (Some sent)
  pub quiet : reported ≡ []

-- it was broken off: this is what the client was sent until then, and this line reports what broke it off
pub record IsBroken (input sent reported : List ℕ) : Type 0 where
  pub why : Broken
  pub left : List ℕ
  pub dialogue : DialogueAs (Err why) (Some input) (Some left) (Some []) (Some sent)
  pub line : TellsBroken why (Some []) (Some reported)

-- the status of a talk over these bytes, what the client was sent, and what was reported
abbrev pub TalksAs : List ℕ → ℕ → List ℕ → List ℕ → Type 0
TalksAs input status sent reported = ((status ≡ 0) × IsServed input sent reported) ⊎ ((status ≡ 2) × IsBroken input sent reported)

-- a talk over these bytes in which so many bytes were sent, and so many reported
pub record TalksFor (input : List ℕ) (count told : ℕ) : Type 0 where
  pub status : ℕ
  pub sent : List ℕ
  pub reported : List ℕ
  pub talks : TalksAs input status sent reported
  pub count_is : count ≡ length sent
  pub told_is : told ≡ length reported

-- what is reported, where so many writes of it failed: the line needs memory, but the one that says that there is none does not
abbrev pub reported_by : ℕ → List ℕ → List ℕ
reported_by failures written = if failures == 0 then written else line_of (broken_text broken.Memory)
