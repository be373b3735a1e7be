-- Files in memory.
use Rattle.std.specs.Prelude.{ℕ, List, [], ◌∷◌, Option, None, Some, Result, Ok, Err, if◌then◌else◌}
use Rattle.std.specs.Str.{bytes_eq}
use Rattle.mix_run.specs.declared.reason.Reason.{Reason}
use Rattle.mix_run.specs.declared.reason.Reason.TheVariants as reason
use Rattle.mix_tool.specs.declared.shelf.Shelved.{Shelved}

-- the text of the first file of a name
abbrev pub text_in : List Shelved → List ℕ → Option (List ℕ)
text_in [] name = None
text_in (file ∷ rest) name = if bytes_eq file.name.now name then Some file.text.now else text_in rest name

-- a name that no file has is missing
abbrev pub or_missing : Option (List ℕ) → Result (List ℕ) Reason
or_missing None = Err reason.Missing
or_missing (Some text) = Ok text

abbrev pub held_in : List Shelved → List ℕ → Result (List ℕ) Reason
held_in files name = or_missing (text_in files name)
