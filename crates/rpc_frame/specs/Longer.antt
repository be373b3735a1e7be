-- What more bytes at the end of a text do to its first frame.
use Rattle.std.specs.Prelude.{◌≡◌, ℕ, List, ◌++◌}
use Rattle.rpc_frame.specs.Frame.{First, whole, without_length, partial, too_long}

-- A frame that is whole stays the first, and so does a header without a length: what follows it grows. What is too long stays so.
abbrev pub Longer : First → List ℕ → First → Type 0
Longer (whole body rest) more next = next ≡ whole body (rest ++ more)
Longer (without_length rest) more next = next ≡ without_length (rest ++ more)
Longer partial more next = Unit {0}
Longer too_long more next = next ≡ too_long
