-- A text that is refused (1.3.2): its fault, and the bytes at fault. They are counted from 0; where something is missing, their span is
-- empty.
use Rattle.std.specs.Prelude.{ℕ, ◌≤◌, Result, Ok, Err}
use Rattle.mixal_text.specs.declared.fault.TextFault.{TextFault}
use Rattle.mixal_text.specs.declared.misread.Span.{Span}
use Rattle.mixal_text.specs.declared.misread.Misread.{Misread}

abbrev pub misread : TextFault → ℕ → ℕ → Misread
misread fault from to = record { fault = fault; at = record { from = from; to = to } }

-- an answer, or its fault at these bytes
abbrev pub or_at : {A : Type 0} → Result A TextFault → ℕ → ℕ → Result A Misread
or_at (Ok x) from to = Ok x
or_at (Err fault) from to = Err (misread fault from to)

-- a span between two places
abbrev pub IsWithin : ℕ → ℕ → Span → Type 0
IsWithin from to span = (from ≤ span.from) × ((span.from ≤ span.to) × (span.to ≤ to))
