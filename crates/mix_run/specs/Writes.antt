-- What a call has written that came to its end, or was broken off.
use Rattle.std.specs.Prelude.{◌≡◌, ◌+◌, ℕ, List, Option, Result, Ok, Err}
use Rattle.std.specs.Io.KnownBytes.{Appends}
use Rattle.mix_stream.specs.Stream.{AppendsFront}
use Rattle.mix_run.specs.declared.fault.ToolFault.{ToolFault}
use Rattle.mix_run.specs.declared.fault.ToolFault.TheVariants as faults

-- A beginning of the bytes was written, since memory was refused, or one more write failed.
abbrev pub Broken : List ℕ → ToolFault → Option (List ℕ) → ℕ → Option (List ℕ) → ℕ → Type 0
Broken bytes faults.Memory old failed new failed_new = AppendsFront old new bytes × (failed_new ≡ failed)
Broken bytes faults.Write old failed new failed_new = AppendsFront old new bytes × (failed_new ≡ failed + 1)
Broken bytes faults.Read old failed new failed_new = ⊥
Broken bytes (faults.Deck fault) old failed new failed_new = ⊥
Broken bytes faults.Long old failed new failed_new = ⊥

-- The bytes were written, and of what is answered this holds; or it was broken off. Nothing is written after a write that failed, and none fails
-- that is not told.
abbrev pub Writes : {A : Type 0} → List ℕ → (A → Type 0) → Result A ToolFault → Option (List ℕ) → ℕ → Option (List ℕ) → ℕ → Type 0
Writes bytes Holds (Ok answer) old failed new failed_new = Holds answer × Appends old new bytes × (failed_new ≡ failed)
Writes bytes Holds (Err fault) old failed new failed_new = Broken bytes fault old failed new failed_new
