-- A call that is broken off: what was written so far is a beginning.
use Rattle.std.proofs.Common.{◌≡◌, ◌+◌, ◌++◌, ℕ, List, Option, ap, ◌∙◌, arith}
use Rattle.std.specs.Io.KnownBytes.{Appends}
use Rattle.mix_stream.specs.Stream.{AppendsFront}
use Rattle.mix_run.specs.Writes.{Broken}
use Rattle.mix_run.specs.declared.fault.ToolFault.{ToolFault}
use Rattle.mix_run.specs.declared.fault.ToolFault.TheVariants as faults
use Rattle.mix_run.proofs.Written.{Appends-nothing, AppendsFront-after}

-- nothing is a beginning
pub begun-none : (bytes : List ℕ) (told : Option (List ℕ)) → AppendsFront told told bytes
begun-none bytes told = (0, omega arith, Appends-nothing told)

-- one text after another, of which the second is broken off
pub broken-then : (front bytes rest whole : List ℕ) (fault : ToolFault) (old mid new : Option (List ℕ)) (failed failed_mid failed_new : ℕ)
    → Appends old mid front → failed_mid ≡ failed → whole ≡ front ++ (bytes ++ rest) → Broken bytes fault mid failed_mid new failed_new
    → Broken whole fault old failed new failed_new
broken-then front bytes rest whole faults.Memory old mid new failed failed_mid failed_new h same e w =
    (AppendsFront-after old mid new front bytes rest whole h w.0 e, w.1 ∙ same)
broken-then front bytes rest whole faults.Write old mid new failed failed_mid failed_new h same e w =
    (AppendsFront-after old mid new front bytes rest whole h w.0 e, w.1 ∙ ap (λ n. n + 1) same)
broken-then front bytes rest whole faults.Read old mid new failed failed_mid failed_new h same e w = absurd w
broken-then front bytes rest whole (faults.Deck fault) old mid new failed failed_mid failed_new h same e w = absurd w
broken-then front bytes rest whole faults.Long old mid new failed failed_mid failed_new h same e w = absurd w

-- a write that failed after other bytes
pub writes-failed : (front bytes rest whole : List ℕ) (old mid new : Option (List ℕ)) (failed failed_mid failed_new : ℕ)
    → Appends old mid front → failed_mid ≡ failed → whole ≡ front ++ (bytes ++ rest) → AppendsFront mid new bytes → failed_new ≡ failed_mid + 1
    → AppendsFront old new whole × (failed_new ≡ failed + 1)
writes-failed front bytes rest whole old mid new failed failed_mid failed_new h same e begun more =
    (AppendsFront-after old mid new front bytes rest whole h begun e, more ∙ ap (λ n. n + 1) same)
