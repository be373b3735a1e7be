-- A script goes on by one line: what was written so far and the replies to the lines that are left stay the replies to all.
use Rattle.std.proofs.Common.{◌≡◌, ℕ, Bool, List, [], ◌∷◌, ◌++◌, true, false, Option, None, Some, Result, Ok, Err, ◌-◌, ◌<◌, ◌≤◌, refl, sym, ap, ◌∙◌, append_assoc, length, eqb, take, arith}
use Rattle.std.proofs.lemmas.Bool.{eqb-true, lt-ltb, le-ltb}
use Rattle.std.proofs.lemmas.List.{append-nil}
pub use Rattle.std.proofs.KnownBytes.{Keeps-refl as Keeps-same}
use Rattle.std.specs.Io.KnownBytes.{Appends}
use Rattle.mix_session.specs.Prelude.{SessionState, opened, effect_in, after, told_of, told_of_both}
use Rattle.mix_session.specs.declared.reply.Told.{Told}
use Rattle.mix_lines.specs.Lines.{lines, lines-nil}
use Rattle.mix_run.specs.Output.{Outcome, Meets, outcome_of, replies_of, said_of, outcome_of_script, bundle_output, output, list_output, list_outcome, status_of, TooLong, Ended}
use Rattle.mix_stream.specs.Stream.{AppendsFront, ConsumesAtMost}
use Rattle.mix_stream.specs.declared.counted.Failed.{Failed}
use Rattle.mix_files.specs.Bundle.{cut_of}
use Rattle.mix_run.specs.Prelude.{GivesUnits, fault_of_read, ToolFault}
use Rattle.mixal_asm.specs.Prelude.{assembly, ProgramValue}
use Rattle.mixal_asm.specs.declared.fault.AsmFault.{AsmFault}
use Rattle.mix_machine.specs.Prelude.{UnitsState, deck_of}
use Rattle.mix_machine.specs.declared.units.deck_fault.DeckFault.{DeckFault}
use Rattle.mix_run.specs.declared.fault.ToolFault.TheVariants as faults
use Rattle.mix_refused.specs.declared.refused.Refused.{Refused as Refusal}
use Rattle.mix_refused.specs.declared.refused.Refused.TheVariants as reads
use Rattle.mix_run.specs.law.Truncation.{limited-take, deck_of-take, assembly-take}
use Rattle.mix_session.specs.declared.reply.Told.TheVariants.{Accepted, Refused}
use Rattle.mix_run.proofs.Written.{Appends-then, Appends-same, Appends-nothing, AppendsFront-after}

-- one line more is written
pub written-next : (echo : Bool) (s next : SessionState) (line : List ℕ) (rest more : List (List ℕ)) (a b c : Option (List ℕ)) (whole : List ℕ) →
    rest ≡ line ∷ more → next ≡ record s { timeline = after (effect_in s line) } →
    (done : List ℕ) × Appends a b done × (whole ≡ done ++ (replies_of echo s rest).bytes) → Appends b c (said_of echo s line) →
    (done : List ℕ) × Appends a c done × (whole ≡ done ++ (replies_of echo next more).bytes)
written-next echo s next line rest more a b c whole split changed so_far reply =
    let said = said_of echo s line in
    let rest_said : (replies_of echo s rest).bytes ≡ said ++ (replies_of echo next more).bytes = rw (split, changed) refl in (
      so_far.0 ++ said,
      Appends-then a b c so_far.0 said so_far.1 reply,
      so_far.2 ∙ ap (λ bytes. so_far.0 ++ bytes) rest_said ∙ sym (append_assoc so_far.0 said (replies_of echo next more).bytes),
    )

-- a beginning of one line more is written
pub begun-at : (echo : Bool) (s : SessionState) (line : List ℕ) (rest more : List (List ℕ)) (a b c : Option (List ℕ)) (whole : List ℕ) → rest ≡ line ∷ more →
    (done : List ℕ) × Appends a b done × (whole ≡ done ++ (replies_of echo s rest).bytes) → AppendsFront b c (said_of echo s line) →
    AppendsFront a c whole
begun-at echo s line rest more a b c whole split so_far reply =
    AppendsFront-after a b c so_far.0 (said_of echo s line) (replies_of echo (record s { timeline = after (effect_in s line) }) more).bytes whole so_far.1 reply
    (so_far.2 ∙ ap (λ bytes. so_far.0 ++ bytes) (rw split refl))

pub both-assoc : (a b c : Told) → told_of_both (told_of_both a b) c ≡ told_of_both a (told_of_both b c)
both-assoc Accepted b c = refl
both-assoc Refused b c = refl

pub both-accepted : (a : Told) → told_of_both a Accepted ≡ a
both-accepted Accepted = refl
both-accepted Refused = refl

-- what was reported so far, and of the lines that are left, is reported of all; so it is after one line more
pub told-next : (echo : Bool) (s next : SessionState) (line : List ℕ) (rest more : List (List ℕ)) (so_far one whole : Told) → rest ≡ line ∷ more →
    next ≡ record s { timeline = after (effect_in s line) } → told_of_both so_far (replies_of echo s rest).told ≡ whole → one ≡ told_of (effect_in s line).answer →
    told_of_both (told_of_both so_far one) (replies_of echo next more).told ≡ whole
told-next echo s next line rest more so_far one whole split changed before here =
    let rest_told : (replies_of echo s rest).told ≡ told_of_both one (replies_of echo next more).told = rw (split, changed, here) refl in
    both-assoc so_far one (replies_of echo next more).told ∙ ap (told_of_both so_far) (sym rest_told) ∙ before

-- no line is left
pub all-said : (echo : Bool) (s : SessionState) (a b : Option (List ℕ)) (whole rest : List ℕ) → rest ≡ [] →
    (done : List ℕ) × Appends a b done × (whole ≡ done ++ (replies_of echo s (lines rest)).bytes) → Appends a b whole
all-said echo s a b whole rest none so_far =
    Appends-same a b so_far.0 whole (sym (so_far.2 ∙ (rw (none, lines-nil) (append-nil so_far.0)))) so_far.1

pub all-told : (echo : Bool) (s : SessionState) (so_far whole : Told) (rest : List ℕ) → rest ≡ [] →
    told_of_both so_far (replies_of echo s (lines rest)).told ≡ whole → so_far ≡ whole
all-told echo s so_far whole rest none before =
    sym (both-accepted so_far) ∙ (rw (none, lines-nil) at before)

-- a list of length 0
pub nil-from_length : (xs : List ℕ) → true ≡ eqb (length xs) 0 → xs ≡ []
nil-from_length [] e = refl
nil-from_length (x ∷ xs) e = absurd (omega (arith, eqb-true (length (x ∷ xs)) 0 (sym e)))

-- a script is read from its first 1,048,577 bytes
pub outcome_of_script-take : (echo : Bool) (s : SessionState) (script : List ℕ) → outcome_of_script echo s (take 1048577 script) ≡ outcome_of_script echo s script
unfolding outcome_of_script
outcome_of_script-take echo s script =
    limited-take 1048576 TooLong (λ text. let all = replies_of echo s (lines text) in Ended all.bytes (status_of all.told)) script

-- a bundle is read from its first 41,943,041 bytes
pub bundle_output-take : (bundle : List ℕ) → bundle_output (take 41943041 bundle) ≡ bundle_output bundle
unfolding bundle_output
bundle_output-take bundle =
    limited-take 41943040 TooLong (λ text. let parts = cut_of text in output false parts.source parts.deck parts.script) bundle

-- a script that was read up to one byte more than it may have
pub Meets-script : (echo : Bool) (s : SessionState) (script read : List ℕ) (done : Result ℕ ToolFault) (old new : Option (List ℕ)) →
    read ≡ take 1048577 script → Meets (outcome_of_script echo s read) done old new → Meets (outcome_of_script echo s script) done old new
Meets-script echo s script read done old new e met =
    let whole : outcome_of_script echo s read ≡ outcome_of_script echo s script = ap (outcome_of_script echo s) e ∙ outcome_of_script-take echo s script in
    rw whole at met

-- nothing was read
pub ConsumesAtMost-none : (rest : Option (List ℕ)) (most : ℕ) → ConsumesAtMost rest rest most
ConsumesAtMost-none None most = tt
ConsumesAtMost-none (Some known) most =
    let none : length known - length known ≡ 0 = omega arith in (rw none refl, omega arith)

-- nothing was written, and memory was refused or a read failed
pub Meets-unread : (outcome : Outcome) (fault : Refusal Failed) (told : Option (List ℕ)) → Meets outcome (Err (fault_of_read fault)) told told
Meets-unread outcome reads.Memory told = (0, omega arith, Appends-nothing told)
Meets-unread outcome (reads.Fault _) told = Keeps-same told

-- a deck that was read up to one byte more than it may have
pub deck_of-read : (deck read : List ℕ) → read ≡ take 33554433 deck → deck_of read ≡ deck_of deck
deck_of-read deck read e = ap deck_of e ∙ deck_of-take deck

-- none were read
pub gives-unread : (expected : Result UnitsState DeckFault) (fault : Refusal Failed) → GivesUnits expected (Err (fault_of_read fault))
gives-unread expected reads.Memory = tt
gives-unread expected (reads.Fault _) = tt

pub Meets-no_units : (echo : Bool) (program : ProgramValue) (units : Result UnitsState DeckFault) (script : List ℕ) (fault : ToolFault) (told : Option (List ℕ)) →
    GivesUnits units (Err fault) → Meets (outcome_of echo (Ok program) units script) (Err fault) told told
unfolding outcome_of
Meets-no_units echo program units script faults.Memory told refused = (0, omega arith, Appends-nothing told)
Meets-no_units echo program units script (faults.Deck fault) told refused = rw refused (refl, Keeps-same told)
Meets-no_units echo program units script faults.Read told refused = Keeps-same told
Meets-no_units echo program units script faults.Write told refused = absurd refused
Meets-no_units echo program units script faults.Long told refused = absurd refused

pub Meets-units : (echo : Bool) (program : ProgramValue) (units : UnitsState) (deck script : List ℕ) (done : Result ℕ ToolFault) (old new : Option (List ℕ)) →
    deck_of deck ≡ Ok units →
    Meets (outcome_of_script echo (opened program units) script) done old new → Meets (outcome_of echo (Ok program) (deck_of deck) script) done old new
unfolding outcome_of
Meets-units echo program units deck script done old new made met = rw made met

-- a source to be listed, which was read up to one byte more than it may have
pub Meets-listed : (source read : List ℕ) (made : Result ProgramValue AsmFault) (done : Result ℕ ToolFault) (old new : Option (List ℕ)) →
    read ≡ take 1048577 source → assembly read ≡ made → Meets (list_outcome made) done old new → Meets (list_output source) done old new
unfolding list_output
Meets-listed source read made done old new e f met =
    let here : assembly source ≡ made = sym (ap assembly e ∙ assembly-take source) ∙ f in
    rw here met

-- a bundle that was read up to one byte more than it may have
pub Meets-bundle : (bundle read : List ℕ) (done : Result ℕ ToolFault) (old new : Option (List ℕ)) →
    read ≡ take 41943041 bundle → Meets (bundle_output read) done old new → Meets (bundle_output bundle) done old new
Meets-bundle bundle read done old new e met =
    let whole : bundle_output read ≡ bundle_output bundle = ap bundle_output e ∙ bundle_output-take bundle in
    rw whole at met

-- one that is too long
pub Meets-long : (read : List ℕ) (told : Option (List ℕ)) → 41943040 < length read → Meets (bundle_output read) (Err faults.Long) told told
unfolding bundle_output
Meets-long read told long = rw (lt-ltb 41943040 (length read) long) (refl, Keeps-same told)

-- one that is not, by its parts
pub Meets-parts : (read source deck script : List ℕ) (done : Result ℕ ToolFault) (old new : Option (List ℕ)) → length read ≤ 41943040 →
    source ≡ (cut_of read).source → deck ≡ (cut_of read).deck → script ≡ (cut_of read).script →
    Meets (output false source deck script) done old new → Meets (bundle_output read) done old new
unfolding bundle_output
Meets-parts read source deck script done old new short e f g met =
    rw (le-ltb 41943040 (length read) short) (rw (e, f, g) at met)
