-- A run goes on by one step, or ends with it, and its conflicts with it.
use Rattle.std.proofs.Common.{◌≡◌, ◌≤◌, ◌+◌, ℕ, zero, suc, Bool, true, false, List, [], ◌∷◌, ◌++◌, Option, None, Some, Ok, Err, refl, sym, ap, ◌∙◌, arith, length}
use Rattle.std.proofs.lemmas.List.{append-nil, length-append}
use Rattle.std.specs.Prelude.{option_map}
use Rattle.std.specs.Io.KnownBytes.{Appends}
use Rattle.std.specs.Option.{option_or}
use Rattle.mix_machine.specs.Prelude.{does, is_halt_next, TransfersState, conflict_of, transfers_after, WorldState}
use Rattle.mix_machine.specs.declared.fault.MixFault.{MixFault}
use Rattle.mix_machine.specs.declared.old.Change.TheVariants.{Step}
use Rattle.mix_machine.specs.declared.transfers.Conflict.{Conflict}
use Rattle.mix_stream.specs.Stream.{AppendsFront}
use Rattle.mix_run.specs.Print.{Run, conflict_at, counted, ended, first_of, listed, printed, printed_first, stops, written_by}
use Rattle.mix_run.specs.PrintSteps.{StepMakes, StepNotes, StepPrints, conflicts_after, is_made}
use Rattle.mix_run.specs.Prelude.{PrintOptions, RunEnd}
use Rattle.mix_run.specs.declared.print.steps.RunEnd.TheVariants.{Halted, Faulted, Conflicting, UsedUp}
use Rattle.mix_run.specs.declared.print.watch.ConflictAt.{ConflictAt}
use Rattle.mix_run.specs.declared.print.watch.Conflicts.{Conflicts}
use Rattle.mix_run.proofs.Written.{Appends-then, Appends-same, AppendsFront-after}

-- no step is left
pub run-none : (options : PrintOptions) (number steps : ℕ) (ts : TransfersState) (w : WorldState) → steps ≤ 0 → printed options number steps ts w ≡ ended UsedUp w
run-none options number zero ts w h = refl
run-none options number (suc steps) ts w h = absurd (omega arith)

-- the conflict of a step, as a list
abbrev pub met_by : TransfersState → WorldState → List ConflictAt
met_by ts w = listed (option_map (conflict_at w) (conflict_of ts w Step))

-- a step that is no halt, and the rest of the run
pub run-on : (options : PrintOptions) (number steps rest : ℕ) (ts : TransfersState) (w next : WorldState) → steps ≡ suc rest
    → stops options.strict (conflict_of ts w Step) ≡ None → does w Step ≡ Ok next → is_halt_next w ≡ false →
    printed options number steps ts w
    ≡ printed_first (written_by options number w next) (met_by ts w) (printed options (number + 1) rest (transfers_after ts w Step) next)
run-on options number steps rest ts w next e free done goes = rw (e, done, free, goes) refl

-- a step that is a halt
pub run-halted : (options : PrintOptions) (number steps rest : ℕ) (ts : TransfersState) (w next : WorldState) → steps ≡ suc rest
    → stops options.strict (conflict_of ts w Step) ≡ None → does w Step ≡ Ok next → is_halt_next w ≡ true →
    printed options number steps ts w ≡ printed_first (written_by options number w next) (met_by ts w) (ended Halted next)
run-halted options number steps rest ts w next e free done halts = rw (e, done, free, halts) refl

-- a step that is a fault
pub run-faulted : (options : PrintOptions) (number steps rest : ℕ) (ts : TransfersState) (w : WorldState) (fault : MixFault) → steps ≡ suc rest
    → does w Step ≡ Err fault → printed options number steps ts w ≡ ended (Faulted fault) w
run-faulted options number steps rest ts w fault e failed = rw (e, failed) refl

-- a step before which a strict run ends
pub run-stopped : (options : PrintOptions) (number steps rest : ℕ) (ts : TransfersState) (w done : WorldState) (c : Conflict) → steps ≡ suc rest
    → stops options.strict (conflict_of ts w Step) ≡ Some c → does w Step ≡ Ok done → printed options number steps ts w ≡ ended (Conflicting c) w
run-stopped options number steps rest ts w done c e stop ok = rw (e, ok, stop) refl

-- what a step that ends a run leaves is the whole run from it on
record Ends (options : PrintOptions) (number steps : ℕ) (ts : TransfersState) (w next : WorldState) (end : RunEnd) (conflicts noted : Conflicts)
    (old new : List ℕ) : Type 0 where
  pub bytes : List ℕ
  pub met : List ConflictAt
  pub run : printed options number steps ts w ≡ record { bytes = bytes; end = end; world = next; met = met }
  pub wrote : new ≡ old ++ bytes
  pub adds : noted ≡ conflicts_after conflicts met

-- ---- conflicts and more of them

same-first : (f : Option ConflictAt) → option_or f None ≡ f
same-first None = refl
same-first (Some c) = refl

pub conflicts-same : (conflicts : Conflicts) → conflicts_after conflicts [] ≡ conflicts
conflicts-same conflicts =
    let same : conflicts.count + 0 ≡ conflicts.count = omega arith in
    rw (same-first conflicts.first, same) refl

pub conflicts-all : (met : List ConflictAt) → conflicts_after (counted []) met ≡ counted met
conflicts-all met =
    let same : 0 + length met ≡ length met = omega arith in
    rw same refl

first-of_both : (f : Option ConflictAt) (xs ys : List ConflictAt) → option_or (option_or f (first_of xs)) (first_of ys) ≡ option_or f (first_of (xs ++ ys))
first-of_both (Some c) xs ys = refl
first-of_both None [] ys = refl
first-of_both None (x ∷ xs) ys = refl

count-of_both : (n : ℕ) (xs ys : List ConflictAt) → n + length xs + length ys ≡ n + length (xs ++ ys)
count-of_both n xs ys = omega (arith, length-append xs ys)

pub conflicts-both : (conflicts : Conflicts) (xs ys : List ConflictAt) → conflicts_after (conflicts_after conflicts xs) ys ≡ conflicts_after conflicts (xs ++ ys)
conflicts-both conflicts xs ys = rw (first-of_both conflicts.first xs ys, count-of_both conflicts.count xs ys) refl

conflicts-nothing : (conflicts noted : Conflicts) → noted ≡ conflicts → noted ≡ conflicts_after conflicts []
conflicts-nothing conflicts noted e = e ∙ sym (conflicts-same conflicts)

conflicts-last : (conflicts noted : Conflicts) (met : List ConflictAt) → noted ≡ conflicts_after conflicts met → noted ≡ conflicts_after conflicts (met ++ [])
conflicts-last conflicts noted met e = e ∙ ap (λ m. conflicts_after conflicts m) (sym (append-nil met))

pub one-more : (conflicts : Conflicts) (found : Option ConflictAt) → (conflicts_after conflicts (listed found)).count ≤ conflicts.count + 1
one-more conflicts None = omega arith
one-more conflicts (Some c) = omega arith

-- ---- a step after which a run goes on

goes : (options : PrintOptions) (number steps rest : ℕ) (ts : TransfersState) (w next : WorldState) (b c : List ℕ) (s : Option Conflict)
    → steps ≡ suc rest → stops options.strict (conflict_of ts w Step) ≡ s → StepPrints s options number w next None b c →
    (printed options number steps ts w ≡ printed_first (written_by options number w next) (met_by ts w) (printed options (number + 1) rest (transfers_after ts w Step) next))
    × (c ≡ b ++ written_by options number w next)
goes options number steps rest ts w next b c None e is step = (run-on options number steps rest ts w next e is step.0 step.1, step.2)
goes options number steps rest ts w next b c (Some stop) e is step = absurd step

pub goes-on : (options : PrintOptions) (number steps rest : ℕ) (ts : TransfersState) (w next : WorldState) (b c : List ℕ)
    → steps ≡ suc rest → StepPrints (stops options.strict (conflict_of ts w Step)) options number w next None b c →
    (printed options number steps ts w ≡ printed_first (written_by options number w next) (met_by ts w) (printed options (number + 1) rest (transfers_after ts w Step) next))
    × (c ≡ b ++ written_by options number w next)
goes-on options number steps rest ts w next b c e step =
    goes options number steps rest ts w next b c (stops options.strict (conflict_of ts w Step)) e refl step

-- ---- the end of a run

at-end : (options : PrintOptions) (number steps rest : ℕ) (ts after : TransfersState) (w next : WorldState) (end : RunEnd) (conflicts noted : Conflicts)
    (b c : List ℕ) (s : Option Conflict) → steps ≡ suc rest → stops options.strict (conflict_of ts w Step) ≡ s
    → StepPrints s options number w next (Some end) b c → StepNotes w ts conflicts after noted (Some end)
    → Ends options number steps ts w next end conflicts noted b c
at-end options number steps rest ts after w next Halted conflicts noted b c None e is step note = record {
  bytes = written_by options number w next ++ [];
  met = met_by ts w ++ [];
  run = run-halted options number steps rest ts w next e is step.0 step.1;
  wrote = step.2 ∙ ap (λ t. b ++ t) (sym (append-nil (written_by options number w next)));
  adds = conflicts-last conflicts noted (met_by ts w) note.1;
}
at-end options number steps rest ts after w next (Faulted fault) conflicts noted b c None e is step note = record {
  bytes = [];
  met = [];
  run = run-faulted options number steps rest ts w fault e step.0 ∙ ap (λ v. ended (Faulted fault) v) (sym step.1);
  wrote = step.2 ∙ sym (append-nil b);
  adds = conflicts-nothing conflicts noted note.1;
}
at-end options number steps rest ts after w next (Conflicting met) conflicts noted b c None e is step note = absurd step
at-end options number steps rest ts after w next UsedUp conflicts noted b c None e is step note = absurd step
at-end options number steps rest ts after w next Halted conflicts noted b c (Some stop) e is step note = absurd step.0
at-end options number steps rest ts after w next (Faulted fault) conflicts noted b c (Some stop) e is step note = record {
  bytes = [];
  met = [];
  run = run-faulted options number steps rest ts w fault e step.0.0 ∙ ap (λ v. ended (Faulted fault) v) (sym step.0.1);
  wrote = step.1 ∙ sym (append-nil b);
  adds = conflicts-nothing conflicts noted note.1;
}
at-end options number steps rest ts after w next (Conflicting met) conflicts noted b c (Some stop) e is step note = record {
  bytes = [];
  met = [];
  run = run-stopped options number steps rest ts w step.0.0.0 stop e is step.0.0.1 ∙ ap (λ d. ended (Conflicting d) w) (sym step.0.1)
      ∙ ap (λ v. ended (Conflicting met) v) (sym step.0.2);
  wrote = step.1 ∙ sym (append-nil b);
  adds = conflicts-nothing conflicts noted note.1;
}
at-end options number steps rest ts after w next UsedUp conflicts noted b c (Some stop) e is step note = absurd step.0

-- what ends a run
pub run-ended : (options : PrintOptions) (number steps rest : ℕ) (ts after : TransfersState) (w next : WorldState) (end : RunEnd) (conflicts noted : Conflicts)
    (text : List ℕ) (a b c : Option (List ℕ)) (whole : Run) → steps ≡ suc rest →
    (done : List ℕ) × Appends a b done × (whole.bytes ≡ done ++ (printed options number steps ts w).bytes) → (printed options number steps ts w).end ≡ whole.end →
    (printed options number steps ts w).world ≡ whole.world → conflicts_after conflicts (printed options number steps ts w).met ≡ counted whole.met →
    StepPrints (stops options.strict (conflict_of ts w Step)) options number w next (Some end) [] text → StepNotes w ts conflicts after noted (Some end) →
    Appends b c text → ((end ≡ whole.end) × (noted ≡ counted whole.met) × (next ≡ whole.world)) × Appends a c whole.bytes
run-ended options number steps rest ts after w next end conflicts noted text a b c whole e so_far is_end stands met step note told =
    let it = at-end options number steps rest ts after w next end conflicts noted [] text (stops options.strict (conflict_of ts w Step)) e refl step note in
    let said : Appends b c it.bytes = Appends-same b c text it.bytes it.wrote told in (
      (
        sym (ap (λ r. r.end) it.run) ∙ is_end,
        it.adds ∙ sym (ap (λ r. conflicts_after conflicts r.met) it.run) ∙ met,
        sym (ap (λ r. r.world) it.run) ∙ stands,
      ),
      Appends-same a c _ whole.bytes (sym (so_far.2 ∙ ap (λ r. so_far.0 ++ r.bytes) it.run)) (Appends-then a b c so_far.0 it.bytes so_far.1 said),
    )

-- what a step writes is a beginning of what the run writes from it on
step-begins : (options : PrintOptions) (number steps rest : ℕ) (ts after : TransfersState) (w next : WorldState) (end : Option RunEnd) (conflicts noted : Conflicts)
    (text : List ℕ) → steps ≡ suc rest → StepPrints (stops options.strict (conflict_of ts w Step)) options number w next end [] text
    → StepNotes w ts conflicts after noted end → (more : List ℕ) × ((printed options number steps ts w).bytes ≡ text ++ more)
step-begins options number steps rest ts after w next None conflicts noted text e step note =
    let on = goes-on options number steps rest ts w next [] text e step in
    let more = (printed options (number + 1) rest (transfers_after ts w Step) next).bytes in
    (more, ap (λ r. r.bytes) on.0 ∙ ap (λ t. t ++ more) (sym on.1))
step-begins options number steps rest ts after w next (Some end) conflicts noted text e step note =
    let it = at-end options number steps rest ts after w next end conflicts noted [] text (stops options.strict (conflict_of ts w Step)) e refl step note in
    ([], ap (λ r. r.bytes) it.run ∙ sym it.wrote ∙ sym (append-nil text))

-- a beginning of what one step writes
pub begun-in_step : (options : PrintOptions) (number steps rest : ℕ) (ts after : TransfersState) (w next : WorldState) (end : Option RunEnd) (conflicts noted : Conflicts)
    (text : List ℕ) (a b c : Option (List ℕ)) (whole : List ℕ) → steps ≡ suc rest →
    (done : List ℕ) × Appends a b done × (whole ≡ done ++ (printed options number steps ts w).bytes) →
    StepPrints (stops options.strict (conflict_of ts w Step)) options number w next end [] text → StepNotes w ts conflicts after noted end
    → AppendsFront b c text → AppendsFront a c whole
begun-in_step options number steps rest ts after w next end conflicts noted text a b c whole e so_far step note begun =
    let begins = step-begins options number steps rest ts after w next end conflicts noted text e step note in
    AppendsFront-after a b c so_far.0 text begins.0 whole so_far.1 begun (so_far.2 ∙ ap (λ bytes. so_far.0 ++ bytes) begins.1)

-- ---- a step that is made

pub stops-none : (strict : Bool) → stops strict None ≡ None
stops-none true = refl
stops-none false = refl

-- what a step leaves that was made, and one that was not
pub notes-made : (end : Option RunEnd) (ts after : TransfersState) (w : WorldState) (conflicts noted : Conflicts)
    → is_made end ≡ true → after ≡ transfers_after ts w Step → noted ≡ conflicts_after conflicts (met_by ts w) → StepNotes w ts conflicts after noted end
notes-made None ts after w conflicts noted is went met = (went, met)
notes-made (Some Halted) ts after w conflicts noted is went met = (went, met)
notes-made (Some (Faulted fault)) ts after w conflicts noted is went met = absurd cc
notes-made (Some (Conflicting conflict)) ts after w conflicts noted is went met = absurd cc
notes-made (Some UsedUp) ts after w conflicts noted is went met = absurd cc

pub notes-not_made : (end : Option RunEnd) (options : PrintOptions) (number : ℕ) (ts : TransfersState) (w next : WorldState) (conflicts : Conflicts)
    (b c : List ℕ) → is_made end ≡ false → StepMakes options number w next end b c → StepNotes w ts conflicts ts conflicts end
notes-not_made None options number ts w next conflicts b c is made = absurd cc
notes-not_made (Some Halted) options number ts w next conflicts b c is made = absurd cc
notes-not_made (Some (Faulted fault)) options number ts w next conflicts b c is made = (refl, refl)
notes-not_made (Some (Conflicting conflict)) options number ts w next conflicts b c is made = absurd made
notes-not_made (Some UsedUp) options number ts w next conflicts b c is made = absurd made
