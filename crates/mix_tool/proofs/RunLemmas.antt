-- A run of a plan is that of its program with the units of its texts.
use Rattle.std.proofs.Common.{◌≡◌, ◌∙◌, ℕ, Bool, List, [], Option, Result, Ok, Err, IfOk, ap, arith, refl, subst, sym, take}
use Rattle.std.proofs.KnownBytes.{Appends-nil, Keeps-refl}
use Rattle.std.specs.Prelude.{option_map, string_bytes}
use Rattle.mix_files.specs.Bundle.{parts_of}
use Rattle.mixal_asm.specs.Prelude.{assembly, ProgramValue}
use Rattle.mixal_asm.specs.declared.fault.AsmFault.{AsmFault}
use Rattle.mix_machine.specs.declared.units.deck_fault.DeckFault.{DeckFault}
use Rattle.mix_machine.specs.units.Units.{UnitsState}
use Rattle.mix_plan.specs.declared.run.RunPlan.{RunPlan}
use Rattle.mix_run.specs.Prelude.{DrawnRun, IsMemoryOrRead, Saved, noted, GivesUnits}
use Rattle.mix_run.specs.declared.fault.ToolFault.{ToolFault}
use Rattle.mix_run.specs.declared.print.PrintAnswer.TheVariants.{Refused}
use Rattle.mix_run.specs.declared.print.Printed.{Printed}
use Rattle.mix_run.specs.PrintOutput.{Leaves, PrintOutcome, kept_of, outcome_of_run}
use Rattle.mix_run.specs.declared.fault.ToolFault.TheVariants as faults
use Rattle.mix_run.specs.law.SameDeck.{kept-of_run}
use Rattle.mix_run.specs.law.Truncation.{parts-read}
use Rattle.mix_tool.specs.Ending.{ByEnd, Saves, saved_both}
use Rattle.mix_tool.specs.Run.{Given, Prints, options_of, subject_of, print_outcome, run_draws, run_output, units_asked, with_text}

-- a read failed, or memory was refused for what is read
pub prints-unread : (outcome : PrintOutcome) (fault : ToolFault) (told : Option (List ℕ)) → IsMemoryOrRead fault → Prints outcome (Err fault) told told
prints-unread outcome faults.Memory told only = (0, omega arith, Appends-nil told)
prints-unread outcome faults.Read told only = Keeps-refl told
prints-unread outcome faults.Write told only = absurd only
prints-unread outcome (faults.Deck fault) told only = absurd only
prints-unread outcome faults.Long told only = absurd only

-- ---- the lines of a text, for units that were made or not

pub gives-none : (n : ℕ) (before : Result UnitsState DeckFault) (given : Bool) (text : List ℕ) (fault : ToolFault) → GivesUnits before (Err fault)
    → GivesUnits (with_text n before given text) (Err fault)
gives-none n before given text faults.Memory h = tt
gives-none n before given text faults.Read h = tt
gives-none n before given text (faults.Deck fault) h = rw h refl
gives-none n before given text faults.Write h = absurd h
gives-none n before given text faults.Long h = absurd h

pub gives-text : (n : ℕ) (before : Result UnitsState DeckFault) (units : UnitsState) (asked given : Bool) (text : List ℕ) (answer : Result UnitsState ToolFault)
    → before ≡ Ok units → asked ≡ given → GivesUnits (with_text n (Ok units) asked text) answer → GivesUnits (with_text n before given text) answer
gives-text n before units asked given text answer made same h = rw made (subst (λ v. GivesUnits (with_text n (Ok units) v text) answer) same h)

-- ---- a source that was read up to one byte more than a bundle may have

made-of : (run : RunPlan) (given : Given) (read source : List ℕ) (made : Result ProgramValue AsmFault) → read ≡ take 41943041 given.source
    → source ≡ (parts_of read).source → assembly source ≡ made → assembly (parts_of given.source).source ≡ made
made-of run given read source made e s f = sym (parts-read given.source read e).0 ∙ sym (ap assembly s) ∙ f

-- one that is refused
pub prints-refused : (text : List ℕ) (run : RunPlan) (given : Given) (read source : List ℕ) (fault : AsmFault) (printed : Printed) (told : Option (List ℕ))
    → read ≡ take 41943041 given.source → source ≡ (parts_of read).source → assembly source ≡ Err fault → printed.answer ≡ Refused fault
    → printed.deck.items ≡ [] → Prints (run_output text run given) (Ok printed) told told
unfolding run_output
prints-refused text run given read source fault printed told e s f is none =
    rw (made-of run given read source (Err fault) e s f, is, none) (refl, Appends-nil told)

pub draws-refused : (run : RunPlan) (given : Given) (read source map : List ℕ) (fault : AsmFault) → read ≡ take 41943041 given.source
    → source ≡ (parts_of read).source → assembly source ≡ Err fault → map ≡ [] → run_draws run given map
unfolding run_draws
draws-refused run given read source map fault e s f none = rw (made-of run given read source (Err fault) e s f) none

-- one that is assembled, and no units
no_units : (text : List ℕ) (run : RunPlan) (part : List ℕ) (program : ProgramValue) (units : Result UnitsState DeckFault) (fault : ToolFault) (told : Option (List ℕ))
    → GivesUnits units (Err fault) → Prints (print_outcome text (options_of run) part (Ok program) units) (Err fault) told told
no_units text run part program units faults.Memory told h = (0, omega arith, Appends-nil told)
no_units text run part program units faults.Read told h = Keeps-refl told
no_units text run part program units (faults.Deck fault) told h = rw h (refl, Keeps-refl told)
no_units text run part program units faults.Write told h = absurd h
no_units text run part program units faults.Long told h = absurd h

pub prints-no_units : (text : List ℕ) (run : RunPlan) (given : Given) (read source own : List ℕ) (program : ProgramValue) (fault : ToolFault) (told : Option (List ℕ))
    → read ≡ take 41943041 given.source → source ≡ (parts_of read).source → own ≡ (parts_of read).deck → assembly source ≡ Ok program
    → GivesUnits (units_asked run own given) (Err fault) → Prints (run_output text run given) (Err fault) told told
unfolding run_output
prints-no_units text run given read source own program fault told e s o made h =
    let deck : own ≡ (parts_of given.source).deck = o ∙ (parts-read given.source read e).1 in
    let part = subject_of (option_map string_bytes run.subject) in
    let units = units_asked run (parts_of given.source).deck given in
    let same : run_output text run given ≡ print_outcome text (options_of run) part (Ok program) units =
    ap (λ made. print_outcome text (options_of run) part made units) (made-of run given read source (Ok program) e s made) in
    subst (λ o. Prints o (Err fault) told told) (sym same) (no_units text run part program units fault told
    (subst (λ d. GivesUnits (units_asked run d given) (Err fault)) deck h))

-- and units
pub prints-made : (text : List ℕ) (run : RunPlan) (given : Given) (read source own : List ℕ) (program : ProgramValue) (units : UnitsState) (done : Result Printed ToolFault)
    (old new : Option (List ℕ)) → read ≡ take 41943041 given.source → source ≡ (parts_of read).source → own ≡ (parts_of read).deck
    → assembly source ≡ Ok program → units_asked run own given ≡ Ok units
    → Prints (outcome_of_run text (options_of run) (subject_of (option_map string_bytes run.subject)) program units) done old new
    → Prints (run_output text run given) done old new
unfolding run_output
prints-made text run given read source own program units done old new e s o made asked prints =
    let deck : own ≡ (parts_of given.source).deck = o ∙ (parts-read given.source read e).1 in
    let here : units_asked run (parts_of given.source).deck given ≡ Ok units = rw deck at asked in
    rw (made-of run given read source (Ok program) e s made) (rw here prints)

pub draws-made : (run : RunPlan) (given : Given) (read source own : List ℕ) (program : ProgramValue) (units : UnitsState) (done : Result Printed ToolFault)
    → read ≡ take 41943041 given.source → source ≡ (parts_of read).source → own ≡ (parts_of read).deck
    → assembly source ≡ Ok program → units_asked run own given ≡ Ok units
    → IfOk done (λ p. DrawnRun (options_of run) (subject_of (option_map string_bytes run.subject)) program units p.map.items)
    → IfOk done (λ p. run_draws run given p.map.items)
unfolding run_draws
draws-made run given read source own program units done e s o made asked drawn =
    let deck : own ≡ (parts_of given.source).deck = o ∙ (parts-read given.source read e).1 in
    let here : units_asked run (parts_of given.source).deck given ≡ Ok units = rw deck at asked in
    rw (made-of run given read source (Ok program) e s made) (rw here drawn)

-- the units are kept alike, whatever text a table is
kept-same : (text : List ℕ) (run : RunPlan) (given : Given) → kept_of (run_output text run given) ≡ kept_of (run_output [] run given)
unfolding run_output
kept-same text run given = go (assembly (parts_of given.source).source) (units_asked run (parts_of given.source).deck given)
  where
    subject : List ℕ
    subject = subject_of (option_map string_bytes run.subject)

    go : (made : Result ProgramValue AsmFault) (units : Result UnitsState DeckFault)
        → kept_of (print_outcome text (options_of run) subject made units) ≡ kept_of (print_outcome [] (options_of run) subject made units)
    go (Err fault) units = refl
    go (Ok program) (Err fault) = refl
    go (Ok program) (Ok units) = kept-of_run text (options_of run) subject program units

pub saves-as : (text : List ℕ) (run : RunPlan) (given : Given) (keep svg : Option (List ℕ)) (status : ℕ) (old new : Option (List Saved))
    → Saves (run_output text run given) (run_draws run given) keep svg status old new
    → Saves (run_output [] run given) (run_draws run given) keep svg status old new
saves-as text run given keep svg status old new saves =
    subst (λ (kept : List ℕ). ByEnd status ((map : List ℕ) × run_draws run given map × (new ≡ noted old (saved_both keep svg kept map))) (new ≡ old))
    (kept-same text run given) saves

-- what is left of a run is what it prints, and its map
pub leaves-prints : (outcome : PrintOutcome) (IsDrawn : List ℕ → Type 0) (done : Result Printed ToolFault) (a b : Option (List ℕ)) (n m : ℕ)
    → Leaves outcome IsDrawn done a n b m → Prints outcome done a b
leaves-prints outcome IsDrawn (Ok printed) a b n m leaves = (leaves.0.0, leaves.1)
leaves-prints outcome IsDrawn (Err faults.Memory) a b n m broken = broken.0
leaves-prints outcome IsDrawn (Err faults.Write) a b n m broken = broken.0
leaves-prints outcome IsDrawn (Err faults.Read) a b n m broken = absurd broken
leaves-prints outcome IsDrawn (Err (faults.Deck fault)) a b n m broken = absurd broken
leaves-prints outcome IsDrawn (Err faults.Long) a b n m broken = absurd broken

pub leaves-map : (outcome : PrintOutcome) (IsDrawn : List ℕ → Type 0) (done : Result Printed ToolFault) (a b : Option (List ℕ)) (n m : ℕ)
    → Leaves outcome IsDrawn done a n b m → IfOk done (λ p. IsDrawn p.map.items)
leaves-map outcome IsDrawn (Ok printed) a b n m leaves = leaves.0.1
leaves-map outcome IsDrawn (Err fault) a b n m broken = tt
