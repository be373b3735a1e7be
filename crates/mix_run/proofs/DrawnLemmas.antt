-- What is printed beside a map is that of the machine which the session begins with.
use Rattle.std.proofs.Common.{◌≡◌, ◌∙◌, ◌||◌, ℕ, Bool, true, false, List, [], Option, None, Some, Result, Ok, Err, ap, is_some, refl, sym}
use Rattle.std.specs.Io.KnownBytes.{Appends}
use Rattle.mixal_asm.specs.Program.{ProgramValue}
use Rattle.mix_machine.specs.Prelude.{loaded, WorldState, UnitsState}
use Rattle.mix_machine.specs.declared.part.Part.{Part}
use Rattle.mix_session.specs.Prelude.{world_at, SessionState, opened}
use Rattle.mix_session.specs.declared.fault.Refusal.{Refusal}
use Rattle.mix_run.specs.Counted.{at_end_of, end_table_asked}
use Rattle.mix_run.specs.Drawn.{DrawnIf, DrawnRun, DrawnSteps}
use Rattle.mix_run.specs.Prelude.{kept_if, Run, counted, run_of, ToolFault, NoTable, Ran, Printed, PrintOptions, Stepped}
use Rattle.mix_run.specs.PrintOutput.{Leaves, answered, came_to, counted_outcome, outcome_of_run, printed_outcome}
use Rattle.mix_run.specs.StepTable.{part_named, run_told, step_table, table_of}
use Rattle.mix_run.specs.Writes.{Broken}
use Rattle.mix_run.specs.declared.print.options.AskedTable.{AskedTable}
use Rattle.mix_run.specs.declared.print.options.TableOf.{TableOf}
use Rattle.mix_run.specs.declared.print.options.TableOf.TheVariants as ofs
use Rattle.mix_run.specs.declared.print.tabled.StepTable.{StepTable}
use Rattle.mix_run.proofs.Written.{Appends-nothing}

-- the session that a program is opened in
pub opened-program : (program : ProgramValue) (units : UnitsState) (s : SessionState) (p : ProgramValue) → s ≡ opened program units → p ≡ s.program → p ≡ program
unfolding opened
opened-program program units s p opens same = same ∙ ap (λ (x : SessionState). x.program) opens

-- before its changes a session is at the machine that is loaded
pub loaded-world : (program : ProgramValue) (units : UnitsState) (s : SessionState) (w : WorldState) → s ≡ opened program units → w ≡ world_at s.timeline 0
    → w ≡ loaded program.words program.start units
unfolding opened world_at
loaded-world program units s w opens at = at ∙ ap (λ (x : SessionState). world_at x.timeline 0) opens

-- what was told of a machine that is this one
pub told-as : (text : List ℕ) (table : Option StepTable) (options : PrintOptions) (w v next : WorldState) (stepped : Stepped) (a b : Option (List ℕ)) (n m : ℕ)
    → w ≡ v
    → ((stepped.end ≡ (run_told text table options w).end) × (stepped.conflicts ≡ counted (run_told text table options w).met) × (next ≡ (run_told text table options w).world))
    × Appends a b (run_told text table options w).bytes × (m ≡ n)
    → ((stepped.end ≡ (run_told text table options v).end) × (stepped.conflicts ≡ counted (run_told text table options v).met) × (next ≡ (run_told text table options v).world))
    × Appends a b (run_told text table options v).bytes × (m ≡ n)
told-as text table options w v next stepped a b n m at told = rw at at told

pub broken-as : (text : List ℕ) (table : Option StepTable) (options : PrintOptions) (w v : WorldState) (fault : ToolFault) (a b : Option (List ℕ)) (n m : ℕ)
    → w ≡ v → Broken (run_told text table options w).bytes fault a n b m → Broken (run_told text table options v).bytes fault a n b m
broken-as text table options w v fault a b n m at told = rw at at told

-- what is left of a run that was told
pub leaves-made : (options : PrintOptions) (program p : ProgramValue) (run : Run) (stepped : Stepped) (world : WorldState) (printed : Printed) (IsDrawn : List ℕ → Type 0)
    (a b : Option (List ℕ)) (n m : ℕ) → p ≡ program
    → ((stepped.end ≡ run.end) × (stepped.conflicts ≡ counted run.met) × (world ≡ run.world)) × Appends a b run.bytes × (m ≡ n)
    → printed.answer ≡ Ran (came_to p stepped.end world stepped.conflicts) → printed.deck.items ≡ kept_if options.keep world → IsDrawn printed.map.items
    → Leaves (answered options program run) IsDrawn (Ok printed) a n b m
leaves-made options program p run stepped world printed IsDrawn a b n m same told answer deck drawn =
    ((rw (answer, deck, same, told.0.0, told.0.1, told.0.2) refl, drawn), told.1, told.2)

-- what is told of the session that a program is opened in
pub leaves-opened : (text : List ℕ) (options : PrintOptions) (part : List ℕ) (table : Option StepTable) (program : ProgramValue) (units : UnitsState) (s : SessionState)
    (done : Result Printed ToolFault) (a b : Option (List ℕ)) (n m : ℕ) → s ≡ opened program units → step_table options.table part s ≡ Ok table
    → Leaves (answered options s.program (run_told text table options (world_at s.timeline 0)))
    (DrawnIf options.map) done a n b m
    → Leaves (printed_outcome text options part program units) (DrawnSteps options part program units) done a n b m
unfolding printed_outcome
leaves-opened text options part table program units s done a b n m opens chosen leaves =
    let here = ap (λ (x : SessionState). step_table options.table part x) (sym opens) ∙ chosen in
    let world = loaded-world program units s (world_at s.timeline 0) opens refl in
    rw here (rw (world, opened-program program units s s.program opens refl) at leaves)

-- a part that is none
pub leaves-none : (options : PrintOptions) (part : List ℕ) (program : ProgramValue) (units : UnitsState) (s : SessionState) (refusal : Refusal) (printed : Printed)
    (told : Option (List ℕ)) (n : ℕ) → s ≡ opened program units → step_table options.table part s ≡ Err refusal → printed.answer ≡ NoTable refusal
    → printed.deck.items ≡ [] → printed.map.items ≡ []
    → Leaves (printed_outcome [] options part program units) (DrawnSteps options part program units) (Ok printed) told n told n
unfolding printed_outcome
leaves-none options part program units s refusal printed told n opens none answer deck map =
    let here = ap (λ (x : SessionState). step_table options.table part x) (sym opens) ∙ none in
    rw here ((rw (answer, deck) refl, map), Appends-nothing told, refl)

-- ---- which run is asked for

-- a table at the end is none of the steps
last-of : (of : TableOf) (asked : AskedTable) (subject : List ℕ) (part : Result Part Refusal) → at_end_of of subject ≡ Ok true → table_of of asked part ≡ Ok None
last-of ofs.Counts asked subject part e = refl
last-of ofs.Formulas asked subject part e = refl
last-of ofs.Trace asked subject part e = absurd cc
last-of ofs.Writes asked subject part e = absurd cc

last-table : (asked : Option AskedTable) (subject : List ℕ) (s : SessionState) → end_table_asked asked subject ≡ Ok true → step_table asked subject s ≡ Ok None
unfolding step_table
last-table None subject s e = absurd cc
last-table (Some asked) subject s e = last-of asked.of asked subject (part_named s subject) e

pub leaves-counted : (text : List ℕ) (options : PrintOptions) (subject : List ℕ) (program : ProgramValue) (units : UnitsState) (done : Result Printed ToolFault)
    (a b : Option (List ℕ)) (n m : ℕ) → end_table_asked options.table subject ≡ Ok true
    → Leaves (counted_outcome text options program units)
    (DrawnIf options.map) done a n b m
    → Leaves (outcome_of_run text options subject program units) (DrawnRun options subject program units) done a n b m
unfolding outcome_of_run
leaves-counted text options subject program units done a b n m last leaves =
    rw (last, last-table options.table subject (opened program units) last) leaves

-- values that cannot be read
pub leaves-refused : (text : List ℕ) (options : PrintOptions) (subject : List ℕ) (program : ProgramValue) (units : UnitsState) (refusal : Refusal) (printed : Printed)
    (told : Option (List ℕ)) (n : ℕ) → end_table_asked options.table subject ≡ Err refusal → printed.answer ≡ NoTable refusal
    → printed.deck.items ≡ [] → printed.map.items ≡ []
    → Leaves (outcome_of_run text options subject program units) (DrawnRun options subject program units) (Ok printed) told n told n
unfolding outcome_of_run
leaves-refused text options subject program units refusal printed told n last answer deck map = rw last ((rw (answer, deck) refl, map), Appends-nothing told, refl)

no-table : (asked : Option AskedTable) → is_some asked ≡ false → asked ≡ None
no-table None e = refl
no-table (Some asked) e = absurd cc

neither : (a b : Bool) → (a || b) ≡ false → (a ≡ false) × (b ≡ false)
neither true b e = absurd cc
neither false b e = (refl, e)

table-none : (asked : Option AskedTable) (part : List ℕ) (s : SessionState) → is_some asked ≡ false → step_table asked part s ≡ Ok None
unfolding step_table
table-none asked part s e = rw (no-table asked e) refl

-- a run without a session is told by what it prints
pub leaves-alone : (text : List ℕ) (options : PrintOptions) (subject : List ℕ) (program : ProgramValue) (units : UnitsState) (done : Result Printed ToolFault)
    (a b : Option (List ℕ)) (n m : ℕ) → (options.map || is_some options.table) ≡ false
    → Leaves (answered options program (run_of options (loaded program.words program.start units))) (λ map. map ≡ []) done a n b m
    → Leaves (outcome_of_run text options subject program units) (DrawnRun options subject program units) done a n b m
unfolding outcome_of_run printed_outcome
leaves-alone text options subject program units done a b n m alone leaves =
    let none = neither options.map (is_some options.table) alone in
    let last : end_table_asked options.table subject ≡ Ok false = ap (λ asked. end_table_asked asked subject) (no-table options.table none.1) in
    rw (last, table-none options.table subject (opened program units) none.1, none.0) leaves

-- and one with it in a session
pub leaves-told : (text : List ℕ) (options : PrintOptions) (subject : List ℕ) (program : ProgramValue) (units : UnitsState) (done : Result Printed ToolFault)
    (a b : Option (List ℕ)) (n m : ℕ) → end_table_asked options.table subject ≡ Ok false
    → Leaves (printed_outcome text options subject program units) (DrawnSteps options subject program units) done a n b m
    → Leaves (outcome_of_run text options subject program units) (DrawnRun options subject program units) done a n b m
unfolding outcome_of_run
leaves-told text options subject program units done a b n m last leaves = rw last leaves
