-- A run whose steps are counted leaves what its session comes to.
use Rattle.std.proofs.Common.{◌≡◌, ◌+◌, ◌∙◌, ℕ, List, [], Option, Ok, Err, refl, subst}
use Rattle.std.specs.Io.KnownBytes.{Appends}
use Rattle.mix_stream.specs.Stream.{AppendsFront}
use Rattle.mixal_asm.specs.Program.{ProgramValue}
use Rattle.mix_machine.specs.Prelude.{WorldState, UnitsState}
use Rattle.mix_session.specs.Prelude.{after, SessionState, opened, world_of}
use Rattle.mix_run.specs.Counted.{counted_run, counted_steps, end_of}
use Rattle.mix_run.specs.Prelude.{DrawnIf, kept_if, counted, Ran, PrintAnswer, Printed, PrintOptions, RunEnd, Stepped}
use Rattle.mix_run.specs.PrintOutput.{Leaves, came_to, counted_outcome, ran_to}
use Rattle.mix_run.specs.declared.fault.ToolFault.TheVariants as faults

-- the table of a session after its steps, where they led, and what is left
pub counted-made : (options : PrintOptions) (s0 s : SessionState) (end : RunEnd) (stepped : Stepped) (w : WorldState) (text deck map : List ℕ)
    (answer : PrintAnswer) (p : ProgramValue) → s.program ≡ s0.program → s.timeline ≡ after (counted_steps options.steps s0.timeline)
    → end ≡ end_of (counted_steps options.steps s0.timeline).answer → stepped.end ≡ end → stepped.conflicts ≡ counted [] → w ≡ world_of s.timeline → p ≡ s.program
    → answer ≡ Ran (came_to p stepped.end w stepped.conflicts) → deck ≡ kept_if options.keep w
    → DrawnIf options.map map
    → let run = counted_run text options.steps s0 in
    (text ≡ run.bytes) × (answer ≡ Ran (ran_to s0.program run)) × (deck ≡ kept_if options.keep run.world)
    × DrawnIf options.map map
unfolding counted_run
counted-made options s0 s end stepped w text deck map answer p same steps ends is none stands here leads keeps drawn = (
  refl,
  leads ∙ rw (here, same, is, ends, none, stands, steps) refl,
  keeps ∙ rw (stands, steps) refl,
  drawn,
)

-- all of it is written
pub counted-leaves : (options : PrintOptions) (program : ProgramValue) (units : UnitsState) (s0 : SessionState) (text : List ℕ) (printed : Printed)
    (a b : Option (List ℕ)) (n m : ℕ) → s0 ≡ opened program units
    → (let run = counted_run text options.steps s0 in
    (text ≡ run.bytes) × (printed.answer ≡ Ran (ran_to s0.program run)) × (printed.deck.items ≡ kept_if options.keep run.world)
    × DrawnIf options.map printed.map.items)
    → Appends a b text → m ≡ n
    → Leaves (counted_outcome text options program units) (DrawnIf options.map)
    (Ok printed) a n b m
unfolding counted_outcome opened
counted-leaves options program units s0 text printed a b n m opens made told same =
    let here = rw opens at made in
    ((rw (here.1, here.2) refl, here.3), subst (λ (x : List ℕ). Appends a b x) here.0 told, same)

pub counted-begun : (options : PrintOptions) (program : ProgramValue) (units : UnitsState) (s0 : SessionState) (text : List ℕ) (printed : Printed)
    (a b : Option (List ℕ)) (n m : ℕ) → s0 ≡ opened program units
    → (let run = counted_run text options.steps s0 in
    (text ≡ run.bytes) × (printed.answer ≡ Ran (ran_to s0.program run)) × (printed.deck.items ≡ kept_if options.keep run.world)
    × DrawnIf options.map printed.map.items)
    → AppendsFront a b text → m ≡ n + 1
    → Leaves (counted_outcome text options program units) (DrawnIf options.map)
    (Err faults.Write) a n b m
unfolding counted_outcome opened
counted-begun options program units s0 text printed a b n m opens made begun more = let here = rw opens at made in (subst (λ (x : List ℕ). AppendsFront a b x) here.0 begun, more)
