-- What a plan does: the files that it opens, in their order, and the run that it makes on their texts.
use Rattle.std.specs.Prelude.{◌≡◌, ◌≤◌, ◌⊎◌, ⊤, ℕ, Bool, true, false, not, List, [], ◌++◌, Option, None, Some, option_map, is_some, map, string_bytes, if◌then◌else◌}
use Rattle.std.specs.Option.{option_map_or, option_or}
use Rattle.mixal_asm.specs.Assembly.{assembly}
use Rattle.mix_machine.specs.units.deck.Deck.{deck_of}
use Rattle.mix_plan.specs.declared.plan.DebugPlan.{DebugPlan}
use Rattle.mix_plan.specs.declared.plan.Plan.{Plan}
use Rattle.mix_plan.specs.declared.plan.Plan.TheVariants as plan
use Rattle.mix_plan.specs.declared.run.RunPlan.{RunPlan}
use Rattle.mix_run.specs.Prelude.{Checks, Named, debug_output, origin_given, bundle_output, list_output}
use Rattle.mix_run.specs.declared.talk.aside.Talker.{Talker}
use Rattle.mix_run.specs.declared.talk.Streams.{Streams}
use Rattle.mix_tool.specs.Ending.{PrintRuns, Runs, Saves, Seen, TalkRuns}
use Rattle.mix_tool.specs.Run.{Given, run_draws, run_output}
use Rattle.mix_run.specs.Opening.{Files, Missing, Saved, WhyUnsaved, may_replace, missing_of, named, opened_text, text_of}
use Rattle.mix_run.specs.declared.replaces.Replaces.{Replaces}
use Rattle.mix_run.specs.declared.replaces.Replaces.TheVariants as replaces
use Rattle.mix_tool.specs.declared.texts.Names.{Names}
use Rattle.mix_tool.specs.declared.texts.Texts.{Texts}

-- the names of the files of a plan: of a source, a deck, cards, lines for the typewriter and a script, each if there is one; a check has a list of its own
pub record FileNames : Type 0 where
  pub source : Option (List ℕ)
  pub deck : Option (List ℕ)
  pub cards : Option (List ℕ)
  pub typewriter : Option (List ℕ)
  pub script : Option (List ℕ)

abbrev pub names_of : Plan → FileNames
names_of plan.Bundle = record { source = None; deck = None; cards = None; typewriter = None; script = None }
names_of (plan.List source) = record { source = Some (string_bytes source); deck = None; cards = None; typewriter = None; script = None }
names_of (plan.Typeset source) = record { source = Some (string_bytes source); deck = None; cards = None; typewriter = None; script = None }
names_of (plan.Check sources json) = record { source = None; deck = None; cards = None; typewriter = None; script = None }
names_of (plan.Debug session) =
    record {
      source = Some (string_bytes session.source);
      deck = option_map string_bytes session.devices;
      cards = None;
      typewriter = None;
      script = option_map string_bytes session.script;
    }
names_of (plan.Run run) =
    record {
      source = Some (string_bytes run.source);
      deck = option_map string_bytes run.devices;
      cards = option_map string_bytes run.cards;
      typewriter = option_map string_bytes run.typewriter;
      script = None;
    }
names_of plan.Dap = record { source = None; deck = None; cards = None; typewriter = None; script = None }
names_of plan.Lsp = record { source = None; deck = None; cards = None; typewriter = None; script = None }

-- in the order in which they are opened
abbrev pub in_order : FileNames → List (List ℕ)
in_order names = named names.source ++ (named names.deck ++ (named names.cards ++ (named names.typewriter ++ named names.script)))

-- the names of the sources of a check
abbrev pub sources_of : Plan → List (List ℕ)
sources_of plan.Bundle = []
sources_of (plan.List source) = []
sources_of (plan.Typeset source) = []
sources_of (plan.Check sources json) = map string_bytes sources.items
sources_of (plan.Debug session) = []
sources_of (plan.Run run) = []
sources_of plan.Dap = []
sources_of plan.Lsp = []

-- all files of a plan, in the order in which they are opened
abbrev pub files_of : Plan → List (List ℕ)
files_of p = in_order (names_of p) ++ sources_of p

-- the names as they are in the code
abbrev pub names_in : Names → FileNames
names_in names = record {
  source = option_map (λ n. n.now) names.source;
  deck = option_map (λ n. n.now) names.deck;
  cards = option_map (λ n. n.now) names.cards;
  typewriter = option_map (λ n. n.now) names.typewriter;
  script = option_map (λ n. n.now) names.script;
}

-- the texts of a plan, as its files hold them
abbrev pub given_of : Files → FileNames → Given
given_of all names = record {
  source = text_of all names.source;
  deck = text_of all names.deck;
  cards = text_of all names.cards;
  typewriter = text_of all names.typewriter;
  script = text_of all names.script;
}

-- the sources of a check: the text of each name
abbrev pub named_of : Files → List (List ℕ) → List Named
named_of all names = map (λ name. record { name = name; text = opened_text (all name) }) names

-- the readers of a plan have these texts; without a reader a text is empty
abbrev pub rest_of : {R : Type 0} → (R → Option (List ℕ)) → Option R → Option (List ℕ)
rest_of rest reader = option_map_or rest reader (Some [])

pub record HoldTexts {R : Type 0} (rest : R → Option (List ℕ)) (texts : Texts R) (given : Given) : Type 0 where
  pub source : rest_of rest texts.source.reader ≡ Some given.source
  pub deck : rest_of rest texts.deck.reader ≡ Some given.deck
  pub cards : rest_of rest texts.cards.reader ≡ Some given.cards
  pub typewriter : rest_of rest texts.typewriter.reader ≡ Some given.typewriter
  pub script : rest_of rest texts.script.reader ≡ Some given.script

-- and no read of them has failed
pub record AreFresh {R : Type 0} (failed : R → ℕ) (texts : Texts R) : Type 0 where
  pub source : option_map_or failed texts.source.reader 0 ≡ 0
  pub deck : option_map_or failed texts.deck.reader 0 ≡ 0
  pub cards : option_map_or failed texts.cards.reader 0 ≡ 0
  pub typewriter : option_map_or failed texts.typewriter.reader 0 ≡ 0
  pub script : option_map_or failed texts.script.reader 0 ≡ 0

-- the files in which a run saves the deck of its units and its map
abbrev pub saved_names : RunPlan → List (List ℕ)
saved_names run = named (option_map string_bytes run.keep) ++ named (option_map string_bytes run.svg)

-- what is seen of some streams, and of what opens files
abbrev pub seen : {R W E : Type 0} → (R → Option (List ℕ)) → (W → Option (List ℕ)) → Option WhyUnsaved → Streams R W E → Seen
seen rest told refusal s = record { input = rest s.input; out = told s.out; refusal = refusal }

-- by a script, if there is one, and otherwise by the lines of the input
abbrev pub ScriptedOr : {Name : Type 0} → Option Name → Type 0 → Type 0 → Type 0
ScriptedOr (Some script) Scripted Talked = Scripted
ScriptedOr None Scripted Talked = Talked

-- a session of a source or bundle, with its own deck or with one that is given; the commands of its script are echoed or not
abbrev pub DebugsOn : Files → DebugPlan → Given → Talker → ℕ → Seen → Seen → Type 0
DebugsOn all session given talker status before after =
    let name = string_bytes session.source in
    let has_deck = is_some session.devices in
    let origin = origin_given name has_deck given.source given.deck in
    ScriptedOr session.script
    (Runs (debug_output session.echo has_deck given.source given.deck given.script) status before after)
    ((t : List ℕ) → before.input ≡ Some t → TalkRuns all origin (assembly origin.source) (deck_of origin.deck) talker t status before after)

-- a file, if one is named, that holds what may not be replaced
abbrev pub taken_name : Files → Replaces → Option (List ℕ) → Option (List ℕ)
taken_name all over None = None
taken_name all over (Some name) = if may_replace over (all name) then None else Some name

-- of the files in which a run saves its deck and its map, the first such one
abbrev pub taken_of : Files → RunPlan → Option (List ℕ)
taken_of all run =
    option_or (taken_name all replaces.Deck (option_map string_bytes run.keep)) (taken_name all replaces.Picture (option_map string_bytes run.svg))

-- nothing is done then; it is never so of a run of which no file is taken
abbrev pub IsTaken : Option (List ℕ) → ℕ → Seen → Seen → Type 0
IsTaken None status before after = ⊥
IsTaken (Some name) status before after =
    (status ≡ 2) × (after.input ≡ before.input) × (after.out ≡ before.out) × (after.refusal ≡ before.refusal)

-- a run of a program: it is made, unless a file is taken
abbrev pub PrintsOn : Files → RunPlan → Given → ℕ → Seen → Seen → Type 0
PrintsOn all run given status before after =
    ((text : List ℕ) × PrintRuns (run_output text run given) (option_map string_bytes run.keep) (option_map string_bytes run.svg) status before after)
    ⊎ IsTaken (taken_of all run) status before after

-- whether a session is by the lines of the input
abbrev pub is_talk : {Name : Type 0} → Option Name → Bool
is_talk (Some script) = false
is_talk None = true

-- the run of a plan on its texts; a check finds its sources in the files; a client of the debug adapter is served
abbrev pub RunsOn : Files → Plan → Given → Talker → ℕ → Seen → Seen → Type 0
RunsOn all plan.Bundle given talker status before after = (b : List ℕ) → before.input ≡ Some b → Runs (bundle_output b) status before after
RunsOn all (plan.List source) given talker status before after = Runs (list_output given.source) status before after
RunsOn all (plan.Typeset source) given talker status before after = ⊤
RunsOn all (plan.Check sources json) given talker status before after =
    Checks json (named_of all (map string_bytes sources.items)) (λ outcome. Runs outcome status before after)
RunsOn all (plan.Debug session) given talker status before after = DebugsOn all session given talker status before after
RunsOn all (plan.Run run) given talker status before after = PrintsOn all run given status before after
RunsOn all plan.Dap given talker status before after = status ≤ 2
RunsOn all plan.Lsp given talker status before after = status ≤ 2

-- where a file can't be opened, the status is 2, and nothing is read or written; if there is none such, the run is made
abbrev pub DoneAfter : Option Missing → Type 0 → ℕ → Seen → Seen → Type 0
DoneAfter None Run status before after = Run
DoneAfter (Some missing) Run status before after =
    (status ≡ 2) × (after.input ≡ before.input) × (after.out ≡ before.out)

-- a plan is done
abbrev pub IsDone : Files → Plan → Talker → ℕ → Seen → Seen → Type 0
IsDone all p talker status before after =
    DoneAfter (missing_of all (files_of p)) (RunsOn all p (given_of all (names_of p)) talker status before after) status before after

-- whether a plan reads the input: a bundle and a talk do
abbrev pub reads_input : Plan → Bool
reads_input plan.Bundle = true
reads_input (plan.List source) = false
reads_input (plan.Typeset source) = false
reads_input (plan.Check sources json) = false
reads_input (plan.Debug session) = is_talk session.script
reads_input (plan.Run run) = false
reads_input plan.Dap = false
reads_input plan.Lsp = false

-- whether a plan hears a client: the debug adapter and the language server do
abbrev pub hears_client : Plan → Bool
hears_client plan.Bundle = false
hears_client (plan.List source) = false
hears_client (plan.Typeset source) = false
hears_client (plan.Check sources json) = false
hears_client (plan.Debug session) = false
hears_client (plan.Run run) = false
hears_client plan.Dap = true
hears_client plan.Lsp = true

-- whether its client is one of the debug adapter, or of the language server
abbrev pub adapts : Plan → Bool
adapts plan.Dap = true
adapts other = false

abbrev pub speaks : Plan → Bool
speaks plan.Lsp = true
speaks other = false

-- whether nothing is told on the error output but a fault of the tool: of a talk and of a run other things are
abbrev pub is_quiet : Plan → Bool
is_quiet plan.Bundle = true
is_quiet (plan.List source) = true
is_quiet (plan.Typeset source) = true
is_quiet (plan.Check sources json) = true
is_quiet (plan.Debug session) = not (is_talk session.script)
is_quiet (plan.Run run) = false
is_quiet plan.Dap = true
is_quiet plan.Lsp = true

-- the files that a run creates: for what its units hold, and for its map; no other plan is a run
abbrev pub creates_of : Plan → Option (List (List ℕ))
creates_of plan.Bundle = None
creates_of (plan.List source) = None
creates_of (plan.Typeset source) = None
creates_of (plan.Check sources json) = None
creates_of (plan.Debug session) = None
creates_of (plan.Run run) = Some (saved_names run)
creates_of plan.Dap = None
creates_of plan.Lsp = None

-- what a run on its texts saves
abbrev pub SavesOn : Plan → Given → ℕ → Option (List Saved) → Option (List Saved) → Type 0
SavesOn (plan.Run run) given status old new =
    Saves (run_output [] run given) (run_draws run given) (option_map string_bytes run.keep) (option_map string_bytes run.svg) status old new
SavesOn other given status old new = ⊤
