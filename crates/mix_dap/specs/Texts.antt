-- The texts of a launch: those that its request gives, or else those of the files that it names.
use Rattle.std.specs.Prelude.{◌≡◌, ◌⊎◌, ◌||◌, ◌+◌, ℕ, List, [], codes, Bool, true, false, Option, None, Some, Result, Ok, Err, is_some, unwrap_or, take, string_bytes, if◌then◌else◌}
use Rattle.std.specs.Option.{option_map}
use Rattle.std.specs.Global.{Vec}
use Rattle.mix_refused.specs.declared.refused.Refused.{Refused}
use Rattle.mix_refused.specs.declared.refused.Refused.TheVariants as refused
use Rattle.mix_machine.specs.units.deck.Deck.{max_deck_bytes}
use Rattle.mix_files.specs.Bundle.{max_bundle_bytes}
use Rattle.rpc_message.specs.declared.request.Request.{Request}
use Rattle.rpc_message.specs.Request.{text_of, flag_of}
use Rattle.dap_asked.specs.declared.fault.Fault.{Fault}
use Rattle.dap_asked.specs.declared.fault.Fault.TheVariants as fault
use Rattle.mix_dap.specs.declared.launch.Opening.{Opening}
use Rattle.mix_dap.specs.declared.launch.Opening.TheVariants as opening
use Rattle.mix_dap.specs.declared.launch.Texts.{Texts}

-- what is known of the text of a name: the text, or why it can't be had, or nothing
abbrev pub Known : Type 0
Known = Option (Result (List ℕ) Fault)

-- so many bytes of it at most
abbrev pub IsKnown : Known → ℕ → List ℕ → Type 0
IsKnown None most text = Unit {0}
IsKnown (Some (Ok known)) most text = text ≡ take most known
IsKnown (Some (Err why)) most text = ⊥

-- a file is not opened, or a read of it fails
abbrev pub IsFileFault : Fault → Type 0
IsFileFault why = (why ≡ fault.NotOpened) ⊎ (why ≡ fault.Unread)

abbrev pub IsKnownFault : Known → Fault → Type 0
IsKnownFault None why = IsFileFault why
IsKnownFault (Some (Ok known)) why = ⊥
IsKnownFault (Some (Err wrong)) why = (why ≡ wrong) × IsFileFault why

-- what a library gives for a name
abbrev pub Gives : Known → ℕ → Result (Vec ℕ) (Refused Fault) → Type 0
Gives known most (Ok bytes) = IsKnown known most bytes.items
Gives known most (Err (refused.Fault why)) = IsKnownFault known why
Gives known most (Err refused.Memory) = Unit {0}

-- a text that is given, or else that of a name, or else the empty one
abbrev pub IsText : (List ℕ → Known) → ℕ → Option (List ℕ) → Option (List ℕ) → List ℕ → Type 0
IsText knows most (Some given) named text = text ≡ given
IsText knows most None (Some name) text = IsKnown (knows name) most text
IsText knows most None None text = text ≡ []

-- the cards, which stand in place of those of the deck where they are given or named; and so of a deck, and of what is typed
abbrev pub AreCards : (List ℕ → Known) → Option (List ℕ) → Option (List ℕ) → Option (List ℕ) → Type 0
AreCards knows None None cards = cards ≡ None
AreCards knows (Some given) named None = ⊥
AreCards knows None (Some name) None = ⊥
AreCards knows (Some given) named (Some cards) = IsText knows (max_deck_bytes + 1) (Some given) named cards
AreCards knows None (Some name) (Some cards) = IsText knows (max_deck_bytes + 1) None (Some name) cards

-- whether a launch says which source
abbrev pub has_source : Request → Bool
has_source r = is_some (text_of r (codes "program")) || is_some (text_of r (codes "sourceText"))

-- how its program begins: one that is not debugged runs
abbrev pub opening_of : Request → Opening
opening_of r =
    if flag_of r (codes "noDebug") then opening.Free else if flag_of r (codes "stopOnEntry") then opening.Stops else opening.Runs

-- the texts of a request, of which a longer one than may be has one byte more than it may have. The program may be a bundle
pub record AreTexts (knows : List ℕ → Known) (r : Request) (texts : Texts) : Type 0 where
  pub asked : has_source r ≡ true
  pub source : IsText knows (max_bundle_bytes + 1) (text_of r (codes "sourceText")) (text_of r (codes "program")) texts.source.items
  pub deck : AreCards knows (text_of r (codes "devicesText")) (text_of r (codes "devices")) (option_map (λ deck. deck.items) texts.deck)
  pub cards : AreCards knows (text_of r (codes "cardsText")) (text_of r (codes "cards")) (option_map (λ cards. cards.items) texts.cards)
  pub typed : AreCards knows (text_of r (codes "typewriterText")) (text_of r (codes "typewriter")) (option_map (λ typed. typed.items) texts.typed)
  pub name : string_bytes texts.name ≡ unwrap_or (text_of r (codes "program")) (codes "program.mixal")
  pub opening : texts.opening ≡ opening_of r

-- why a text can't be had: it is not given, and that of its name can't be
abbrev pub RefusesText : (List ℕ → Known) → Option (List ℕ) → Option (List ℕ) → Fault → Type 0
RefusesText knows (Some given) named why = ⊥
RefusesText knows None (Some name) why = IsKnownFault (knows name) why
RefusesText knows None None why = ⊥

-- why they can't be had: no source is asked for, or one of them can't be
abbrev pub RefusesTexts : (List ℕ → Known) → Request → Fault → Type 0
RefusesTexts knows r why = ((has_source r ≡ false) × (why ≡ fault.BadArgument)) ⊎ ((has_source r ≡ true)
    × (RefusesText knows (text_of r (codes "sourceText")) (text_of r (codes "program")) why
    ⊎ (RefusesText knows (text_of r (codes "devicesText")) (text_of r (codes "devices")) why
    ⊎ (RefusesText knows (text_of r (codes "cardsText")) (text_of r (codes "cards")) why
    ⊎ RefusesText knows (text_of r (codes "typewriterText")) (text_of r (codes "typewriter")) why))))
