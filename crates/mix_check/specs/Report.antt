-- A report of a source says something of each of its diagnostics, in their order.
use Rattle.std.specs.Prelude.{◌≡◌, ◌==◌, ℕ, Bool, true, false, not, List, [], ◌∷◌, ◌++◌, decimal}
use Rattle.std.specs.List.{list_any, starts_with}
use Rattle.json.specs.Print.{print}
use Rattle.json.specs.Token.{Token}
use Rattle.mixal_asm.specs.declared.diagnostic.Diagnostic.{Diagnostic}
use Rattle.mixal_asm.specs.Diagnose.{diagnostics_of, is_warning}

-- where a diagnostic is: `FILE:LINE:`
unfoldable pub place_of : List ℕ → ℕ → List ℕ
place_of name line = name ++ 58 ∷ decimal line ++ 58 ∷ []

-- a text is about a diagnostic: it begins with its place, or is a line of JSON
abbrev pub Says : Bool → List ℕ → Diagnostic → List ℕ → Type 0
Says false name d text = (rest : List ℕ) × (text ≡ place_of name d.line ++ rest)
Says true name d text = (tokens : List Token) × (text ≡ print tokens ++ 10 ∷ [])

-- a text is about each of some diagnostics, one after the other
abbrev pub SaysAll : Bool → List ℕ → List Diagnostic → List ℕ → Type 0
SaysAll json name [] text = text ≡ []
SaysAll json name (d ∷ ds) text = (first : List ℕ) × (rest : List ℕ) × Says json name d first × SaysAll json name ds rest × (text ≡ first ++ rest)

-- whether a source is a binary of mixasm: it begins with BEEFDEAD, the last byte first
abbrev pub is_binary : List ℕ → Bool
is_binary source = starts_with (λ a b. a == b) source (173 ∷ 222 ∷ 239 ∷ 190 ∷ [])

-- of a binary it is said that it is one, unless the report is in JSON
abbrev pub Report : Bool → List ℕ → List ℕ → List ℕ → Type 0
Report true name source text = SaysAll true name (diagnostics_of source) text
Report false name source text = is_binary source ≡ false → SaysAll false name (diagnostics_of source) text

-- a text is followed by one of which this holds
abbrev pub Adds : (List ℕ → Type 0) → List ℕ → List ℕ → Type 0
Adds Holds old new = (text : List ℕ) × Holds text × (new ≡ old ++ text)

-- whether one of the diagnostics is a fault
abbrev pub has_faults : List ℕ → Bool
has_faults source = list_any (λ d. not (is_warning d.finding)) (diagnostics_of source)
