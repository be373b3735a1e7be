-- What is said of some diagnostics, one more of them at a time.
use Rattle.std.proofs.Common.{◌≡◌, ◌<◌, ◌∙◌, ℕ, Bool, true, false, List, [], ◌∷◌, ◌++◌, refl, sym, ap, arith, length, subst, append_assoc}
use Rattle.std.proofs.lemmas.List.{append-nil}
use Rattle.mixal_asm.specs.declared.diagnostic.Diagnostic.{Diagnostic}
use Rattle.mixal_asm.specs.Diagnose.{diagnostics_of}
use Rattle.json.specs.Print.{print}
use Rattle.mix_check.specs.Report.{Report, Says, SaysAll, place_of}

-- a text, followed by one about those that are left, is about all
abbrev pub SoFar : Bool → List ℕ → List Diagnostic → List Diagnostic → List ℕ → Type 0
SoFar json name all left text = (more : List ℕ) → SaysAll json name left more → SaysAll json name all (text ++ more)

pub none-yet : (json : Bool) (name : List ℕ) (all : List Diagnostic) (text : List ℕ) → text ≡ [] → SoFar json name all all text
none-yet json name all text empty more says = subst (λ (t : List ℕ). SaysAll json name all (t ++ more)) (sym empty) says

pub one-more : (json : Bool) (name : List ℕ) (all left after : List Diagnostic) (d : Diagnostic) (text one new : List ℕ) → left ≡ d ∷ after
    → SoFar json name all left text → Says json name d one → new ≡ text ++ one → SoFar json name all after new
one-more json name all left after d text one new split so_far says added more rest =
    let here : SaysAll json name left (one ++ more) = subst (λ (ds : List Diagnostic). SaysAll json name ds (one ++ more)) (sym split) (one, more, says, rest, refl) in
    subst (SaysAll json name all) (sym (ap (λ (t : List ℕ). t ++ more) added ∙ append_assoc text one more)) (so_far (one ++ more) here)

pub none-left : (json : Bool) (name : List ℕ) (all left : List Diagnostic) (text : List ℕ) → length left < 1 → SoFar json name all left text → SaysAll json name all text
none-left json name all [] text few so_far = subst (SaysAll json name all) (append-nil text) (so_far [] refl)
none-left json name all (d ∷ left) text few so_far = absurd (omega (arith, few))

-- ---- there is a report of each source

some-one : (json : Bool) (name : List ℕ) (d : Diagnostic) → (text : List ℕ) × Says json name d text
some-one true name d = (print [] ++ 10 ∷ [], ([], refl))
some-one false name d = (place_of name d.line ++ [], ([], refl))

some-all : (json : Bool) (name : List ℕ) (ds : List Diagnostic) → (text : List ℕ) × SaysAll json name ds text
some-all json name [] = ([], refl)
some-all json name (d ∷ ds) =
    let one = some-one json name d in
    let rest = some-all json name ds in
    (one.0 ++ rest.0, (one.0, rest.0, one.1, rest.1, refl))

pub some-report : (json : Bool) (name source : List ℕ) → (text : List ℕ) × Report json name source text
some-report true name source = some-all true name (diagnostics_of source)
some-report false name source = let all = some-all false name (diagnostics_of source) in (all.0, λ none. all.1)
