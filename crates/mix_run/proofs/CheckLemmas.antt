-- What is said of a source shows in its first bytes, one more than it may have; and the reports of some sources, one more of them at a time.
use Rattle.std.proofs.Common.{◌≡◌, ℕ, Bool, true, false, not, ◌||◌, List, [], ◌∷◌, ◌++◌, take, Option, Err, refl, ap, sym, subst, append_assoc, ◌∙◌}
use Rattle.std.proofs.KnownBytes.{Keeps-refl}
use Rattle.std.specs.List.{list_any}
use Rattle.std.proofs.lemmas.List.{append-nil}
use Rattle.mix_lines.specs.Lines.{lines}
use Rattle.mixal_asm.specs.Diagnose.{after_end_from, diagnostics_of, is_warning, up_to_end, warnings_of, warnings_up_to_end, with_faults}
use Rattle.mixal_asm.specs.Faults.{faults_of, faults_from, max_faults}
use Rattle.mixal_asm.specs.declared.diagnostic.Diagnostic.{Diagnostic}
use Rattle.mix_check.specs.Report.{Adds, Report, SaysAll, has_faults, is_binary}
use Rattle.mix_check.proofs.SayingLemmas.{some-report}
use Rattle.mix_run.specs.Check.{AreReports, Checks, Named, some_faulty}
use Rattle.mix_run.specs.Prelude.{IsMemoryOrRead, Meets, ToolFault}
use Rattle.mix_run.specs.declared.fault.ToolFault.TheVariants as faults
use Rattle.mix_run.proofs.WritesLemmas.{begun-none}
use Rattle.mix_run.specs.law.Truncation.{limited-take}

faults_of-take : (source : List ℕ) → faults_of (take 1048577 source) ≡ faults_of source
unfolding faults_of
faults_of-take source = limited-take 1048576 _ (λ text. faults_from max_faults [] (lines text)) source

warnings_of-take : (source : List ℕ) → warnings_of (take 1048577 source) ≡ warnings_of source
warnings_of-take source = limited-take 1048576 _ (λ text. warnings_up_to_end (up_to_end (lines text)) ++ after_end_from 1 (lines text)) source

diagnostics_of-take : (source : List ℕ) → diagnostics_of (take 1048577 source) ≡ diagnostics_of source
unfolding diagnostics_of
diagnostics_of-take source =
    ap (λ (warnings : List Diagnostic). with_faults warnings (faults_of (take 1048577 source))) (warnings_of-take source)
    ∙ ap (with_faults (warnings_of source)) (faults_of-take source)

-- a binary shows in its first four bytes
binary-take : (source : List ℕ) → is_binary (take 1048577 source) ≡ is_binary source
binary-take [] = refl
binary-take (a ∷ []) = refl
binary-take (a ∷ b ∷ []) = refl
binary-take (a ∷ b ∷ c ∷ []) = refl
binary-take (a ∷ b ∷ c ∷ d ∷ rest) = refl

report-take : (json : Bool) (name source text : List ℕ) → Report json name (take 1048577 source) text → Report json name source text
report-take true name source text says = subst (λ (ds : List Diagnostic). SaysAll true name ds text) (diagnostics_of-take source) says
report-take false name source text says =
    λ none. subst (λ (ds : List Diagnostic). SaysAll false name ds text) (diagnostics_of-take source) (says (binary-take source ∙ none))

-- of a source that was read up to one byte more than it may have, the report and whether there is a fault
pub report-read : (json : Bool) (name source read old new : List ℕ) → read ≡ take 1048577 source → Adds (Report json name read) old new
    → Adds (Report json name source) old new
report-read json name source read old new e adds =
    (adds.0, report-take json name source adds.0 (subst (λ (s : List ℕ). Report json name s adds.0) e adds.1), adds.2)

pub faulty-read : (source read : List ℕ) → read ≡ take 1048577 source → has_faults read ≡ has_faults source
faulty-read source read e =
    ap has_faults e ∙ ap (λ (ds : List Diagnostic). list_any (λ d. not (is_warning d.finding)) ds) (diagnostics_of-take source)

-- ---- one source more

reports-more : (json : Bool) (sources : List Named) (source : Named) (text one : List ℕ) → AreReports json sources text → Report json source.name source.text one
    → AreReports json (sources ++ source ∷ []) (text ++ one)
reports-more json [] source text one none says =
    subst (AreReports json (source ∷ [])) (ap (λ (t : List ℕ). t ++ one) (sym none)) (one, [], says, refl, sym (append-nil one))
reports-more json (first ∷ sources) source text one all says = (
  all.0,
  all.1 ++ one,
  all.2,
  reports-more json sources source all.1 one all.3 says,
  ap (λ (t : List ℕ). t ++ one) all.4 ∙ append_assoc all.0 all.1 one,
)

pub reports-next : (json : Bool) (sources : List Named) (name text old new : List ℕ) → AreReports json sources old → Adds (Report json name text) old new
    → AreReports json (sources ++ record { name = name; text = text } ∷ []) new
reports-next json sources name text old new so_far adds =
    subst (AreReports json (sources ++ record { name = name; text = text } ∷ [])) (sym adds.2)
    (reports-more json sources (record { name = name; text = text }) old adds.0 so_far adds.1)

pub any-more : (sources : List Named) (source : Named) → some_faulty (sources ++ source ∷ []) ≡ (some_faulty sources || has_faults source.text)
any-more [] source = go (has_faults source.text)
  where
    go : (b : Bool) → (b || false) ≡ b
    go true = refl
    go false = refl
any-more (first ∷ sources) source = go (has_faults first.text) (any-more sources source)
  where
    go : (b : Bool) → some_faulty (sources ++ source ∷ []) ≡ (some_faulty sources || has_faults source.text)
        → (b || some_faulty (sources ++ source ∷ [])) ≡ ((b || some_faulty sources) || has_faults source.text)
    go true more = refl
    go false more = more

-- ---- there are reports of all sources

pub some-reports : (json : Bool) (sources : List Named) → (text : List ℕ) × AreReports json sources text
some-reports json [] = ([], refl)
some-reports json (source ∷ sources) =
    let one = some-report json source.name source.text in
    let rest = some-reports json sources in
    (one.0 ++ rest.0, (one.0, rest.0, one.1, rest.1, refl))

-- where memory was refused or a read has failed, nothing is written, whatever the reports would be
pub broken-checks : (json : Bool) (sources : List Named) (fault : ToolFault) (told : Option (List ℕ)) → IsMemoryOrRead fault
    → Checks json sources (λ outcome. Meets outcome (Err fault) told told)
broken-checks json sources faults.Memory told is = let some = some-reports json sources in (some.0, some.1, begun-none some.0 told)
broken-checks json sources faults.Read told is = let some = some-reports json sources in (some.0, some.1, Keeps-refl told)
broken-checks json sources faults.Write told is = absurd is
broken-checks json sources (faults.Deck fault) told is = absurd is
broken-checks json sources faults.Long told is = absurd is
