-- The sources of a check: one file more, up to the last or the first that can't be opened.
use Rattle.std.proofs.Common.{◌≡◌, ℕ, ◌-◌, ◌≤◌, Bool, List, [], ◌∷◌, ◌++◌, length, take, drop, map, get_or, arith, Option, None, Some, Result, refl, sym, ap, ◌∙◌, subst, append_assoc}
use Rattle.std.proofs.lemmas.List.{map-append, append-nil, take_all}
use Rattle.mix_plan.specs.declared.plan.Plan.TheVariants as plan
use Rattle.mix_run.specs.Prelude.{Named, Reported, Asks, Files, Missing, Opens, asked_of, missing_of, opened_text}
use Rattle.mix_run.specs.declared.fault.ToolFault.{ToolFault}
use Rattle.mix_run.specs.declared.check.Reports.{Reports}
use Rattle.mix_tool.specs.Ending.{Seen}
use Rattle.mix_tool.specs.Plan.{DoneAfter, named_of}
use Rattle.mix_tool.proofs.OpeningLemmas.{opens-end, opens-then}

-- some of the names are left; those before them were opened, and their sources reported
abbrev pub SoFar : Files → Bool → List (List ℕ) → List (List ℕ) → Option (List (List ℕ)) → Option (List (List ℕ)) → Result Reports ToolFault → Type 0
SoFar all json names left old new reports =
    (done : List (List ℕ)) × (names ≡ done ++ left) × Opens all done old new None × Reported json (named_of all done) reports

-- no name was asked for
pub asks-nothing : (a : Option (List (List ℕ))) → Asks a a []
asks-nothing None = tt
asks-nothing (Some names) = sym (append-nil names)

-- the first name of some, and those after it
pub first-name : {S : Type 0} (f : S → List ℕ) (xs : List S) (x : S) → 1 ≤ length xs → x ≡ get_or xs 0 x
    → map f xs ≡ f x ∷ map f (take (length xs - 1) (drop 1 xs))
first-name f [] x some e = absurd (omega arith)
first-name f (y ∷ xs) x some e =
    ap (λ z. f z ∷ map f xs) (sym e) ∙ ap (λ ys. f x ∷ map f ys) (sym (take_all (length (y ∷ xs) - 1) xs (omega arith)))

pub next-file : (all : Files) (json : Bool) (names rest : List (List ℕ)) (name : List ℕ) (left : List (List ℕ)) (a b c : Option (List (List ℕ)))
    (reports next : Result Reports ToolFault) → rest ≡ name ∷ left → SoFar all json names rest a b reports → Opens all (name ∷ []) b c None
    → ((before : List Named) → Reported json before reports → Reported json (before ++ record { name = name; text = opened_text (all name) } ∷ []) next)
    → SoFar all json names left a c next
next-file all json names rest name left a b c reports next split so_far opens more =
    let done = so_far.0 in (
      done ++ name ∷ [],
      so_far.1 ∙ ap (λ (l : List (List ℕ)). done ++ l) split ∙ sym (append_assoc done (name ∷ []) left),
      opens-then all done (name ∷ []) a b c None so_far.2 opens,
      subst (λ (sources : List Named). Reported json sources next) (sym (map-append _ done (name ∷ []))) (more (named_of all done) so_far.3),
    )

pub missing-file : (all : Files) (json : Bool) (names rest : List (List ℕ)) (name : List ℕ) (left : List (List ℕ)) (a b c : Option (List (List ℕ)))
    (reports : Result Reports ToolFault) (missing : Missing) → rest ≡ name ∷ left → SoFar all json names rest a b reports → Opens all (name ∷ []) b c (Some missing)
    → Opens all names a c (Some missing)
missing-file all json names rest name left a b c reports missing split so_far opens =
    let done = so_far.0 in
    let same : names ≡ done ++ (name ∷ left) = so_far.1 ∙ ap (λ (l : List (List ℕ)). done ++ l) split in
    let whole = opens-then all done (name ∷ left) a b c (Some missing) so_far.2 (opens-end all (name ∷ []) left b c missing opens) in
    subst (λ (all_names : List (List ℕ)). Opens all all_names a c (Some missing)) (sym same) whole

-- the files of a plan, and then its sources
pub plan-opened : (all : Files) (found names sources : List (List ℕ)) (a b c : Option (List (List ℕ))) → found ≡ names → Opens all found a b None
    → Asks b c (asked_of all sources) → Opens all (names ++ sources) a c (missing_of all sources)
plan-opened all found names sources a b c same first next =
    opens-then all names sources a b c (missing_of all sources) (subst (λ (l : List (List ℕ)). Opens all l a b None) same first) (next, refl)

-- one of the files that can't be opened
pub plan-missing : (all : Files) (found names sources : List (List ℕ)) (a b : Option (List (List ℕ))) (missing : Missing) → found ≡ names
    → Opens all found a b (Some missing) → Opens all (names ++ sources) a b (Some missing)
plan-missing all found names sources a b missing same first =
    opens-end all names sources a b missing (subst (λ (l : List (List ℕ)). Opens all l a b (Some missing)) same first)

-- a plan is done as its run is, or as the first file that is missing says
pub done-as : (there found : Option Missing) (Run : Type 0) (status : ℕ) (before after : Seen) → there ≡ found → DoneAfter found Run status before after
    → DoneAfter there Run status before after
done-as there found Run status before after same done = subst (λ (m : Option Missing). DoneAfter m Run status before after) (sym same) done
