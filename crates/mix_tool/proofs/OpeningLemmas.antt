-- Some names are opened, and then others.
use Rattle.std.proofs.Common.{◌≡◌, ℕ, List, [], ◌∷◌, ◌++◌, Option, None, Some, Result, Ok, Err, refl, sym, ap, ◌∙◌, subst, append_assoc}
use Rattle.mix_run.specs.Opening.{Asks, Files, Gives, Missing, Opens, asked_of, missing_of, opened_text, then_asked, then_missing}
use Rattle.mix_run.specs.declared.reason.Reason.{Reason}

-- one name that was opened
opened-case : (name : List ℕ) (file : Result (List ℕ) Reason) (rest : Option (List ℕ)) (a b : Option (List (List ℕ))) → Gives file (Ok rest) → Asks a b (name ∷ [])
    → Asks a b (name ∷ then_asked file []) × (then_missing name file None ≡ None) × (rest ≡ Some (opened_text file))
opened-case name (Err reason) rest a b given asks = absurd given
opened-case name (Ok text) rest a b given asks = (asks, refl, given)

pub opened-one : (all : Files) (name : List ℕ) (rest : Option (List ℕ)) (a b : Option (List (List ℕ))) → Gives (all name) (Ok rest)
    → Asks a b (name ∷ []) → Opens all (name ∷ []) a b None × (rest ≡ Some (opened_text (all name)))
opened-one all name rest a b given asks =
    let found = opened-case name (all name) rest a b given asks in ((found.0, found.1), found.2)

-- and one that was not
missing-case : (name : List ℕ) (reason : Reason) (file : Result (List ℕ) Reason) (a b : Option (List (List ℕ))) → Gives file (Err reason)
    → Asks a b (name ∷ []) → Asks a b (name ∷ then_asked file []) × (then_missing name file None ≡ Some (name, reason))
missing-case name reason (Err why) a b given asks = (asks, ap (λ r. Some (name, r)) (sym given))
missing-case name reason (Ok text) a b given asks = absurd given

pub missing-one : (all : Files) (name : List ℕ) (reason : Reason) (a b : Option (List (List ℕ))) → Gives (all name) (Err reason)
    → Asks a b (name ∷ []) → Opens all (name ∷ []) a b (Some (name, reason))
missing-one all name reason a b given asks = missing-case name reason (all name) a b given asks

pub asks-then : (a b c : Option (List (List ℕ))) (xs ys : List (List ℕ)) → Asks a b xs → Asks b c ys → Asks a c (xs ++ ys)
asks-then None None None xs ys h k = tt
asks-then None None (Some z) xs ys h k = absurd k
asks-then None (Some y) c xs ys h k = absurd h
asks-then (Some x) b None xs ys h k = tt
asks-then (Some x) None (Some z) xs ys h k = absurd k
asks-then (Some x) (Some y) (Some z) xs ys h k = k ∙ ap (λ t. t ++ ys) h ∙ append_assoc x xs ys

-- after names that were all opened
then-step : (x : List ℕ) (file : Result (List ℕ) Reason) (missing : Option Missing) (whole front back : List (List ℕ)) → (missing ≡ None → whole ≡ front ++ back)
    → then_missing x file missing ≡ None → x ∷ then_asked file whole ≡ (x ∷ then_asked file front) ++ back
then-step x (Err reason) missing whole front back more e = absurd cc
then-step x (Ok text) missing whole front back more e = ap (λ l. x ∷ l) (more e)

asked-then : (all : Files) (xs ys : List (List ℕ)) → missing_of all xs ≡ None → asked_of all (xs ++ ys) ≡ asked_of all xs ++ asked_of all ys
asked-then all [] ys e = refl
asked-then all (x ∷ xs) ys e = then-step x (all x) (missing_of all xs) _ (asked_of all xs) (asked_of all ys) (asked-then all xs ys) e

missing-step : (x : List ℕ) (file : Result (List ℕ) Reason) (missing whole rest : Option Missing) → (missing ≡ None → whole ≡ rest) → then_missing x file missing ≡ None
    → then_missing x file whole ≡ rest
missing-step x (Err reason) missing whole rest more e = absurd cc
missing-step x (Ok text) missing whole rest more e = more e

missing-then : (all : Files) (xs ys : List (List ℕ)) → missing_of all xs ≡ None → missing_of all (xs ++ ys) ≡ missing_of all ys
missing-then all [] ys e = refl
missing-then all (x ∷ xs) ys e = missing-step x (all x) (missing_of all xs) _ (missing_of all ys) (missing-then all xs ys) e

pub opens-then : (all : Files) (xs ys : List (List ℕ)) (a b c : Option (List (List ℕ))) (missing : Option Missing)
    → Opens all xs a b None → Opens all ys b c missing → Opens all (xs ++ ys) a c missing
opens-then all xs ys a b c missing first second =
    (subst (Asks a c) (sym (asked-then all xs ys first.1)) (asks-then a b c _ _ first.0 second.0), missing-then all xs ys first.1 ∙ second.1)

-- after one that was not opened
end-step : (x : List ℕ) (file : Result (List ℕ) Reason) (missing name other : Option Missing) (whole front : List (List ℕ))
    → (missing ≡ name → (whole ≡ front) × (other ≡ name)) → then_missing x file missing ≡ name
    → (x ∷ then_asked file whole ≡ x ∷ then_asked file front) × (then_missing x file other ≡ name)
end-step x (Err reason) missing name other whole front more e = (refl, e)
end-step x (Ok text) missing name other whole front more e = let rest = more e in (ap (λ l. x ∷ l) rest.0, rest.1)

end-names : (all : Files) (xs ys : List (List ℕ)) (name : Missing) → missing_of all xs ≡ Some name
    → (asked_of all (xs ++ ys) ≡ asked_of all xs) × (missing_of all (xs ++ ys) ≡ Some name)
end-names all [] ys name e = absurd cc
end-names all (x ∷ xs) ys name e = end-step x (all x) (missing_of all xs) (Some name) _ _ _ (end-names all xs ys name) e

pub opens-end : (all : Files) (xs ys : List (List ℕ)) (a b : Option (List (List ℕ))) (name : Missing)
    → Opens all xs a b (Some name) → Opens all (xs ++ ys) a b (Some name)
opens-end all xs ys a b name opens =
    let same = end-names all xs ys name opens.1 in (subst (Asks a b) (sym same.0) opens.0, same.1)
