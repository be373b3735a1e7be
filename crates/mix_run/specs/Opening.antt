-- What opens files: which names it was asked for, and what their files hold, where that is known.
use Rattle.std.specs.Prelude.{◌≡◌, ◌==◌, ℕ, Bool, true, false, ⊤, List, [], ◌∷◌, ◌++◌, Option, None, Some, Result, Ok, Err, codes, is_ok, length, nat_lt, take}
use Rattle.std.specs.List.{list_any, starts_with}
use Rattle.std.specs.Str.{bytes_eq}
use Rattle.mix_files.specs.Bundle.{parts_of}
use Rattle.mix_machine.specs.units.deck.Deck.{deck_of}
use Rattle.mix_run.specs.declared.replaces.Replaces.{Replaces}
use Rattle.mix_run.specs.declared.replaces.Replaces.TheVariants as replaces
use Rattle.mix_refused.specs.declared.refused.Refused.{Refused}
use Rattle.mix_refused.specs.declared.refused.Refused.TheVariants as refused
use Rattle.mix_run.specs.declared.opener.Unread.{Unread}
use Rattle.mix_run.specs.declared.opener.Unread.TheVariants as unread
use Rattle.mix_run.specs.declared.opener.Unsaved.{Unsaved}
use Rattle.mix_run.specs.declared.reason.Reason.{Reason}

-- what files hold: the text of each name, or why a name can't be opened
abbrev pub Files : Type 0
Files = List ℕ → Result (List ℕ) Reason

-- a file that was to be saved: its name, its text, and what it may hold to be replaced
pub record Saved : Type 0 where
  pub name : List ℕ
  pub text : List ℕ
  pub over : Replaces

-- whether a text is a bundle: something follows its source
unfoldable pub is_bundle : List ℕ → Bool
is_bundle text = nat_lt (length (parts_of text).source) (length text)

-- how a picture of a map begins
abbrev pub picture_begins : List ℕ
picture_begins = codes "<?xml version=\"1.0\" encoding=\"UTF-8\"?>\n<svg xmlns=\"http://www.w3.org/2000/svg\" viewBox=\"0 0 760 "

abbrev pub is_picture : List ℕ → Bool
is_picture text = starts_with (λ a b. a == b) text picture_begins

-- whether a file may be replaced that holds this text; an empty one always may
abbrev pub may_go : Replaces → List ℕ → Bool
may_go over [] = true
may_go replaces.Anything (byte ∷ text) = true
may_go replaces.Nothing (byte ∷ text) = false
may_go replaces.Bundle (byte ∷ text) = is_bundle (byte ∷ text)
may_go replaces.Deck (byte ∷ text) = is_ok (deck_of (byte ∷ text))
may_go replaces.Picture (byte ∷ text) = is_picture (byte ∷ text)

-- the same of a name; where no file can be opened, none is replaced
abbrev pub may_replace : Replaces → Result (List ℕ) Reason → Bool
may_replace over (Err reason) = true
may_replace over (Ok text) = may_go over text

-- whether a name is among those of files that were to be saved; where these are not known, it is not
abbrev pub is_saved : Option (List Saved) → List ℕ → Bool
is_saved None name = false
is_saved (Some saved) name = list_any (λ file. bytes_eq file.name name) saved

-- one more, where those so far are known
abbrev pub noted_one : Option (List Saved) → Saved → Option (List Saved)
noted_one None file = None
noted_one (Some so_far) file = Some (so_far ++ file ∷ [])

-- some more
abbrev pub noted : Option (List Saved) → List Saved → Option (List Saved)
noted so_far [] = so_far
noted so_far (file ∷ files) = noted (noted_one so_far file) files

-- why a text is not saved: its file can't be opened or written, or memory is refused
abbrev pub WhyUnsaved : Type 0
WhyUnsaved = Refused Unsaved

-- why the last text that was not saved was not, after one save more, which may have gone well
abbrev pub refused_by : {A E : Type 0} → Option E → Result A E → Option E
refused_by before (Ok saved) = before
refused_by before (Err why) = Some why

-- a name that can't be opened, and why
abbrev pub Missing : Type 0
Missing = List ℕ × Reason

-- known names are followed by these; names that are no longer known stay so
abbrev pub Asks : Option (List (List ℕ)) → Option (List (List ℕ)) → List (List ℕ) → Type 0
Asks None None names = ⊤
Asks None (Some new) names = ⊥
Asks (Some old) None names = ⊤
Asks (Some old) (Some new) names = new ≡ old ++ names

-- what a reader still has, if there is one
abbrev pub rest_given : {R : Type 0} → (R → Option (List ℕ)) → Result R Reason → Result (Option (List ℕ)) Reason
rest_given rest (Ok reader) = Ok (rest reader)
rest_given rest (Err reason) = Err reason

-- what is given for a file: a reader of its text, and for one that can't be opened the reason
abbrev pub Gives : Result (List ℕ) Reason → Result (Option (List ℕ)) Reason → Type 0
Gives (Err reason) (Err told) = told ≡ reason
Gives (Err reason) (Ok rest) = ⊥
Gives (Ok text) (Err told) = ⊥
Gives (Ok text) (Ok rest) = rest ≡ Some text

-- what is read of a file: its text, of which no more than so many bytes are read, and of one that can't be opened the reason; unless memory is refused
abbrev pub GivesText : {V : Type 0} → (V → List ℕ) → Result (List ℕ) Reason → ℕ → Result V (Refused Unread) → Type 0
GivesText bytes held most (Err refused.Memory) = ⊤
GivesText bytes (Ok text) most (Ok given) = bytes given ≡ take most text
GivesText bytes (Ok text) most (Err (refused.Fault why)) = ⊥
GivesText bytes (Err reason) most (Ok given) = ⊥
GivesText bytes (Err reason) most (Err (refused.Fault unread.NotRead)) = ⊥
GivesText bytes (Err reason) most (Err (refused.Fault (unread.NotOpened told))) = told ≡ reason

-- a name, if there is one
abbrev pub named : Option (List ℕ) → List (List ℕ)
named None = []
named (Some name) = name ∷ []

-- the names that are asked for, one after the other: after the first that can't be opened no more
abbrev pub then_asked : Result (List ℕ) Reason → List (List ℕ) → List (List ℕ)
then_asked (Err reason) names = []
then_asked (Ok text) names = names

abbrev pub asked_of : Files → List (List ℕ) → List (List ℕ)
asked_of all [] = []
asked_of all (name ∷ rest) = name ∷ then_asked (all name) (asked_of all rest)

-- the first of some names that can't be opened, if there is one
abbrev pub then_missing : List ℕ → Result (List ℕ) Reason → Option Missing → Option Missing
then_missing name (Err reason) rest = Some (name, reason)
then_missing name (Ok text) rest = rest

abbrev pub missing_of : Files → List (List ℕ) → Option Missing
missing_of all [] = None
missing_of all (name ∷ rest) = then_missing name (all name) (missing_of all rest)

-- the text of a file that can be opened
abbrev pub opened_text : Result (List ℕ) Reason → List ℕ
opened_text (Ok text) = text
opened_text (Err reason) = []

-- the text of a name; without a name it is empty
abbrev pub text_of : Files → Option (List ℕ) → List ℕ
text_of all None = []
text_of all (Some name) = opened_text (all name)

-- these names were asked for, up to the first that can't be opened, if there is one
abbrev pub Opens : Files → List (List ℕ) → Option (List (List ℕ)) → Option (List (List ℕ)) → Option Missing → Type 0
Opens all names old new missing = Asks old new (asked_of all names) × (missing_of all names ≡ missing)
