-- A talk that is not begun, and a talk as a script.
use Rattle.std.proofs.Common.{◌≡◌, ◌∙◌, ◌+◌, ◌<◌, ◌≤◌, ℕ, false, List, [], ◌∷◌, ◌++◌, length, Option, Some, Result, Ok, Err, refl, sym, ap, ap₂, subst, arith, inr}
use Rattle.std.proofs.lemmas.Bool.{le-ltb}
use Rattle.mix_lines.specs.Lines.{lines}
use Rattle.mixal_asm.specs.Prelude.{assembly, ProgramValue}
use Rattle.mixal_asm.specs.declared.fault.AsmFault.{AsmFault}
use Rattle.mix_machine.specs.Prelude.{UnitsState, deck_of}
use Rattle.mix_machine.specs.declared.units.deck_fault.DeckFault.{DeckFault}
use Rattle.mix_refused.specs.declared.refused.Refused.{Refused as Refusal}
use Rattle.mix_refused.specs.declared.refused.Refused.TheVariants as reads
use Rattle.mix_stream.specs.declared.counted.Failed.{Failed}
use Rattle.mix_stream.specs.Stream.{AppendsFront, CountsFailure}
use Rattle.mix_session.specs.Prelude.{SessionState, effect_in, after, reply_of, told_of, told_of_both}
use Rattle.mix_session.specs.declared.reply.Told.{Told}
use Rattle.std.proofs.lemmas.List.{append-nil}
use Rattle.mix_run.specs.Prelude.{fault_of_read, ToolFault, begun, talk_of, GivesUnits, Talker, Moment, Program, Files, Saved, noted}
use Rattle.mix_run.specs.declared.fault.ToolFault.TheVariants as faults
use Rattle.mix_run.specs.Output.{DeckRefused, Ended, Meets, Replies, max_script_bytes, outcome_of, outcome_of_script, refusal_of, replies, status_of}
use Rattle.mix_run.specs.Talk.{AnswersRead, Talks, TalksWith, status_from}
use Rattle.mix_run.proofs.RunLemmas.{Keeps-same, Meets-unread, both-accepted}
use Rattle.std.specs.Prelude.{OnOk}
use Rattle.mix_run.specs.Bundle.{OriginValue, origin_of}
use Rattle.mix_run.specs.Sources.{Knows, reads_file}
use Rattle.mix_run.specs.declared.reason.Reason.TheVariants as reason
use Rattle.std.specs.List.{list_any}
use Rattle.mix_run.proofs.Written.{Appends-nothing, Appends-same}

-- no line was read yet
AnswersRead-nothing : (all : Files) (m : Moment) (talker : Talker) (t : List ℕ) (left told : Option (List ℕ)) → left ≡ Some t → AnswersRead all m talker t left told told
unfolding lines
AnswersRead-nothing all m talker t left told e = ([], [], t, e, refl, refl, refl, Appends-nothing told)

-- nothing was written, and memory was refused or a read failed
pub TalksWith-unread : (all : Files) (origin : OriginValue) (program : Result ProgramValue AsmFault) (units : Result UnitsState DeckFault) (talker : Talker) (t : List ℕ) (fault : Refusal Failed)
    (left told : Option (List ℕ)) → left ≡ Some t → TalksWith all origin program units talker t (Err (fault_of_read fault)) left told told
TalksWith-unread all origin (Err f) units talker t fault left told e = Meets-unread (refusal_of f) fault told
TalksWith-unread all origin (Ok p) (Err f) talker t fault left told e = Meets-unread (DeckRefused f) fault told
TalksWith-unread all origin (Ok p) (Ok units) talker t reads.Memory left told e = (Err faults.Memory, refl, (0, omega arith, Appends-nothing told))
TalksWith-unread all origin (Ok p) (Ok units) talker t (reads.Fault failed) left told e =
    (Err faults.Read, refl, AnswersRead-nothing all (begun origin p units) talker t left told e)

-- the units could not be read, or their deck is refused
pub TalksWith-no_units : (all : Files) (origin : OriginValue) (p : ProgramValue) (units : Result UnitsState DeckFault) (talker : Talker) (t : List ℕ) (fault : ToolFault) (left told : Option (List ℕ))
    → left ≡ Some t → GivesUnits units (Err fault) → TalksWith all origin (Ok p) units talker t (Err fault) left told told
TalksWith-no_units all origin p units talker t faults.Memory left told e given = TalksWith-unread all origin (Ok p) units talker t reads.Memory left told e
TalksWith-no_units all origin p units talker t faults.Read left told e given = TalksWith-unread all origin (Ok p) units talker t (reads.Fault record {}) left told e
TalksWith-no_units all origin p units talker t faults.Write left told e given = absurd given
TalksWith-no_units all origin p units talker t faults.Long left told e given = absurd given
TalksWith-no_units all origin p units talker t (faults.Deck fault) left told e given =
    subst (λ u. TalksWith all origin (Ok p) u talker t (Err (faults.Deck fault)) left told told) (sym given) (refl, Keeps-same told)

pub not-long : (units : Result UnitsState DeckFault) (fault : ToolFault) → GivesUnits units (Err fault) → fault ≡ faults.Long → ⊥
not-long units fault given e = let there : GivesUnits units (Err faults.Long) = subst (λ f. GivesUnits units (Err f)) e given in there

-- two readers have failed no more, and a third one as it is answered
pub counts-after : (P : Type 0) (a b c d old new : ℕ) → b ≡ a → d ≡ c → CountsFailure P old new → CountsFailure P (a + c + old) (b + d + new)
counts-after P a b c d old new e f counts = (
  (λ p. let one = counts.0.0 p in omega (arith, e, f, one), λ one. counts.0.1 (omega (arith, e, f, one))),
  λ no. let same = counts.1 no in omega (arith, e, f, same),
)

-- a source that was assembled
pub TalksWith-made : (all : Files) (origin : OriginValue) (made program : Result ProgramValue AsmFault) (units : Result UnitsState DeckFault) (talker : Talker) (t : List ℕ)
    (result : Result ℕ ToolFault) (left old new : Option (List ℕ)) → made ≡ program
    → TalksWith all origin program units talker t result left old new → TalksWith all origin made units talker t result left old new
TalksWith-made all origin made program units talker t result left old new e talks =
    subst (λ p. TalksWith all origin p units talker t result left old new) (sym e) talks

pub TalksWith-units : (all : Files) (origin : OriginValue) (p : ProgramValue) (units : Result UnitsState DeckFault) (some : UnitsState) (talker : Talker) (t : List ℕ)
    (result : Result ℕ ToolFault) (left old new : Option (List ℕ)) → units ≡ Ok some → TalksWith all origin (Ok p) (Ok some) talker t result left old new
    → TalksWith all origin (Ok p) units talker t result left old new
TalksWith-units all origin p units some talker t result left old new e talks = subst (λ u. TalksWith all origin (Ok p) u talker t result left old new) (sym e) talks

-- what holds of the source and the deck that were read holds of those that were given
holds-as : (name s d read text : List ℕ) (p q : ProgramValue) (u v : UnitsState) (P : OriginValue → ProgramValue → UnitsState → Type 0) → read ≡ s → text ≡ d
    → assembly read ≡ Ok q → deck_of d ≡ Ok v → assembly s ≡ Ok p → deck_of d ≡ Ok u → P (origin_of name read text) q v → P (origin_of name s d) p u
holds-as name s d read text p q u v P source deck made_read made_units made units there =
    let twice = sym (ap assembly source) ∙ made_read in
    let also = sym made_units ∙ units in
    let same : q ≡ p = cc in
    let same_units : v ≡ u = cc in
    subst (λ x. P (origin_of name s x) p u) deck
    (subst (λ x. P (origin_of name x text) p u) source
    (subst (λ x. P (origin_of name read text) x u) same
    (subst (λ x. P (origin_of name read text) q x) same_units there)))

pub saved-as : (result : Result ℕ ToolFault) (all : Files) (name s d read text : List ℕ) (p q : ProgramValue) (u v : UnitsState) (talker : Talker)
    (typed : List (List ℕ)) (old new : Option (List Saved)) → read ≡ s → text ≡ d → assembly read ≡ Ok q → deck_of d ≡ Ok v
    → assembly s ≡ Ok p → deck_of d ≡ Ok u → OnOk result (new ≡ noted old (talk_of all (begun (origin_of name read text) q v) talker typed).saved)
    → OnOk result (new ≡ noted old (talk_of all (begun (origin_of name s d) p u) talker typed).saved)
saved-as result all name s d read text p q u v talker typed old new whole_read whole_text made_read made_units made units there =
    holds-as name s d read text p q u v (λ origin program us. OnOk result (new ≡ noted old (talk_of all (begun origin program us) talker typed).saved))
    whole_read whole_text made_read made_units made units there

-- the talk with what was read is the talk with what was given
pub TalksWith-given : (all : Files) (name s d read text : List ℕ) (p : ProgramValue) (v : UnitsState) (talker : Talker) (t : List ℕ)
    (result : Result ℕ ToolFault) (left old new : Option (List ℕ)) → read ≡ s → text ≡ d → assembly read ≡ Ok p → deck_of d ≡ Ok v
    → TalksWith all (origin_of name read text) (Ok p) (Ok v) talker t result left old new
    → TalksWith all (origin_of name s d) (assembly s) (deck_of d) talker t result left old new
TalksWith-given all name s d read text p v talker t result left old new whole_read whole_text made units talks =
    let same = sym (ap assembly whole_read) ∙ made in
    TalksWith-made all (origin_of name s d) (assembly s) (Ok p) (deck_of d) talker t result left old new same
    (TalksWith-units all (origin_of name s d) p (deck_of d) v talker t result left old new units
    (holds-as name s d read text p p v v (λ origin program us. TalksWith all origin (Ok program) (Ok us) talker t result left old new) whole_read whole_text
    made units same units talks))

-- ---- as a script

-- a program reads no file
none-read : (typed : List (List ℕ)) → list_any (reads_file Program) typed ≡ false
none-read [] = refl
none-read (line ∷ typed) = none-read typed

pub Knows-program : (held : Option Files) (all : Files) (talker : Talker) (typed : List (List ℕ)) → talker ≡ Program → Knows held all talker typed
Knows-program held all talker typed is = inr (ap (λ k. list_any (reads_file k) typed) is ∙ none-read typed)

-- no file can be opened
abbrev pub no_files : Files
no_files name = Err reason.Missing

-- the lines of a program are those of a script
program-bytes : (all : Files) (m : Moment) (typed : List (List ℕ)) → (talk_of all m Program typed).bytes ≡ (replies m.session typed).bytes
program-bytes all m [] = refl
program-bytes all m (line ∷ typed) =
    let effect = effect_in m.session line in
    let next : Moment = record m { session = record m.session { timeline = after effect } } in
    let said = reply_of m.session.program effect in
    ap₂ (λ x y. x ++ y) (append-nil said) (program-bytes all next typed)

program-told : (all : Files) (m : Moment) (typed : List (List ℕ)) → (talk_of all m Program typed).told ≡ (replies m.session typed).told
program-told all m [] = refl
program-told all m (line ∷ typed) =
    let effect = effect_in m.session line in
    let next : Moment = record m { session = record m.session { timeline = after effect } } in
    ap₂ told_of_both (both-accepted (told_of effect.answer)) (program-told all next typed)

script-said : (s : SessionState) (t : List ℕ) → length t ≤ max_script_bytes
    → outcome_of_script false s t ≡ Ended (replies s (lines t)).bytes (status_of (replies s (lines t)).told)
unfolding outcome_of_script
script-said s t le = rw (le-ltb max_script_bytes (length t) le) refl

module _ (all : Files) (m : Moment) (t : List ℕ) (le : length t ≤ max_script_bytes) (left old new : Option (List ℕ)) where
  abbrev said : Replies
  said = replies m.session (lines t)

  -- the bytes and the status of the talk are those of the script
  meets-talk : (talk : Result Told ToolFault) → (status_from talk ≡ Err faults.Read → ⊥) → (status_from talk ≡ Err faults.Long → max_script_bytes < length t)
      → Talks all m Program t talk left old new → Meets (Ended said.bytes (status_of said.told)) (status_from talk) old new
  meets-talk (Ok told) read long talks = (
    ap (λ v. Ended said.bytes (status_of v)) (sym (talks.0 ∙ program-told all m (lines t))),
    Appends-same old new _ _ (program-bytes all m (lines t)) talks.1,
  )
  meets-talk (Err faults.Memory) read long talks = subst (AppendsFront old new) (program-bytes all m (lines t)) talks
  meets-talk (Err faults.Write) read long talks = subst (AppendsFront old new) (program-bytes all m (lines t)) talks
  meets-talk (Err faults.Read) read long talks = absurd (read refl)
  meets-talk (Err faults.Long) read long talks = let over = long refl in absurd (omega (arith, le, over))
  meets-talk (Err (faults.Deck fault)) read long talks = absurd talks

pub TalksWith-script : (all : Files) (origin : OriginValue) (program : Result ProgramValue AsmFault) (units : Result UnitsState DeckFault) (talker : Talker)
    (t : List ℕ) (result : Result ℕ ToolFault) (left old new : Option (List ℕ)) → talker ≡ Program → length t ≤ max_script_bytes
    → (result ≡ Err faults.Read → ⊥) → (result ≡ Err faults.Long → max_script_bytes < length t)
    → TalksWith all origin program units talker t result left old new → Meets (outcome_of false program units t) result old new
unfolding outcome_of
TalksWith-script all origin (Err fault) units talker t result left old new is le read long talks = talks
TalksWith-script all origin (Ok p) (Err fault) talker t result left old new is le read long talks = talks
TalksWith-script all origin (Ok p) (Ok units) talker t result left old new is le read long talks =
    let m = begun origin p units in
    let same : result ≡ status_from talks.0 = talks.1 in
    let script : Talks all m Program t talks.0 left old new = subst (λ k. Talks all m k t talks.0 left old new) is talks.2 in
    let met = meets-talk all m t le left old new talks.0 (λ e. read (same ∙ e)) (λ e. long (same ∙ e)) script in
    let there = subst (λ r. Meets (Ended (replies m.session (lines t)).bytes (status_of (replies m.session (lines t)).told)) r old new) (sym same) met in
    subst (λ o. Meets o result old new) (sym (script-said m.session t le)) there
