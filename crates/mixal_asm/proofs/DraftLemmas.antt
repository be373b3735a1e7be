-- The words agree with the names after one name more, or one word more.
use Rattle.std.proofs.Common.{◌≡◌, ℕ, Bool, true, false, if◌then◌else◌, List, [], ◌∷◌, ◌++◌, map, ◌&&◌, Ok, Option, Some, None, refl, sym, ap, ◌∙◌}
use Rattle.std.specs.Prelude.{nat_le, is_some}
use Rattle.std.specs.Option.{option_or}
use Rattle.mix_word.specs.Word.{WordValue}
use Rattle.mixal_asm.specs.Prelude.{Key, Name, Literal, IsNew, Before, NamesSoFar, value_of, waits_for, is_awaited, with_name, is_taken, name_of, Held, emitted_of, closed_held}
use Rattle.mixal_asm.specs.declared.words.Emitted.{Emitted}
use Rattle.mixal_text.specs.declared.label.Label.{Label}
use Rattle.mixal_text.specs.Address.{APartValue, IsFuture}
use Rattle.mixal_text.specs.declared.label.Label.TheVariants as label
use Rattle.mixal_asm.specs.Key.{same_key, same_key_decides, same_key_equivalence}
use Rattle.mixal_asm.specs.Draft.{held_word, held_by, scope_value, IsDue, HasNoLiteral}
use Rattle.mixal_asm.specs.declared.scope.OwnLocal.{OwnLocal}
use Rattle.mixal_text.specs.Address as apart
use Rattle.mixal_asm.proofs.TableLemmas.{lookup_push}

-- closing a chain leaves what was emitted
emitted_closed-one : (name : Key) (value : WordValue) (held : Held) (b : Bool) → waits_for name held.emitted.awaits ≡ b
    → (closed_held name value held).emitted ≡ held.emitted
emitted_closed-one name value held true is = rw is refl
emitted_closed-one name value held false is = rw is refl

pub emitted_closed : (name : Key) (value : WordValue) (held : List Held) → emitted_of (map (closed_held name value) held) ≡ emitted_of held
emitted_closed name value [] = refl
emitted_closed name value (first ∷ held) =
    let one : (closed_held name value first).emitted ≡ first.emitted =
    emitted_closed-one name value first (waits_for name first.emitted.awaits) refl in
    rw (one, emitted_closed name value held) refl

-- a word that is as it is by some names, after one name more
known_after : (names : NamesSoFar) (name awaited : Key) (value : WordValue) (b : Bool) → same_key name awaited ≡ b → value_of names name ≡ None
    → value_of (names ++ (name, value) ∷ []) awaited ≡ (if b then Some value else value_of names awaited)
known_after names name awaited value true is none =
    let same : name ≡ awaited = (same_key_decides name awaited).0 is in
    let nothing : value_of names awaited ≡ None = ap (λ (k : Key). value_of names k) (sym same) ∙ none in
    let turned : same_key awaited name ≡ true = same_key_equivalence.symm awaited name ∙ is in
    lookup_push (same_key awaited) names name value ∙ rw (nothing, turned) refl
known_after names name awaited value false is none =
    let turned : same_key awaited name ≡ false = same_key_equivalence.symm awaited name ∙ is in
    lookup_push (same_key awaited) names name value ∙ rw turned (keeps (value_of names awaited))
  where
    keeps : (o : Option WordValue) → option_or o None ≡ o
    keeps None = refl
    keeps (Some x) = refl

closed_word-waits : (names : NamesSoFar) (name awaited : Key) (value : WordValue) (place : ℕ) (word : WordValue) (b : Bool) → same_key name awaited ≡ b
    → value_of names name ≡ None
    → closed_held name value (held_word names (record { place = place; word = word; awaits = Some awaited }))
    ≡ held_word (names ++ (name, value) ∷ []) (record { place = place; word = word; awaits = Some awaited })
closed_word-waits names name awaited value place word true is none = rw (is, known_after names name awaited value true is none) refl
closed_word-waits names name awaited value place word false is none = rw (is, known_after names name awaited value false is none) refl

closed_word-by : (names : NamesSoFar) (name : Key) (value : WordValue) (place : ℕ) (word : WordValue) (awaits : Option Key) → value_of names name ≡ None
    → closed_held name value (held_word names (record { place = place; word = word; awaits = awaits }))
    ≡ held_word (names ++ (name, value) ∷ []) (record { place = place; word = word; awaits = awaits })
closed_word-by names name value place word None none = refl
closed_word-by names name value place word (Some awaited) none =
    closed_word-waits names name awaited value place word (same_key name awaited) refl none

closed_word : (names : NamesSoFar) (name : Key) (value : WordValue) (emitted : Emitted) → value_of names name ≡ None
    → closed_held name value (held_word names emitted) ≡ held_word (names ++ (name, value) ∷ []) emitted
closed_word names name value emitted none = closed_word-by names name value emitted.place emitted.word emitted.awaits none

closed_words : (names : NamesSoFar) (name : Key) (value : WordValue) (emitted : List Emitted) → value_of names name ≡ None
    → map (closed_held name value) (held_by names emitted) ≡ held_by (names ++ (name, value) ∷ []) emitted
closed_words names name value [] none = refl
closed_words names name value (first ∷ emitted) none = rw (closed_word names name value first none, closed_words names name value emitted none) refl

pub finished_define : (names : NamesSoFar) (held : List Held) (name : Key) (value : WordValue) → value_of names name ≡ None
    → held ≡ held_by names (emitted_of held)
    → map (closed_held name value) held ≡ held_by (names ++ (name, value) ∷ []) (emitted_of (map (closed_held name value) held))
finished_define names held name value none finished =
    ap (λ (hs : List Held). map (closed_held name value) hs) finished ∙ closed_words names name value (emitted_of held) none
    ∙ ap (λ (es : List Emitted). held_by (names ++ (name, value) ∷ []) es) (sym (emitted_closed name value held))

pub with_name-ok : (b : Before) (name : Key) (value : WordValue) → (is_awaited name b.emitted && nat_le 4096 value.magnitude) ≡ false
    → with_name b name value ≡ Ok (record b { names = b.names ++ (name, value) ∷ [] })
with_name-ok b name value fits = rw fits refl

nothing_there : (o : Option WordValue) → is_some o ≡ false → o ≡ None
nothing_there None none = refl
nothing_there (Some x) none = cc

-- a LOC that is not taken is a new name
pub untaken_is_new : (names : NamesSoFar) (loc : Label) → is_taken names (Some loc) ≡ false → IsNew names (name_of names loc)
untaken_is_new names (label.Name symbol) untaken = nothing_there (value_of names (Name symbol)) untaken
untaken_is_new names (label.Local d) untaken = refl

-- a symbol that was read as a future reference has no value
pub is_due : (names : NamesSoFar) (own : Option OwnLocal) (a : APartValue) → IsFuture (scope_value names own) a → IsDue names a
is_due names own (apart.Value word) future = tt
is_due names own (apart.Name symbol) future = future
is_due names own (apart.Ahead d) future = tt
is_due names own (apart.Literal text) future = tt

-- a LOC gives no literal its place
pub no_literal_more : (names : NamesSoFar) (loc : Label) (value : WordValue) → HasNoLiteral names → HasNoLiteral (names ++ (name_of names loc, value) ∷ [])
no_literal_more names (label.Name symbol) value none j = lookup_push (same_key (Literal j)) names (Name symbol) value ∙ rw (none j) refl
no_literal_more names (label.Local d) value none j = lookup_push (same_key (Literal j)) names (name_of names (label.Local d)) value ∙ rw (none j) refl

pub untaken_is_new_here : (names now : NamesSoFar) (loc : Label) → names ≡ now → is_taken now (Some loc) ≡ false → IsNew now (name_of names loc)
untaken_is_new_here names now loc same untaken = rw same (untaken_is_new now loc untaken)
