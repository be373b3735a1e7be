-- How the words are kept while names are open: each one that waits for a name is linked to the one before it that waits for
-- the same name, and a map holds the last one of each name. No chain runs through cells.
use Rattle.std.specs.Prelude.{◌≡◌, ℕ, zero, suc, Bool, false, List, [], ◌∷◌, length, map, slice_get, Option, Some, None, if◌then◌else◌}
use Rattle.std.specs.Map.{lookup, keys_of}
use Rattle.mix_word.specs.Word.{WordValue}
use Rattle.mixal_asm.specs.declared.key.Key.{Key}
use Rattle.mixal_asm.specs.declared.words.Emitted.{Emitted}
use Rattle.mixal_asm.specs.declared.words.Entry.{Entry}
use Rattle.mixal_asm.specs.Key.{same_key}
use Rattle.mixal_asm.specs.PassOne.{waits_for, with_address}
use Rattle.mixal_asm.specs.Assembly.{with_use}

-- what a word waits for, and which one before it is linked to it
abbrev pub Link : Type 0
Link = Option Key × Option ℕ

abbrev pub link_of : Entry → Link
link_of entry = (entry.emitted.awaits, entry.before)

abbrev pub links_of : List Entry → List Link
links_of entries = map link_of entries

-- whether the word at a place in the list waits for a name
abbrev pub waits_at : Key → List Link → ℕ → Bool
waits_at name [] i = false
waits_at name (link ∷ links) zero = waits_for name link.0
waits_at name (link ∷ links) (suc i) = waits_at name links i

-- the last of the first n words that waits for a name
abbrev pub last_below : Key → List Link → ℕ → Option ℕ
last_below name links zero = None
last_below name links (suc n) = if waits_at name links n then Some n else last_below name links n

-- the last one before a word that waits for the same name
abbrev pub before_of : List Link → ℕ → Option Key → Option ℕ
before_of links i None = None
before_of links i (Some name) = last_below name links i

-- the names that words wait for, each once, in the order of first use
abbrev pub uses_from : List Key → List Link → List Key
uses_from uses [] = uses
uses_from uses (link ∷ links) = uses_from (with_use uses link.0) links

-- each word is linked to the last one before it that waits for the same name
pub record IsLinked (links : List Link) : Type 0 where
  pub at : (i : ℕ) (link : Link) → slice_get links i ≡ Some link → link.1 ≡ before_of links i link.0

pub record IsChained (links : List Link) (last : List (Key × ℕ)) : Type 0 where
  pub linked : IsLinked links
  pub lasts : (name : Key) → lookup (same_key name) last ≡ last_below name links (length links)
  pub uses : keys_of last ≡ uses_from [] links

-- ---- what a name that gets a value does to the words that wait for it

abbrev pub closed : Key → WordValue → Entry → Entry
closed name value entry =
    if waits_for name entry.emitted.awaits then record entry { word = with_address entry.emitted.word value } else entry

-- to those from this place on
abbrev pub map_from : {A : Type 0} → (A → A) → ℕ → List A → List A
map_from f zero xs = map f xs
map_from f (suc n) [] = []
map_from f (suc n) (x ∷ xs) = x ∷ map_from f n xs

-- the first place after a link
abbrev pub after_link : Option ℕ → ℕ
after_link None = 0
after_link (Some i) = suc i

-- the last use of what a word waits for, by the map
abbrev pub last_use : List (Key × ℕ) → Option Key → Option ℕ
last_use last None = None
last_use last (Some name) = lookup (same_key name) last

-- ---- what is seen of the words

-- a word as it was emitted, and as it is by the names that have a value
pub record Held : Type 0 where
  pub emitted : Emitted
  pub word : WordValue

abbrev pub held_of : Entry → Held
held_of entry = record { emitted = entry.emitted; word = entry.word }

abbrev pub emitted_of : List Held → List Emitted
emitted_of held = map (λ h. h.emitted) held

abbrev pub closed_held : Key → WordValue → Held → Held
closed_held name value held =
    if waits_for name held.emitted.awaits then record held { word = with_address held.emitted.word value } else held

-- what the map of last uses keeps of one word more
abbrev pub IsUsed : List (Key × ℕ) → List (Key × ℕ) → Option Key → ℕ → Type 0
IsUsed old new None at = new ≡ old
IsUsed old new (Some name) at =
    (keys_of new ≡ with_use (keys_of old) (Some name))
    × ((k : Key) → lookup (same_key k) new ≡ (if same_key name k then Some at else lookup (same_key k) old))
