-- The walk along a chain reaches every word that waits for the name, and no other.
use Rattle.std.proofs.Common.{◌≡◌, ℕ, zero, suc, ◌<◌, ◌≤◌, Bool, true, false, if◌then◌else◌, List, [], ◌∷◌, ◌++◌, length, map, Option, Some, None, refl, sym, ap, ◌∙◌, arith, set, get_or, true≢false, ◌||◌, ◌⊎◌, inl, inr, length-append, add-one, fold}
use Rattle.std.specs.Prelude.{slice_get, is_some, position, nat_lt, not, ◌+◌}
use Rattle.std.specs.List.{position_or_len}
use Rattle.std.specs.Option.{IfSome, option_map}
use Rattle.std.specs.Bool.{IsTrue}
use Rattle.std.proofs.lemmas.Option.{slice_get-map}
use Rattle.std.proofs.lemmas.List.{length-map, map-append}
use Rattle.mix_word.specs.Word.{WordValue}
use Rattle.mixal_asm.specs.Prelude.{Key, Entry, waits_for, is_awaited, with_address, first_wait}
use Rattle.mixal_asm.specs.Key.{same_key, same_key_decides, same_key_equivalence}
use Rattle.mixal_asm.specs.Assembly.{with_use, first_uses}
use Rattle.std.specs.Map.{lookup, keys_of}
use Rattle.mixal_asm.specs.Chain.{Link, link_of, links_of, waits_at, last_below, before_of, IsLinked, closed, map_from, after_link, uses_from, IsChained, last_use, held_of, emitted_of, closed_held, IsUsed, Held}

-- ---- the last word below a place that waits for a name

last_waits-step : (name : Key) (links : List Link) (n : ℕ) (b : Bool) → waits_at name links n ≡ b
    → IfSome (last_below name links n) (λ at. waits_at name links at ≡ true)
    → IfSome (if b then Some n else last_below name links n) (λ at. waits_at name links at ≡ true)
last_waits-step name links n true is rest = is
last_waits-step name links n false is rest = rest

pub last_waits : (name : Key) (links : List Link) (n : ℕ) → IfSome (last_below name links n) (λ at. waits_at name links at ≡ true)
last_waits name links zero = tt
last_waits name links (suc n) = last_waits-step name links n (waits_at name links n) refl (last_waits name links n)

last_is_below-step : (name : Key) (links : List Link) (n : ℕ) (b : Bool) → after_link (last_below name links n) ≤ n
    → after_link (if b then Some n else last_below name links n) ≤ suc n
last_is_below-step name links n true rest = omega arith
last_is_below-step name links n false rest = omega arith

pub last_is_below : (name : Key) (links : List Link) (n : ℕ) → after_link (last_below name links n) ≤ n
last_is_below name links zero = omega arith
last_is_below name links (suc n) = last_is_below-step name links n (waits_at name links n) (last_is_below name links n)

-- ---- words that do not wait for it stay as they are

closed_other : (name : Key) (value : WordValue) (entry : Entry) → waits_for name entry.emitted.awaits ≡ false → closed name value entry ≡ entry
closed_other name value entry other = rw other refl

one_more : (name : Key) (value : WordValue) (entries : List Entry) (n : ℕ) → waits_at name (links_of entries) n ≡ false
    → map_from (closed name value) (suc n) entries ≡ map_from (closed name value) n entries
one_more name value [] zero other = refl
one_more name value [] (suc n) other = refl
one_more name value (entry ∷ entries) zero other = ap (λ (e : Entry). e ∷ map (closed name value) entries) (sym (closed_other name value entry other))
one_more name value (entry ∷ entries) (suc n) other = ap (λ (es : List Entry). entry ∷ es) (one_more name value entries n other)

skip-step : (name : Key) (value : WordValue) (entries : List Entry) (n : ℕ) (b : Bool) → waits_at name (links_of entries) n ≡ b
    → map_from (closed name value) n entries ≡ map_from (closed name value) (after_link (last_below name (links_of entries) n)) entries
    → map_from (closed name value) (suc n) entries
    ≡ map_from (closed name value) (after_link (if b then Some n else last_below name (links_of entries) n)) entries
skip-step name value entries n true is rest = refl
skip-step name value entries n false is rest = one_more name value entries n is ∙ rest

pub skip : (name : Key) (value : WordValue) (entries : List Entry) (n : ℕ)
    → map_from (closed name value) n entries ≡ map_from (closed name value) (after_link (last_below name (links_of entries) n)) entries
skip name value entries zero = refl
skip name value entries (suc n) = skip-step name value entries n (waits_at name (links_of entries) n) refl (skip name value entries n)

none_closed : (name : Key) (value : WordValue) (entries : List Entry) → map_from (closed name value) (length entries) entries ≡ entries
none_closed name value [] = refl
none_closed name value (entry ∷ entries) = ap (λ (es : List Entry). entry ∷ es) (none_closed name value entries)

-- before the walk no word is closed, and it begins at the last one that waits
pub begun : (name : Key) (value : WordValue) (entries : List Entry) (last : Option ℕ) → last ≡ last_below name (links_of entries) (length entries)
    → entries ≡ map_from (closed name value) (after_link last) entries
begun name value entries last is =
    sym (none_closed name value entries) ∙ skip name value entries (length entries)
    ∙ ap (λ (o : Option ℕ). map_from (closed name value) (after_link o) entries) (sym is)

-- ---- one step of the walk

record Hit (name : Key) (value : WordValue) (entries : List Entry) (at : ℕ) (entry : Entry) : Type 0 where
  there : slice_get entries at ≡ Some entry
  waits : waits_for name entry.emitted.awaits ≡ true
  still : (d : Entry) → get_or (map_from (closed name value) (suc at) entries) at d ≡ entry
  put : set (map_from (closed name value) (suc at) entries) at (closed name value entry) ≡ map_from (closed name value) at entries

hit : (name : Key) (value : WordValue) (entries : List Entry) (at : ℕ) → waits_at name (links_of entries) at ≡ true
    → (entry : Entry) × Hit name value entries at entry
hit name value [] zero waits = absurd (true≢false (sym waits))
hit name value [] (suc at) waits = absurd (true≢false (sym waits))
hit name value (entry ∷ entries) zero waits = (entry, record { there = refl; waits = waits; still = λ d. refl; put = refl })
hit name value (entry ∷ entries) (suc at) waits =
    let more = hit name value entries at waits in (
      more.0,
      record {
        there = more.1.there;
        waits = more.1.waits;
        still = more.1.still;
        put = ap (λ (es : List Entry). entry ∷ es) more.1.put;
      },
    )

-- what a word that waits for the name is linked to
linked_to : (name : Key) (links : List Link) (at : ℕ) (awaits : Option Key) → waits_for name awaits ≡ true
    → before_of links at awaits ≡ last_below name links at
linked_to name links at None waits = absurd (true≢false (sym waits))
linked_to name links at (Some other) waits = ap (λ (k : Key). last_below k links at) (sym ((same_key_decides name other).0 waits))

pub record Turn (name : Key) (value : WordValue) (entries now : List Entry) (at : ℕ) (entry : Entry) (word : WordValue) : Type 0 where
  pub items : set now at (record entry { word = word }) ≡ map_from (closed name value) (after_link entry.before) entries
  pub there : IfSome entry.before (λ i. waits_at name (links_of entries) i ≡ true)
  pub smaller : after_link entry.before < suc at

pub turn : (name : Key) (value : WordValue) (entries now : List Entry) (at : ℕ) (entry : Entry) (word : WordValue) → IsLinked (links_of entries)
    → now ≡ map_from (closed name value) (suc at) entries → waits_at name (links_of entries) at ≡ true → entry ≡ get_or now at entry
    → word ≡ with_address entry.emitted.word value → Turn name value entries now at entry word
turn name value entries now at entry word linked same waits is word_is =
    let found = hit name value entries at waits in
    let same_entry : entry ≡ found.0 = is ∙ ap (λ (es : List Entry). get_or es at entry) same ∙ found.1.still entry in
    let awaits : waits_for name entry.emitted.awaits ≡ true = rw same_entry found.1.waits in
    let there : slice_get entries at ≡ Some entry = found.1.there ∙ ap (λ (e : Entry). Some e) (sym same_entry) in
    let link_there : slice_get (links_of entries) at ≡ Some (link_of entry) =
    slice_get-map link_of entries at ∙ ap (λ (o : Option Entry). option_map link_of o) there in
    let before : entry.before ≡ last_below name (links_of entries) at =
    linked.at at (link_of entry) link_there ∙ linked_to name (links_of entries) at entry.emitted.awaits awaits in
    let closed_is : record entry { word = word } ≡ closed name value entry = rw awaits (ap (λ (w : WordValue). record entry { word = w }) word_is) in
    let stepped : set now at (record entry { word = word }) ≡ map_from (closed name value) at entries =
    ap (λ (es : List Entry). set es at (record entry { word = word })) same
    ∙ ap (λ (e : Entry). set (map_from (closed name value) (suc at) entries) at e) (closed_is ∙ ap (λ (e : Entry). closed name value e) same_entry)
    ∙ found.1.put in
    record {
      items = stepped ∙ skip name value entries at ∙ ap (λ (o : Option ℕ). map_from (closed name value) (after_link o) entries) (sym before);
      there = rw before (last_waits name (links_of entries) at);
      smaller = let low : after_link entry.before ≤ at = rw before (last_is_below name (links_of entries) at) in omega arith;
    }

-- ---- a place where a word waits is in the list

waits_within : (name : Key) (links : List Link) (at : ℕ) → waits_at name links at ≡ true → at < length links
waits_within name [] zero waits = absurd (true≢false (sym waits))
waits_within name [] (suc at) waits = absurd (true≢false (sym waits))
waits_within name (link ∷ links) zero waits = omega arith
waits_within name (link ∷ links) (suc at) waits = let more = waits_within name links at waits in omega arith

length_map_from : (f : Entry → Entry) (n : ℕ) (entries : List Entry) → length (map_from f n entries) ≡ length entries
length_map_from f zero entries = length-map entries f
length_map_from f (suc n) [] = refl
length_map_from f (suc n) (entry ∷ entries) = ap suc (length_map_from f n entries)

pub within : (name : Key) (value : WordValue) (entries now : List Entry) (n at : ℕ) → now ≡ map_from (closed name value) n entries
    → waits_at name (links_of entries) at ≡ true → at < length now
within name value entries now n at same waits =
    let below : at < length (links_of entries) = waits_within name (links_of entries) at waits in
    let links : length (links_of entries) ≡ length entries = length-map entries link_of in
    let kept : length now ≡ length entries = ap length same ∙ length_map_from (closed name value) n entries in
    omega arith

-- ---- whether any word waits for a name

awaited_shift-step : (name : Key) (link : Link) (links : List Link) (n : ℕ) (b : Bool) → waits_at name links n ≡ b
    → is_some (last_below name (link ∷ links) (suc n)) ≡ (waits_for name link.0 || is_some (last_below name links n))
    → is_some (if b then Some (suc n) else last_below name (link ∷ links) (suc n))
    ≡ (waits_for name link.0 || is_some (if b then Some n else last_below name links n))
awaited_shift-step name link links n true is rest = either (waits_for name link.0)
  where
    either : (w : Bool) → true ≡ (w || true)
    either true = refl
    either false = refl
awaited_shift-step name link links n false is rest = rest

awaited_shift : (name : Key) (link : Link) (links : List Link) (n : ℕ)
    → is_some (last_below name (link ∷ links) (suc n)) ≡ (waits_for name link.0 || is_some (last_below name links n))
awaited_shift name link links zero = first (waits_for name link.0)
  where
    first : (w : Bool) → is_some {T = ℕ} (if w then Some zero else None) ≡ (w || false)
    first true = refl
    first false = refl
awaited_shift name link links (suc n) =
    awaited_shift-step name link links n (waits_at name links n) refl (awaited_shift name link links n)

pub awaited : (name : Key) (entries : List Entry)
    → is_some (last_below name (links_of entries) (length (links_of entries))) ≡ is_awaited name (emitted_of (map held_of entries))
awaited name [] = refl
awaited name (entry ∷ entries) =
    awaited_shift name (link_of entry) (links_of entries) (length (links_of entries))
    ∙ ap (λ (b : Bool). waits_for name entry.emitted.awaits || b) (awaited name entries)

waiting_prefix : (name : Key) (entries : List Entry)
    → position_or_len (λ entry. waits_for name entry.emitted.awaits) entries ≡ position_or_len (λ word. waits_for name word.awaits) (emitted_of (map held_of entries))
waiting_prefix name [] = refl
waiting_prefix name (entry ∷ entries) =
    ap (λ (n : ℕ). if not (waits_for name entry.emitted.awaits) then 1 + n else 0) (waiting_prefix name entries)

pub first_waiting : (name : Key) (entries : List Entry)
    → position (λ entry. waits_for name entry.emitted.awaits) entries ≡ first_wait name (emitted_of (map held_of entries))
first_waiting name entries =
    ap (λ (n : ℕ). if nat_lt n (length entries) then Some n else None) (waiting_prefix name entries)
    ∙ ap (λ (size : ℕ). if nat_lt (position_or_len (λ word. waits_for name word.awaits) (emitted_of (map held_of entries))) size
    then Some (position_or_len (λ word. waits_for name word.awaits) (emitted_of (map held_of entries))) else None)
    (sym (length-map (map held_of entries) (λ h. h.emitted) ∙ length-map entries held_of))

-- ---- the names in the order of first use

pub uses_of_links : (uses : List Key) (entries : List Entry)
    → uses_from uses (links_of entries) ≡ fold (λ done word. with_use done word.awaits) uses (emitted_of (map held_of entries))
uses_of_links uses [] = refl
uses_of_links uses (entry ∷ entries) = uses_of_links (with_use uses entry.emitted.awaits) entries

uses_push : (uses : List Key) (links : List Link) (link : Link) → uses_from uses (links ++ link ∷ []) ≡ with_use (uses_from uses links) link.0
uses_push uses [] link = refl
uses_push uses (first ∷ links) link = uses_push (with_use uses first.0) links link

-- ---- one word more

waits_push : (name : Key) (links : List Link) (link : Link) (i : ℕ) → i < length links → waits_at name (links ++ link ∷ []) i ≡ waits_at name links i
waits_push name [] link i below = absurd (omega arith)
waits_push name (first ∷ links) link zero below = refl
waits_push name (first ∷ links) link (suc i) below = waits_push name links link i (omega arith)

waits_last : (name : Key) (links : List Link) (link : Link) → waits_at name (links ++ link ∷ []) (length links) ≡ waits_for name link.0
waits_last name [] link = refl
waits_last name (first ∷ links) link = waits_last name links link

below_push : (name : Key) (links : List Link) (link : Link) (n : ℕ) → n ≤ length links → last_below name (links ++ link ∷ []) n ≡ last_below name links n
below_push name links link zero within = refl
below_push name links link (suc n) within =
    let rest : last_below name (links ++ link ∷ []) n ≡ last_below name links n = below_push name links link n (omega arith) in
    let here : waits_at name (links ++ link ∷ []) n ≡ waits_at name links n = waits_push name links link n (omega arith) in
    rw (here, rest) refl

before_push : (links : List Link) (link : Link) (n : ℕ) (awaits : Option Key) → n ≤ length links
    → before_of (links ++ link ∷ []) n awaits ≡ before_of links n awaits
before_push links link n None within = refl
before_push links link n (Some name) within = below_push name links link n within

at_push : (links : List Link) (link : Link) (i : ℕ) (x : Link) → slice_get (links ++ link ∷ []) i ≡ Some x
    → ((i < length links) × (slice_get links i ≡ Some x)) ⊎ ((i ≡ length links) × (x ≡ link))
at_push [] link zero x is = inr (refl, cc)
at_push [] link (suc i) x is = cc
at_push (first ∷ links) link zero x is = inl (omega arith, is)
at_push (first ∷ links) link (suc i) x is =
    elim (at_push links link i x is) [ inl h ↦ inl (omega arith, h.1) | inr h ↦ inr (ap suc h.0, h.1) ]

linked_push : (links : List Link) (link : Link) → IsLinked links → link.1 ≡ before_of links (length links) link.0 → IsLinked (links ++ link ∷ [])
linked_push links link linked is = record {
  at = λ i x there. elim (at_push links link i x there) [
    | inl h ↦ linked.at i x h.1 ∙ sym (before_push links link i x.0 (omega arith))
    | inr h ↦ let same : x.1 ≡ before_of links (length links) x.0 = rw h.1 is in
        rw h.0 (same ∙ sym (before_push links link (length links) x.0 (omega arith)))
  ];
}

lasts_push-step : (links : List Link) (link : Link) (old new : List (Key × ℕ)) (name : Key)
    → lookup (same_key name) old ≡ last_below name links (length links) → IsUsed old new link.0 (length links)
    → lookup (same_key name) new ≡ (if waits_for name link.0 then Some (length links) else last_below name links (length links))
lasts_push-step links (None, before) old new name is used = rw used is
lasts_push-step links (Some awaited, before) old new name is used =
    used.1 name ∙ rw (is, same_key_equivalence.symm awaited name) refl

lasts_push : (links : List Link) (link : Link) (old new : List (Key × ℕ)) (name : Key)
    → lookup (same_key name) old ≡ last_below name links (length links) → IsUsed old new link.0 (length links)
    → lookup (same_key name) new ≡ last_below name (links ++ link ∷ []) (length (links ++ link ∷ []))
lasts_push links link old new name is used =
    let size : length (links ++ link ∷ []) ≡ suc (length links) = length-append links (link ∷ []) ∙ add-one (length links) in
    let rest : last_below name (links ++ link ∷ []) (length links) ≡ last_below name links (length links) = below_push name links link (length links) (omega arith) in
    lasts_push-step links link old new name is used ∙ rw (size, waits_last name links link, rest) refl

uses_push_keys : (old new : List (Key × ℕ)) (awaits : Option Key) (at : ℕ) → IsUsed old new awaits at → keys_of new ≡ with_use (keys_of old) awaits
uses_push_keys old new None at used = ap keys_of used
uses_push_keys old new (Some name) at used = used.0

chained_push : (links : List Link) (link : Link) (old new : List (Key × ℕ)) → IsChained links old
    → link.1 ≡ before_of links (length links) link.0 → IsUsed old new link.0 (length links) → IsChained (links ++ link ∷ []) new
chained_push links link old new chained is used = record {
  linked = linked_push links link chained.linked is;
  lasts = λ name. lasts_push links link old new name (chained.lasts name) used;
  uses = uses_push_keys old new link.0 (length links) used ∙ ap (λ (done : List Key). with_use done link.0) chained.uses ∙ sym (uses_push [] links link);
}

last_use_is : (links : List Link) (last : List (Key × ℕ)) (awaits : Option Key) → IsChained links last
    → last_use last awaits ≡ before_of links (length links) awaits
last_use_is links last None chained = refl
last_use_is links last (Some name) chained = chained.lasts name

-- the words and the map of last uses after one word more
pub chained_with : (entries : List Entry) (entry : Entry) (old new : List (Key × ℕ)) → IsChained (links_of entries) old
    → entry.before ≡ last_use old entry.emitted.awaits → IsUsed old new entry.emitted.awaits (length entries)
    → IsChained (links_of (entries ++ entry ∷ [])) new
chained_with entries entry old new chained before used =
    let size : length (links_of entries) ≡ length entries = length-map entries link_of in
    let used_at : IsUsed old new entry.emitted.awaits (length (links_of entries)) = rw size used in
    rw (map-append link_of entries (entry ∷ []))
    (chained_push (links_of entries) (link_of entry) old new chained
    (before ∙ last_use_is (links_of entries) old entry.emitted.awaits chained) used_at)

-- ---- a name gets its value

link_closed : (name : Key) (value : WordValue) (entry : Entry) (b : Bool) → waits_for name entry.emitted.awaits ≡ b
    → link_of (closed name value entry) ≡ link_of entry
link_closed name value entry true is = rw is refl
link_closed name value entry false is = rw is refl

pub links_closed : (name : Key) (value : WordValue) (entries : List Entry) → links_of (map (closed name value) entries) ≡ links_of entries
links_closed name value [] = refl
links_closed name value (entry ∷ entries) =
    let first : link_of (closed name value entry) ≡ link_of entry = link_closed name value entry (waits_for name entry.emitted.awaits) refl in
    rw (first, links_closed name value entries) refl

held_closed-step : (name : Key) (value : WordValue) (entry : Entry) (b : Bool) → waits_for name entry.emitted.awaits ≡ b
    → held_of (closed name value entry) ≡ closed_held name value (held_of entry)
held_closed-step name value entry true is = rw is refl
held_closed-step name value entry false is = rw is refl

pub held_closed : (name : Key) (value : WordValue) (entries : List Entry)
    → map held_of (map (closed name value) entries) ≡ map (closed_held name value) (map held_of entries)
held_closed name value [] = refl
held_closed name value (entry ∷ entries) =
    let first : held_of (closed name value entry) ≡ closed_held name value (held_of entry) =
    held_closed-step name value entry (waits_for name entry.emitted.awaits) refl in
    rw (first, held_closed name value entries) refl

-- the last use of a name is there if a word waits for it
pub if_awaited : (name : Key) (entries : List Entry) (last : Option ℕ) (P : Type 0) → last ≡ last_below name (links_of entries) (length (links_of entries))
    → (IsTrue (is_awaited name (emitted_of (map held_of entries))) → P) → IfSome last (λ _. P)
if_awaited name entries last P is h =
    by last (sym (awaited name entries) ∙ ap is_some (sym is))
  where
    by : (o : Option ℕ) → is_awaited name (emitted_of (map held_of entries)) ≡ is_some o → IfSome o (λ _. P)
    by None e = tt
    by (Some i) e = h e

pub map_held : {A : Type 0} (f : Held → A) (entries : List Entry) → map f (map held_of entries) ≡ map (λ e. f (held_of e)) entries
map_held f [] = refl
map_held f (entry ∷ entries) = ap (λ xs. f (held_of entry) ∷ xs) (map_held f entries)

-- the name that is found at a number, among those that words wait for
pub use_in_order : (entries : List Entry) (last : List (Key × ℕ)) (i : ℕ) (held : List Held) (found : Option (Key × ℕ)) → IsChained (links_of entries) last
    → map held_of entries ≡ held → found ≡ slice_get last i
    → option_map (λ (e : Key × ℕ). e.0) found ≡ slice_get (first_uses (emitted_of held)) i
use_in_order entries last i held found chained is at =
    ap (option_map (λ (e : Key × ℕ). e.0)) at
    ∙ sym (slice_get-map (λ (e : Key × ℕ). e.0) last i)
    ∙ ap (λ (names : List Key). slice_get names i) (chained.uses ∙ uses_of_links [] entries)
    ∙ ap (λ (h : List Held). slice_get (first_uses (emitted_of h)) i) is
