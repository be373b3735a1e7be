-- The lines inserted before END, one at a time.
use Rattle.std.proofs.Common.{◌≡◌, ℕ, zero, suc, ◌+◌, ◌<◌, ◌||◌, Bool, true, false, List, [], ◌∷◌, ◌++◌, drop, Option, Some, None, refl, sym, ap, ◌∙◌, arith, add-one}
use Rattle.std.specs.Prelude.{slice_get, is_some, Result, Ok, Err, OnOk}
use Rattle.std.specs.Option.{option_or}
use Rattle.std.specs.List.{find}
use Rattle.mixal_asm.specs.Draft.{passes}
use Rattle.mix_refused.specs.declared.refused.Refused.{Refused}
use Rattle.mix_refused.specs.declared.refused.Refused.TheVariants.{Fault, Memory}
use Rattle.mix_refused.specs.Refused.{IfFault}
use Rattle.mix_word.specs.Word.{WordValue}
use Rattle.mixal_text.specs.declared.label.Label.{Label}
use Rattle.mixal_text.specs.declared.label.Label.TheVariants as label
use Rattle.mixal_asm.specs.Prelude.{AsmKind, Key, Name, Literal, same_key, same_key_decides, Before, NamesSoFar, value_of, is_taken}
use Rattle.mixal_asm.specs.Assembly.{is_own, literal_line, literal_lines, zero_line_for, zero_lines}
use Rattle.mixal_asm.proofs.TableLemmas.{lookup_push}

drop_here : {A : Type 0} (xs : List A) (i : ℕ) (x : A) → slice_get xs i ≡ Some x → drop i xs ≡ x ∷ drop (suc i) xs
drop_here [] i x is = absurd (nothing i is)
  where
    nothing : {A : Type 0} {x : A} (i : ℕ) → slice_get {X = A} [] i ≡ Some x → ⊥
    nothing zero is = cc
    nothing (suc i) is = cc
drop_here (y ∷ xs) zero x is = let same : y ≡ x = cc in ap (λ z. z ∷ xs) same
drop_here (y ∷ xs) (suc i) x is = drop_here xs i x is

pub drop_at : {A : Type 0} (xs : List A) (i : ℕ) (x : A) → slice_get xs i ≡ Some x → drop i xs ≡ x ∷ drop (i + 1) xs
drop_at xs i x is = drop_here xs i x is ∙ ap (λ (n : ℕ). x ∷ drop n xs) (sym (add-one i))

pub drop_past : {A : Type 0} (xs : List A) (i : ℕ) → slice_get xs i ≡ None → drop i xs ≡ []
drop_past [] zero is = refl
drop_past [] (suc i) is = refl
drop_past (x ∷ xs) zero is = cc
drop_past (x ∷ xs) (suc i) is = drop_past xs i is

drop_past_suc : {A : Type 0} (xs : List A) (i : ℕ) → slice_get xs i ≡ None → drop (suc i) xs ≡ []
drop_past_suc [] i is = refl
drop_past_suc (x ∷ xs) zero is = cc
drop_past_suc (x ∷ xs) (suc i) is = drop_past_suc xs i is

pub drop_past_more : {A : Type 0} (xs : List A) (i : ℕ) → slice_get xs i ≡ None → drop (i + 1) xs ≡ []
drop_past_more xs i is = ap (λ (n : ℕ). drop n xs) (add-one i) ∙ drop_past_suc xs i is

-- ---- literals

pub literal_step : (b : Before) (j : ℕ) (texts : List (List ℕ)) (text : List ℕ) (next : Before) → slice_get texts j ≡ Some text
    → literal_line b j text ≡ Ok next → literal_lines b j (drop j texts) ≡ literal_lines next (j + 1) (drop (j + 1) texts)
literal_step b j texts text next there is = rw (drop_at texts j text there, is) refl

pub literal_fault : (b : Before) (j : ℕ) (texts : List (List ℕ)) (text : List ℕ) (kind : AsmKind) → slice_get texts j ≡ Some text
    → literal_line b j text ≡ Err kind → literal_lines b j (drop j texts) ≡ Err kind
literal_fault b j texts text kind there is = rw (drop_at texts j text there, is) refl

pub literal_end : (b : Before) (j : ℕ) (texts : List (List ℕ)) → slice_get texts j ≡ None
    → literal_lines b j (drop j texts) ≡ literal_lines b (j + 1) (drop (j + 1) texts)
literal_end b j texts none = rw (drop_past texts j none, drop_past_more texts j none) refl

other_literal : (j k : ℕ) → j < k → (b : Bool) → same_key (Literal k) (Literal j) ≡ b → b ≡ false
other_literal j k below true is =
    let same : Literal k ≡ Literal j = (same_key_decides (Literal k) (Literal j)).0 is in
    let equal : k ≡ j = cc in
    absurd (omega arith)
other_literal j k below false is = refl

pub still_unplaced : (names now : NamesSoFar) (j k : ℕ) (value : WordValue) → j < k → now ≡ names ++ (Literal j, value) ∷ []
    → value_of names (Literal k) ≡ None → value_of now (Literal k) ≡ None
still_unplaced names now j k value below same none =
    ap (λ (ns : NamesSoFar). value_of ns (Literal k)) same ∙ lookup_push (same_key (Literal k)) names (Literal j) value
    ∙ rw (none, other_literal j k below (same_key (Literal k) (Literal j)) refl) refl

-- ---- undefined symbols

pub zero_step : (loc : Option Label) (b : Before) (names : List Key) (i : ℕ) (name : Key) (next : Before) → slice_get names i ≡ Some name
    → zero_line_for loc b name ≡ Ok next → zero_lines loc b (drop i names) ≡ zero_lines loc next (drop (i + 1) names)
zero_step loc b names i name next there is = rw (drop_at names i name there, is) refl

pub zero_fault : (loc : Option Label) (b : Before) (names : List Key) (i : ℕ) (name : Key) (kind : AsmKind) → slice_get names i ≡ Some name
    → zero_line_for loc b name ≡ Err kind → zero_lines loc b (drop i names) ≡ Err kind
zero_fault loc b names i name kind there is = rw (drop_at names i name there, is) refl

pub zero_end : (loc : Option Label) (b : Before) (names : List Key) (i : ℕ) → slice_get names i ≡ None
    → zero_lines loc b (drop i names) ≡ zero_lines loc b (drop (i + 1) names)
zero_end loc b names i none = rw (drop_past names i none, drop_past_more names i none) refl

-- a symbol that is not the LOC of END leaves that undefined
pub still_untaken : (names now : NamesSoFar) (loc : Option Label) (symbol : List ℕ) (value : WordValue) → is_own loc symbol ≡ false
    → now ≡ names ++ (Name symbol, value) ∷ [] → is_taken names loc ≡ false → is_taken now loc ≡ false
still_untaken names now None symbol value other same untaken = refl
still_untaken names now (Some (label.Local d)) symbol value other same untaken = refl
still_untaken names now (Some (label.Name name)) symbol value other same untaken =
    let none : value_of names (Name name) ≡ None = nothing_there (value_of names (Name name)) untaken in
    let apart : same_key (Name name) (Name symbol) ≡ false = other in
    let still : value_of now (Name name) ≡ None =
    ap (λ (ns : NamesSoFar). value_of ns (Name name)) same ∙ lookup_push (same_key (Name name)) names (Name symbol) value ∙ rw (none, apart) refl in
    rw still refl
  where
    nothing_there : (o : Option WordValue) → is_some o ≡ false → o ≡ None
    nothing_there None none = refl
    nothing_there (Some x) none = cc

pub second_false : (a b : Bool) → (a || b) ≡ false → b ≡ false
second_false true b is = cc
second_false false b is = is

-- ---- what is said of a fault, by what follows from it
pub IfFault-map : {T : Type 0} (result : Result T (Refused AsmKind)) (P Q : AsmKind → Type 0) → ((kind : AsmKind) → P kind → Q kind)
    → IfFault result P → IfFault result Q
IfFault-map (Ok x) P Q f h = tt
IfFault-map (Err (Fault kind)) P Q f h = f kind h
IfFault-map (Err Memory) P Q f h = tt

pub OnOk-map : {T E : Type 0} (result : Result T E) (P Q : Type 0) → (P → Q) → OnOk result P → OnOk result Q
OnOk-map (Ok x) P Q f h = f h
OnOk-map (Err e) P Q f h = tt

pub OnOk-map2 : {T E : Type 0} (result : Result T E) (P Q R : Type 0) → (P → Q → R) → OnOk result P → OnOk result Q → OnOk result R
OnOk-map2 (Ok x) P Q R f p q = f p q
OnOk-map2 (Err e) P Q R f p q = tt

-- a literal's place is the value of no symbol
pub same_symbols : (names now : NamesSoFar) (j : ℕ) (value : WordValue) (symbol : List ℕ) → now ≡ names ++ (Literal j, value) ∷ []
    → value_of now (Name symbol) ≡ value_of names (Name symbol)
same_symbols names now j value symbol same =
    ap (λ (ns : NamesSoFar). value_of ns (Name symbol)) same ∙ lookup_push (same_key (Name symbol)) names (Literal j) value
    ∙ keeps (value_of names (Name symbol))
  where
    keeps : (o : Option WordValue) → option_or o None ≡ o
    keeps None = refl
    keeps (Some x) = refl

pub taken_as_before : (names now : NamesSoFar) (loc : Option Label) → ((symbol : List ℕ) → value_of now (Name symbol) ≡ value_of names (Name symbol))
    → is_taken names loc ≡ false → is_taken now loc ≡ false
taken_as_before names now None same untaken = refl
taken_as_before names now (Some (label.Local d)) same untaken = refl
taken_as_before names now (Some (label.Name symbol)) same untaken = rw (same symbol) untaken

-- ---- a search from place to place

pub find_further : {A : Type 0} (test : A → Bool) (xs : List A) (i : ℕ) (o : Option A) → slice_get xs i ≡ o → passes test o ≡ false
    → find test (drop i xs) ≡ find test (drop (i + 1) xs)
find_further test xs i None is misses = rw (drop_past xs i is, drop_past_more xs i is) refl
find_further test xs i (Some x) is misses = rw (drop_at xs i x is, misses) refl

pub find_here : {A : Type 0} (test : A → Bool) (xs : List A) (i : ℕ) (o : Option A) → slice_get xs i ≡ o → passes test o ≡ true
    → find test (drop i xs) ≡ o
find_here test xs i None is hits = cc
find_here test xs i (Some x) is hits = rw (drop_at xs i x is, hits) refl
