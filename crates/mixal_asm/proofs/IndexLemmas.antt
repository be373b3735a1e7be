-- The index of a program after one item more, and what it leads to.
use Rattle.std.proofs.Common.{◌≡◌, ◌≢◌, ℕ, zero, suc, ◌+◌, ◌<◌, ◌≤◌, nat_eq, Bool, true, false, cond, if◌then◌else◌, List, [], ◌∷◌, ◌++◌, length, map, take, get_or, Option, Some, None, refl, sym, ap, ◌∙◌, arith}
use Rattle.std.specs.Prelude.{◌-◌, nat_le, nat_lt, slice_get, slice_index, slice_set, option_and_then, is_some}
use Rattle.std.specs.List.{filter_map, last_or}
use Rattle.std.specs.Map.{lookup}
use Rattle.std.specs.Option.{option_map, option_or}
use Rattle.std.specs.Str.{bytes_eq}
use Rattle.std.specs.Cmp.{unsigned_Decides}
use Rattle.std.specs.List.Sorted.{IsNonDecreasingBy}
use Rattle.std.proofs.lemmas.Bool.{le-leb, lt-leb, leb-true, ltb-true, ltb-false}
use Rattle.std.proofs.lemmas.Grind.{get_or-set_at}
use Rattle.std.proofs.lemmas.List.{take_more, length-set, get_or-set_other, get_or-map, length-map}
use Rattle.std.proofs.lemmas.List.Sorted.{IsNonDecreasingBy-push}
use Rattle.std.proofs.lemmas.Option.{slice_get_read, slice_get-get_or}
use Rattle.std.proofs.lemmas.Slice.Eq.{bytes_eq-Decides}
use Rattle.std.proofs.lemmas.List.Elements.{filter_map-append}
use Rattle.mix_word.specs.Word.{WordValue}
use Rattle.mixal_asm.specs.PassOne.{SourceValue, Line, OfLiteral, OfName, RowValue}
use Rattle.mixal_asm.specs.declared.row.Row.{Row}
use Rattle.mixal_asm.specs.Row.{source_value, row_value}
use Rattle.mixal_asm.specs.Source.{is_from, is_that, place_of, source_in, place_in, definition_in, definitions_in}
use Rattle.mixal_asm.specs.Index.{LeadsToLast, numbered, cell_of, is_later, place_from, IsFirstFrom, HasDefinitions}

or_none : {A : Type 0} (found : Option A) → option_or found None ≡ found
or_none None = refl
or_none (Some x) = refl

-- what one item more gives
filter_map_more : {A B : Type 0} (f : A → Option B) (items : List A) (i : ℕ) (item : A) → i < length items → item ≡ get_or items i item
    → filter_map f (take (i + 1) items) ≡ filter_map f (take i items) ++ filter_map f (item ∷ [])
filter_map_more f items i item below is =
    ap (filter_map f) (take_more items i item below) ∙ filter_map-append f (take i items) (get_or items i item ∷ [])
    ∙ ap (λ x. filter_map f (take i items) ++ filter_map f (x ∷ [])) (sym is)

last_or-append : {A : Type 0} (found : Option A) (xs ys : List A) → last_or found (xs ++ ys) ≡ last_or (last_or found xs) ys
last_or-append found [] ys = refl
last_or-append found (x ∷ xs) ys = last_or-append (Some x) xs ys

first-append : {A : Type 0} (xs ys : List A) → slice_get (xs ++ ys) 0 ≡ option_or (slice_get xs 0) (slice_get ys 0)
first-append [] ys = refl
first-append (x ∷ xs) ys = refl

pub lookup-append : {K X : Type 0} (test : K → Bool) (xs ys : List (K × X)) → lookup test (xs ++ ys) ≡ option_or (lookup test xs) (lookup test ys)
lookup-append test [] ys = refl
lookup-append test (entry ∷ xs) ys =
    let P : Bool → Type 0 = λ b.
    cond b (Some entry.1) (lookup test (xs ++ ys)) ≡ option_or (cond b (Some entry.1) (lookup test xs)) (lookup test ys) in
    elim (test entry.0) as P [ true ↦ refl | false ↦ lookup-append test xs ys ]

-- ---- by line

-- the place of a line from a number on, by the line and its place
numbered_from : (number : ℕ) (source : SourceValue) (place : Option ℕ)
    → (if is_from number source then place else None) ≡ option_and_then (place_from number) (numbered source place)
numbered_from number (Line n text) (Some p) = refl
numbered_from number (Line n text) None = let P : Bool → Type 0 = λ b. cond {A = Option ℕ} b None None ≡ None in elim (nat_le number n) as P [ true ↦ refl | false ↦ refl ]
numbered_from number (OfLiteral text) place = refl
numbered_from number (OfName symbol) place = refl

first_of : {A B : Type 0} (f : A → Option B) (x : A) → slice_get (filter_map f (x ∷ [])) 0 ≡ f x
first_of {A} {B} f x = let P : Option B → Type 0 = λ o. slice_get (filter_map (λ y. o) (x ∷ [])) 0 ≡ o in elim (f x) as P [ None ↦ refl | Some y ↦ refl ]

-- what a row adds to the first places
pub cell_step : (words : List (ℕ × WordValue)) (rows : List RowValue) (cells old : List (ℕ × ℕ)) (i : ℕ) (row : RowValue) (cell : ℕ × ℕ)
    → i < length rows → row ≡ get_or rows i row → cell_of words row ≡ Some cell → IsFirstFrom words (take i rows) old
    → ((number : ℕ) → slice_get (filter_map (place_from number) cells) 0 ≡ slice_get (filter_map (place_from number) (old ++ cell ∷ [])) 0)
    → IsFirstFrom words (take (i + 1) rows) cells
cell_step words rows cells old i row cell below is emits before same number =
    let one : slice_get (filter_map (place_in words number) (row ∷ [])) 0 ≡ slice_get (filter_map (place_from number) (cell ∷ [])) 0 =
    first_of (place_in words number) row ∙ numbered_from number row.source (place_of words row.shown)
    ∙ ap (option_and_then (place_from number)) emits ∙ sym (first_of (place_from number) cell) in
    let mine : slice_get (filter_map (place_from number) (old ++ cell ∷ [])) 0 ≡ option_or (slice_get (filter_map (place_from number) old) 0) (slice_get (filter_map (place_from number) (cell ∷ [])) 0) =
    ap (λ (xs : List ℕ). slice_get xs 0) (filter_map-append (place_from number) old (cell ∷ []))
    ∙ first-append (filter_map (place_from number) old) (filter_map (place_from number) (cell ∷ [])) in
    let due : slice_get (filter_map (place_in words number) (take (i + 1) rows)) 0 ≡ option_or (slice_get (filter_map (place_in words number) (take i rows)) 0) (slice_get (filter_map (place_in words number) (row ∷ [])) 0) =
    ap (λ (xs : List ℕ). slice_get xs 0) (filter_map_more (place_in words number) rows i row below is)
    ∙ first-append (filter_map (place_in words number) (take i rows)) (filter_map (place_in words number) (row ∷ [])) in
    same number ∙ mine
    ∙ ap (λ (o : Option ℕ). option_or o (slice_get (filter_map (place_from number) (cell ∷ [])) 0)) (before number)
    ∙ ap (λ (o : Option ℕ). option_or (slice_get (filter_map (place_in words number) (take i rows)) 0) o) (sym one) ∙ sym due

pub cell_passed : (words : List (ℕ × WordValue)) (rows : List RowValue) (cells : List (ℕ × ℕ)) (i : ℕ) (row : RowValue)
    → i < length rows → row ≡ get_or rows i row → cell_of words row ≡ None → IsFirstFrom words (take i rows) cells
    → IsFirstFrom words (take (i + 1) rows) cells
cell_passed words rows cells i row below is emits before number =
    let one : slice_get (filter_map (place_in words number) (row ∷ [])) 0 ≡ None =
    first_of (place_in words number) row ∙ numbered_from number row.source (place_of words row.shown) ∙ ap (option_and_then (place_from number)) emits in
    let due : slice_get (filter_map (place_in words number) (take (i + 1) rows)) 0 ≡ option_or (slice_get (filter_map (place_in words number) (take i rows)) 0) (slice_get (filter_map (place_in words number) (row ∷ [])) 0) =
    ap (λ (xs : List ℕ). slice_get xs 0) (filter_map_more (place_in words number) rows i row below is)
    ∙ first-append (filter_map (place_in words number) (take i rows)) (filter_map (place_in words number) (row ∷ [])) in
    before number ∙ sym (or_none (slice_get (filter_map (place_in words number) (take i rows)) 0))
    ∙ ap (λ (o : Option ℕ). option_or (slice_get (filter_map (place_in words number) (take i rows)) 0) o) (sym one) ∙ sym due

-- a line that is no later than another adds nothing to the first places
found_before-step : (number n p : ℕ) (cells : List (ℕ × ℕ)) (o : Option ℕ) (b : Bool) → nat_le number n ≡ b
    → option_or (slice_get (filter_map (place_from number) cells) 0) o ≡ slice_get (filter_map (place_from number) cells) 0
    → option_or (slice_get (filter_map (place_from number) ((n, p) ∷ cells)) 0) o ≡ slice_get (filter_map (place_from number) ((n, p) ∷ cells)) 0
found_before-step number n p cells o true is more = rw is refl
found_before-step number n p cells o false is more = rw is more

found_before : (number : ℕ) (cells : List (ℕ × ℕ)) (i n p : ℕ) (o : Option ℕ) → slice_get cells i ≡ Some (n, p) → nat_le number n ≡ true
    → option_or (slice_get (filter_map (place_from number) cells) 0) o ≡ slice_get (filter_map (place_from number) cells) 0
found_before number [] i n p o there from = cc
found_before number (cell ∷ cells) zero n p o there from =
    let same : cell ≡ (n, p) = cc in
    let from_cell : nat_le number cell.0 ≡ true = ap (λ (c : ℕ × ℕ). nat_le number c.0) same ∙ from in
    rw from_cell refl
found_before number (cell ∷ cells) (suc i) n p o there from =
    found_before-step number cell.0 cell.1 cells o (nat_le number cell.0) refl (found_before number cells i n p o there from)

earlier-step : (number line place n p : ℕ) (cells : List (ℕ × ℕ)) (i : ℕ) (b : Bool) → nat_le number line ≡ b → slice_get cells i ≡ Some (n, p) → line ≤ n
    → option_or (slice_get (filter_map (place_from number) cells) 0) (slice_get (filter_map (place_from number) ((line, place) ∷ [])) 0)
    ≡ slice_get (filter_map (place_from number) cells) 0
earlier-step number line place n p cells i true is there below =
    let from : number ≤ line = leb-true number line is in
    found_before number cells i n p (slice_get (filter_map (place_from number) ((line, place) ∷ [])) 0) there (le-leb number n (omega arith))
earlier-step number line place n p cells i false is there below =
    let none : slice_get (filter_map (place_from number) ((line, place) ∷ [])) 0 ≡ None = rw is refl in
    ap (λ (o : Option ℕ). option_or (slice_get (filter_map (place_from number) cells) 0) o) none ∙ or_none (slice_get (filter_map (place_from number) cells) 0)

pub earlier : (number line place n p : ℕ) (cells : List (ℕ × ℕ)) (i : ℕ) → slice_get cells i ≡ Some (n, p) → line ≤ n
    → slice_get (filter_map (place_from number) cells) 0 ≡ slice_get (filter_map (place_from number) (cells ++ (line, place) ∷ [])) 0
earlier number line place n p cells i there below =
    sym (ap (λ (xs : List ℕ). slice_get xs 0) (filter_map-append (place_from number) cells ((line, place) ∷ []))
    ∙ first-append (filter_map (place_from number) cells) (filter_map (place_from number) ((line, place) ∷ []))
    ∙ earlier-step number line place n p cells i (nat_le number line) refl there below)

-- where the lines from a number on begin, the first of them stands
pub first_at : (number : ℕ) (cells : List (ℕ × ℕ)) (i : ℕ)
    → ((k : ℕ) (d : ℕ × ℕ) → k < i → (get_or cells k d).0 < number) → ((k : ℕ) (d : ℕ × ℕ) → i ≤ k → k < length cells → number ≤ (get_or cells k d).0)
    → option_map (λ (cell : ℕ × ℕ). cell.1) (slice_get cells i) ≡ slice_get (filter_map (place_from number) cells) 0
first_at number [] i below from = refl
first_at number (cell ∷ cells) zero below from =
    let here : nat_le number cell.0 ≡ true = le-leb number cell.0 (from 0 cell (omega arith) (omega arith)) in
    rw here refl
first_at number (cell ∷ cells) (suc i) below from =
    let past : nat_le number cell.0 ≡ false = lt-leb number cell.0 (below 0 cell (omega arith)) in
    rw past (first_at number cells i (λ k d h. below (suc k) d (omega arith)) (λ k d h g. from (suc k) d (omega arith) (omega arith)))

-- ---- by place

pub noted : {A B : Type 0} (at : ℕ → A → Option B) (of : A → B) (items : List A) (i : ℕ) (item : A) (numbers new : List ℕ) (there : ℕ)
    → i < length items → item ≡ get_or items i item → ((place : ℕ) → at place item ≡ (if nat_eq there place then Some (of item) else None))
    → new ≡ slice_set numbers there i → LeadsToLast at of items (take i items) numbers → LeadsToLast at of items (take (i + 1) items) new
noted {A} {B} at of items i item numbers new there below is given put before place inside =
    ap (λ (ns : List ℕ). option_map of (slice_get items (slice_index ns place))) put
    ∙ step (nat_eq there place) refl
    ∙ sym (ap (last_or None) (filter_map_more (at place) items i item below is) ∙ last_or-append None (filter_map (at place) (take i items)) (filter_map (at place) (item ∷ [])))
  where
    within : place < length numbers
    within = let size : length new ≡ length numbers = ap (λ (ns : List ℕ). length ns) put ∙ length-set numbers there i in omega arith

    step : (b : Bool) → nat_eq there place ≡ b
        → option_map of (slice_get items (slice_index (slice_set numbers there i) place))
        ≡ last_or (last_or None (filter_map (at place) (take i items))) (filter_map (at place) (item ∷ []))
    step true same =
        let place_is : place ≡ there = sym ((unsigned_Decides there place).0 same) in
        let number : slice_index (slice_set numbers there i) place ≡ i = get_or-set_at numbers there place i 0 place_is (omega (arith, within)) in
        let got : slice_get items i ≡ Some item = slice_get_read items (length items) i item refl below is in
        let gives : at place item ≡ Some (of item) = rw (given place, same) refl in
        rw (number, got, gives) refl
    step false same =
        let other : place ≢ there = λ e. let clash = (unsigned_Decides there place).1 (sym e) in cc in
        let number : slice_index (slice_set numbers there i) place ≡ slice_index numbers place = get_or-set_other numbers there place i 0 other in
        let gives : at place item ≡ None = rw (given place, same) refl in
        rw (number, gives) (before place within)

pub passed : {A B : Type 0} (at : ℕ → A → Option B) (of : A → B) (items : List A) (i : ℕ) (item : A) (numbers : List ℕ)
    → i < length items → item ≡ get_or items i item → ((place : ℕ) → at place item ≡ None)
    → LeadsToLast at of items (take i items) numbers → LeadsToLast at of items (take (i + 1) items) numbers
passed at of items i item numbers below is given before place inside =
    let none : filter_map (at place) (item ∷ []) ≡ [] = rw (given place) refl in
    before place inside
    ∙ sym (ap (last_or None) (filter_map_more (at place) items i item below is) ∙ last_or-append None (filter_map (at place) (take i items)) (filter_map (at place) (item ∷ []))
    ∙ ap (last_or (last_or None (filter_map (at place) (take i items)))) none)

-- a row, among the rows as they are seen
row_there : (rows : List Row) (i : ℕ) (row : Row) → i < length rows → row ≡ get_or rows i row
    → (i < length (map row_value rows)) × (row_value row ≡ get_or (map row_value rows) i (row_value row))
row_there rows i row below is =
    let size : length (map row_value rows) ≡ length rows = length-map rows row_value in
    (omega arith, ap row_value is ∙ sym (get_or-map row_value rows i row (row_value row) below))

pub row_noted : (words : List (ℕ × WordValue)) (rows : List Row) (i : ℕ) (row : Row) (place : ℕ) (numbers new : List ℕ)
    → i < length rows → row ≡ get_or rows i row → place_of words row.shows ≡ Some place → new ≡ slice_set numbers place i
    → LeadsToLast (source_in words) (λ r. r.source) (map row_value rows) (take i (map row_value rows)) numbers
    → LeadsToLast (source_in words) (λ r. r.source) (map row_value rows) (take (i + 1) (map row_value rows)) new
row_noted words rows i row place numbers new below is there put before =
    let seen = row_there rows i row below is in
    noted (source_in words) (λ r. r.source) (map row_value rows) i (row_value row) numbers new place seen.0 seen.1
    (λ q. ap (λ (o : Option ℕ). if is_that q o then Some (source_value row.source) else None) there) put before

pub row_passed : (words : List (ℕ × WordValue)) (rows : List Row) (i : ℕ) (row : Row) (numbers : List ℕ)
    → i < length rows → row ≡ get_or rows i row → place_of words row.shows ≡ None
    → LeadsToLast (source_in words) (λ r. r.source) (map row_value rows) (take i (map row_value rows)) numbers
    → LeadsToLast (source_in words) (λ r. r.source) (map row_value rows) (take (i + 1) (map row_value rows)) numbers
row_passed words rows i row numbers below is there before =
    let seen = row_there rows i row below is in
    passed (source_in words) (λ r. r.source) (map row_value rows) i (row_value row) numbers seen.0 seen.1
    (λ q. ap (λ (o : Option ℕ). if is_that q o then Some (source_value row.source) else None) there) before

pub row_cell : (words : List (ℕ × WordValue)) (rows : List Row) (cells old : List (ℕ × ℕ)) (i : ℕ) (row : Row) (cell : ℕ × ℕ)
    → i < length rows → row ≡ get_or rows i row → cell_of words (row_value row) ≡ Some cell → IsFirstFrom words (take i (map row_value rows)) old
    → ((number : ℕ) → slice_get (filter_map (place_from number) cells) 0 ≡ slice_get (filter_map (place_from number) (old ++ cell ∷ [])) 0)
    → IsFirstFrom words (take (i + 1) (map row_value rows)) cells
row_cell words rows cells old i row cell below is emits before same =
    let seen = row_there rows i row below is in
    cell_step words (map row_value rows) cells old i (row_value row) cell seen.0 seen.1 emits before same

pub row_no_cell : (words : List (ℕ × WordValue)) (rows : List Row) (cells : List (ℕ × ℕ)) (i : ℕ) (row : Row)
    → i < length rows → row ≡ get_or rows i row → cell_of words (row_value row) ≡ None → IsFirstFrom words (take i (map row_value rows)) cells
    → IsFirstFrom words (take (i + 1) (map row_value rows)) cells
row_no_cell words rows cells i row below is emits before =
    let seen = row_there rows i row below is in
    cell_passed words (map row_value rows) cells i (row_value row) seen.0 seen.1 emits before

-- ---- by symbol

definitions_more : (rows : List RowValue) (i : ℕ) (row : RowValue) (symbol : List ℕ) → i < length rows → row ≡ get_or rows i row
    → lookup (bytes_eq symbol) (definitions_in (take (i + 1) rows))
    ≡ option_or (lookup (bytes_eq symbol) (definitions_in (take i rows))) (lookup (bytes_eq symbol) (definitions_in (row ∷ [])))
definitions_more rows i row symbol below is =
    ap (lookup (bytes_eq symbol)) (filter_map_more (λ (r : RowValue). definition_in r.source) rows i row below is)
    ∙ lookup-append (bytes_eq symbol) (definitions_in (take i rows)) (definitions_in (row ∷ []))

pub definition_step : (rows : List RowValue) (i : ℕ) (row : RowValue) (definition : List ℕ × ℕ) (old new : List (List ℕ × ℕ))
    → i < length rows → row ≡ get_or rows i row → definition_in row.source ≡ Some definition
    → ((symbol : List ℕ) → lookup (bytes_eq symbol) new ≡ lookup (bytes_eq symbol) (old ++ definition ∷ []))
    → HasDefinitions (take i rows) old → HasDefinitions (take (i + 1) rows) new
definition_step rows i row definition old new below is defines put before symbol =
    let one : definitions_in (row ∷ []) ≡ definition ∷ [] = rw defines refl in
    put symbol ∙ lookup-append (bytes_eq symbol) old (definition ∷ [])
    ∙ ap (λ (o : Option ℕ). option_or o (lookup (bytes_eq symbol) (definition ∷ []))) (before symbol)
    ∙ ap (λ (ds : List (List ℕ × ℕ)). option_or (lookup (bytes_eq symbol) (definitions_in (take i rows))) (lookup (bytes_eq symbol) ds)) (sym one)
    ∙ sym (definitions_more rows i row symbol below is)

pub definition_passed : (rows : List RowValue) (i : ℕ) (row : RowValue) (lines : List (List ℕ × ℕ))
    → i < length rows → row ≡ get_or rows i row → definition_in row.source ≡ None
    → HasDefinitions (take i rows) lines → HasDefinitions (take (i + 1) rows) lines
definition_passed rows i row lines below is none before symbol =
    let one : definitions_in (row ∷ []) ≡ [] = rw none refl in
    before symbol ∙ sym (or_none (lookup (bytes_eq symbol) (definitions_in (take i rows))))
    ∙ ap (λ (ds : List (List ℕ × ℕ)). option_or (lookup (bytes_eq symbol) (definitions_in (take i rows))) (lookup (bytes_eq symbol) ds)) (sym one)
    ∙ sym (definitions_more rows i row symbol below is)

-- a symbol that has a line keeps it
pub known : (lines : List (List ℕ × ℕ)) (symbol other : List ℕ) (number : ℕ) → is_some (lookup (bytes_eq symbol) lines) ≡ true
    → lookup (bytes_eq other) lines ≡ lookup (bytes_eq other) (lines ++ (symbol, number) ∷ [])
known lines symbol other number there =
    step (bytes_eq other symbol) refl ∙ sym (lookup-append (bytes_eq other) lines ((symbol, number) ∷ []))
  where
    kept : (o p : Option ℕ) → is_some o ≡ true → o ≡ option_or o p
    kept None p some = cc
    kept (Some x) p some = refl

    step : (b : Bool) → bytes_eq other symbol ≡ b
        → lookup (bytes_eq other) lines ≡ option_or (lookup (bytes_eq other) lines) (lookup (bytes_eq other) ((symbol, number) ∷ []))
    step true is =
        let same : other ≡ symbol = (bytes_eq-Decides other symbol).0 is in
        kept (lookup (bytes_eq other) lines) (lookup (bytes_eq other) ((symbol, number) ∷ [])) (ap (λ (s : List ℕ). is_some (lookup (bytes_eq s) lines)) same ∙ there)
    step false is = rw is (sym (or_none (lookup (bytes_eq other) lines)))

pub row_defines : (rows : List Row) (i : ℕ) (row : Row) (definition : List ℕ × ℕ) (old new : List (List ℕ × ℕ))
    → i < length rows → row ≡ get_or rows i row → definition_in (source_value row.source) ≡ Some definition
    → ((symbol : List ℕ) → lookup (bytes_eq symbol) new ≡ lookup (bytes_eq symbol) (old ++ definition ∷ []))
    → HasDefinitions (take i (map row_value rows)) old → HasDefinitions (take (i + 1) (map row_value rows)) new
row_defines rows i row definition old new below is defines put before =
    let seen = row_there rows i row below is in
    definition_step (map row_value rows) i (row_value row) definition old new seen.0 seen.1 defines put before

pub row_defines_none : (rows : List Row) (i : ℕ) (row : Row) (lines : List (List ℕ × ℕ))
    → i < length rows → row ≡ get_or rows i row → definition_in (source_value row.source) ≡ None
    → HasDefinitions (take i (map row_value rows)) lines → HasDefinitions (take (i + 1) (map row_value rows)) lines
row_defines_none rows i row lines below is none before =
    let seen = row_there rows i row below is in
    definition_passed (map row_value rows) i (row_value row) lines seen.0 seen.1 none before

-- a line that comes after the last of some that rise goes last
pub later_rises : (cells : List (ℕ × ℕ)) (cell : ℕ × ℕ) → IsNonDecreasingBy (λ c. c.0) cells
    → true ≡ is_later (slice_get cells (length cells - 1)) cell.0 → IsNonDecreasingBy (λ c. c.0) (cells ++ cell ∷ [])
later_rises cells cell rises later =
    IsNonDecreasingBy-push (λ c. c.0) cells cell rises
    (λ d some.
    let last : slice_get cells (length cells - 1) ≡ Some (get_or cells (length cells - 1) d) = slice_get-get_or cells (length cells - 1) d (omega arith) in
    let below : nat_lt (get_or cells (length cells - 1) d).0 cell.0 ≡ true = sym (later ∙ ap (λ (o : Option (ℕ × ℕ)). is_later o cell.0) last) in
    let lower : (get_or cells (length cells - 1) d).0 < cell.0 = ltb-true (get_or cells (length cells - 1) d).0 cell.0 below in
    omega arith)

-- one that does not is no earlier line's first
not_later-step : (cells : List (ℕ × ℕ)) (cell : ℕ × ℕ) (last : Option (ℕ × ℕ)) (i : ℕ) → slice_get cells i ≡ last → false ≡ is_later last cell.0
    → (number : ℕ) → slice_get (filter_map (place_from number) cells) 0 ≡ slice_get (filter_map (place_from number) (cells ++ cell ∷ [])) 0
not_later-step cells cell None i there later number = cc
not_later-step cells cell (Some last) i there later number =
    earlier number cell.0 cell.1 last.0 last.1 cells i there (ltb-false last.0 cell.0 (sym later))

pub not_later : (cells : List (ℕ × ℕ)) (cell : ℕ × ℕ) → false ≡ is_later (slice_get cells (length cells - 1)) cell.0
    → (number : ℕ) → slice_get (filter_map (place_from number) cells) 0 ≡ slice_get (filter_map (place_from number) (cells ++ cell ∷ [])) 0
not_later cells cell later = not_later-step cells cell (slice_get cells (length cells - 1)) (length cells - 1) refl later
