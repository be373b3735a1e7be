-- How a shape is written: from E to E, N words each, base E, label F, .. links F, .. heads H, ..
use Rattle.std.specs.Prelude.{ℕ, ◌-◌, ◌==◌, ◌||◌, nat_lt, nat_le, ◌&&◌, Bool, true, false, ℤ, pos, negsuc, List, [], ◌∷◌, ◌++◌, codes, length, map, slice_index, take, Option, Some, None, is_none, Result, Ok, Err, if◌then◌else◌, find}
use Rattle.std.specs.List.{before_first}
use Rattle.std.specs.Option.{option_map, option_or}
use Rattle.std.specs.Str.{str_eq_ignore_ascii_case}
use Rattle.mix_lines.specs.Number.{decimal_number}
use Rattle.mix_word.specs.Word.{WordValue, number_of, natural_of}
use Rattle.mix_word.specs.Field.{FieldValue, field, field_of}
use Rattle.mixal_text.specs.Part.{is_open, is_close, is_comma, from_first}
use Rattle.mixal_text.specs.Address.{is_equals}
use Rattle.mixal_text.specs.Names.{NamesValue}
use Rattle.mixal_text.specs.Expression.{whole_expression}
use Rattle.mixal_text.specs.declared.misread.Misread.{Misread}
use Rattle.mix_nodes.specs.Shape.{ShapeValue}
use Rattle.mix_nodes.specs.declared.shape.FieldAt.{FieldAt}
use Rattle.mix_nodes.specs.declared.shape.HeadLink.{HeadLink}
use Rattle.mix_nodes.specs.declared.shape.HeadLink.TheVariants.{Literal, Cell, Register}
use Rattle.mix_word.specs.Register.{name_of_register}
use Rattle.mix_word.specs.declared.register.Reg.{Reg}
use Rattle.mix_nodes.specs.Nodes.{pointers}
use Rattle.mix_nodes.specs.declared.read.Region.{Region}
use Rattle.mix_nodes.specs.declared.read.Part.{Part}
use Rattle.mix_nodes.specs.declared.read.Part.TheVariants.{Base, Labels, Links, Heads}
use Rattle.mix_nodes.specs.declared.read.Reading.{Reading}

-- steps of which each may find nothing
infixl 10 ◌>>=◌
abbrev pub ◌>>=◌ : {A B : Type 0} → Option A → (A → Option B) → Option B
None >>= next = None
Some x >>= next = next x

-- ---- words

-- a word without the comma at its end, if it has one
abbrev pub without_comma : List ℕ → List ℕ
without_comma word = if is_comma (slice_index word (length word - 1)) then take (length word - 1) word else word

abbrev pub without_commas : List (List ℕ) → List (List ℕ)
without_commas words = map without_comma words

-- whether a word is a keyword, in capitals or small letters
abbrev pub is_keyword : List ℕ → List ℕ → Bool
is_keyword name word = str_eq_ignore_ascii_case word name

-- what follows a keyword
abbrev pub after_keyword : List ℕ → List (List ℕ) → Option (List (List ℕ))
after_keyword name [] = None
after_keyword name (word ∷ more) = if is_keyword name word then Some more else None

-- ---- the fixed beginning

abbrev pub value_or_none : Result WordValue Misread → Option WordValue
value_or_none (Ok value) = Some value
value_or_none (Err misread) = None

-- the number that an expression stands for
abbrev pub expression_in : NamesValue → WordValue → List ℕ → Option WordValue
expression_in names here text = value_or_none (whole_expression names here text)

abbrev pub cell_of_number : ℤ → Option ℕ
cell_of_number (pos n) = if nat_lt n 4000 then Some n else None
cell_of_number (negsuc n) = None

-- a cell, and the words after it
abbrev pub first_cell : NamesValue → WordValue → List (List ℕ) → Option (ℕ × List (List ℕ))
first_cell names here [] = None
first_cell names here (word ∷ more) = do
  value ← expression_in names here word
  cell ← cell_of_number (number_of value)
  Some (cell, more)

-- how many words a node has
abbrev pub size_of_number : Option ℕ → Option ℕ
size_of_number None = None
size_of_number (Some n) = if nat_lt 0 n && nat_le n 4000 then Some n else None

abbrev pub first_size : List (List ℕ) → Option (ℕ × List (List ℕ))
first_size [] = None
first_size (word ∷ more) = do
  size ← size_of_number (decimal_number word)
  Some (size, more)

abbrev pub region_between : ℕ → ℕ → ℕ → Option Region
region_between first last size = if nat_le first last then Some (record { first = first; last = last; size = size }) else None

-- from E to E, N words each
unfoldable pub first_region : NamesValue → WordValue → List (List ℕ) → Option (Region × List (List ℕ))
first_region names here words = do
  after_from ← after_keyword (codes "from") words
  first ← first_cell names here after_from
  after_to ← after_keyword (codes "to") first.1
  last ← first_cell names here after_to
  size ← first_size last.1
  after_words ← after_keyword (codes "words") size.1
  after_each ← after_keyword (codes "each") after_words
  region ← region_between first.0 last.0 size.0
  Some (region, after_each)

-- ---- fields and heads

-- the field of a code
abbrev pub field_of_code : Option ℕ → Option FieldValue
field_of_code None = None
field_of_code (Some code) = if nat_lt code 64 then field_of code else None

-- a text without its last byte, if that passes a test
abbrev pub before_last : (ℕ → Bool) → List ℕ → Option (List ℕ)
before_last test text = if test (slice_index text (length text - 1)) then Some (take (length text - 1) text) else None

-- a field in brackets, or the whole word where there are none
abbrev pub field_in_brackets : NamesValue → WordValue → List ℕ → Option FieldValue
field_in_brackets names here [] = Some (field 0 5)
field_in_brackets names here (bracket ∷ rest) = do
  text ← before_last is_close rest
  code ← expression_in names here text
  field_of_code (natural_of code)

-- E or E(L:R)
unfoldable pub field_named : NamesValue → WordValue → List ℕ → Option FieldAt
field_named names here text = do
  after ← expression_in names here (before_first is_open text)
  part ← field_in_brackets names here (from_first is_open text)
  Some (record { after = after; field = part })

-- =E=, which is a link itself, or a field or an index register that has one
abbrev pub literal_named : NamesValue → WordValue → List ℕ → Option HeadLink
literal_named names here rest = do
  text ← before_last is_equals rest
  value ← expression_in names here text
  Some (Literal value)

abbrev pub cell_named : NamesValue → WordValue → List ℕ → Option HeadLink
cell_named names here text = do
  f ← field_named names here text
  Some (Cell f)

-- an index register, by its name
abbrev pub pointer_named : List ℕ → Option Reg
pointer_named text = find (λ r. str_eq_ignore_ascii_case text (name_of_register r)) pointers

-- a symbol goes before the register of its name
abbrev pub held_named : NamesValue → WordValue → List ℕ → Option HeadLink
held_named names here text = option_or (cell_named names here text) (option_map Register (pointer_named text))

abbrev pub link_named : NamesValue → WordValue → List ℕ → Option HeadLink
link_named names here [] = held_named names here []
link_named names here (byte ∷ rest) = if is_equals byte then literal_named names here rest else held_named names here (byte ∷ rest)

-- ---- the lists

-- the keyword that begins a list
abbrev pub part_named : List ℕ → Option Part
part_named word =
    if is_keyword (codes "base") word then Some Base else
    if is_keyword (codes "label") word then Some Labels else
    if is_keyword (codes "links") word then Some Links else
    if is_keyword (codes "heads") word then Some Heads else None

-- a list with one item more; of each there are at most 8
abbrev pub with_one : {A : Type 0} → List A → A → Option (List A)
with_one items item = if nat_lt (length items) 8 then Some (items ++ item ∷ []) else None

-- a shape with one item more in a list; there is one base
abbrev pub with_item : NamesValue → WordValue → ShapeValue → Part → List ℕ → Option ShapeValue
with_item names here s Base word = do
  base ← expression_in names here word
  if is_none s.base then Some (record s { base = Some base }) else None
with_item names here s Labels word = do
  f ← field_named names here word
  labels ← with_one s.labels f
  Some (record s { labels = labels })
with_item names here s Links word = do
  f ← field_named names here word
  links ← with_one s.links f
  Some (record s { links = links })
with_item names here s Heads word = do
  link ← link_named names here word
  heads ← with_one s.heads (record { text = word; link = link })
  Some (record s { heads = heads })

abbrev pub reading : Option Part → Bool → ShapeValue → Reading
reading part is_empty s = record { shape = s; part = part; is_empty = is_empty }

-- what was read, and a keyword: the list before it has an item
abbrev pub with_keyword : Reading → Part → Option Reading
with_keyword r part = if r.is_empty then None else Some (reading (Some part) true r.shape)

-- what was read, and an item of the last list that was begun
abbrev pub with_word : NamesValue → WordValue → Reading → List ℕ → Option Part → Option Reading
with_word names here r word None = None
with_word names here r word (Some part) = do
  s ← with_item names here r.shape part word
  Some (reading r.part false s)

-- what was read, and one word more
abbrev pub read_word : NamesValue → WordValue → Reading → List ℕ → Option Part → Option Reading
read_word names here r word None = with_word names here r word r.part
read_word names here r word (Some part) = with_keyword r part

-- the last list has an item, and there is a link
abbrev pub read_shape : Reading → Option ShapeValue
read_shape r = if r.is_empty || length r.shape.links == 0 then None else Some r.shape

abbrev pub read_words : NamesValue → WordValue → Reading → List (List ℕ) → Option ShapeValue
read_words names here r [] = read_shape r
read_words names here r (word ∷ more) = do
  next ← read_word names here r word (part_named word)
  read_words names here next more

-- a shape of which no list was read
abbrev pub shape_in : Region → ShapeValue
shape_in r = record { first = r.first; last = r.last; size = r.size; base = None; labels = []; links = []; heads = [] }

-- the shape that words stand for, if they stand for one
unfoldable pub shape_of : NamesValue → WordValue → List (List ℕ) → Option ShapeValue
shape_of names here words = do
  region ← first_region names here (without_commas words)
  read_words names here (reading None false (shape_in region.0)) region.1
