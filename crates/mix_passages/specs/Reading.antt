-- What follows `show passages`: `E of ITEM ..` or `line N of ITEM ..`, and after it `assert VALUE REL VALUE` or nothing. What cannot be read is none.
use Rattle.std.specs.Prelude.{ℕ, zero, suc, ◌+◌, ◌-◌, ◌==◌, ◌&&◌, ◌||◌, ℤ, pos, neg_ℤ, nat_le, nat_lt, Bool, List, [], ◌∷◌, ◌++◌, codes, drop, find, is_some, length, position, take, Option, None, Some, option_and_then, if◌then◌else◌}
use Rattle.std.specs.Option.{option_map, option_or}
use Rattle.std.specs.Result.{result_ok}
use Rattle.std.specs.Str.{str_eq_ignore_ascii_case}
use Rattle.mix_lines.specs.Number.{decimal_number}
use Rattle.mix_word.specs.Register.{all_registers, name_of_register}
use Rattle.mix_word.specs.Text.{location_text}
use Rattle.mix_word.specs.Word.{plus}
use Rattle.mix_word.specs.declared.register.Reg.{Reg}
use Rattle.mixal_text.specs.Symbol.{symbol_of}
use Rattle.mix_session.specs.Keyword.{is_name, keyword_named}
use Rattle.mix_session.specs.Names.{names_of}
use Rattle.mix_session.specs.Operand.{place_named}
use Rattle.mix_session.specs.Request.{line_place}
use Rattle.mix_session.specs.Session.{SessionState}
use Rattle.mix_session.specs.Timeline.{world_of}
use Rattle.mix_passages.specs.Assertion.{relation_name, all_relations}
use Rattle.mix_passages.specs.Passages.{ColumnValue, AssertionValue, PassagesValue}
use Rattle.mix_passages.specs.declared.asked.Item.{Item}
use Rattle.mix_passages.specs.declared.asked.Item.TheVariants.{Register, Cell}
use Rattle.mix_passages.specs.declared.asked.Relation.{Relation}
use Rattle.mix_passages.specs.declared.asked.Side.{Side}
use Rattle.mix_passages.specs.declared.asked.Side.TheVariants.{Number, Of}

-- ---- registers and cells

-- the cell that an expression names, in which the asterisk stands for the location
abbrev pub cell_in : SessionState → List ℕ → Option ℕ
cell_in s word = result_ok (place_named (names_of s.program) (plus (world_of s.timeline).loc) word)

-- whether a word is a symbol of the program that has a value
abbrev pub is_defined : SessionState → List ℕ → Bool
is_defined s word = is_some (option_and_then (names_of s.program).value (symbol_of word))

-- the register of a name
abbrev pub register_named : List ℕ → Option Reg
register_named word = find (λ r. str_eq_ignore_ascii_case word (name_of_register r)) all_registers

-- the register as the book writes it, with an r before its name
abbrev pub register_written : List ℕ → Option Reg
register_written [] = None
register_written (byte ∷ name) = if byte == 114 || byte == 82 then register_named name else None

-- the register that a word names: a symbol of the program is none, unless it is a register with its r
abbrev pub register_in : SessionState → List ℕ → Option Reg
register_in s word = option_or (register_written word) (if is_defined s word then None else register_named word)

-- what a word names: a register, or else a cell
abbrev pub item_in : SessionState → List ℕ → Option Item
item_in s word = option_or (option_map Register (register_in s word)) (option_map Cell (cell_in s word))

-- ---- columns

-- the column of a cell of a range, by its location
abbrev pub cell_column : ℕ → ColumnValue
cell_column p = record { name = location_text p; item = Cell p }

-- those of so many cells from one on
abbrev pub cell_columns : ℕ → ℕ → List ColumnValue
cell_columns p zero = []
cell_columns p (suc n) = cell_columns p n ++ cell_column (p + n) ∷ []

-- how many columns a table has at most
abbrev pub most_columns : ℕ
most_columns = 32

-- the columns of the cells from one to another
abbrev pub columns_between : ℕ → ℕ → Option (List ColumnValue)
columns_between p q = if nat_le p q && nat_lt (q - p) most_columns then Some (cell_columns p (q - p + 1)) else None

abbrev pub columns_from : SessionState → List ℕ → List ℕ → Option (List ColumnValue)
columns_from s first last = option_and_then (λ p. option_and_then (columns_between p) (cell_in s last)) (cell_in s first)

-- `E..E`, cut before its first full stop
abbrev pub columns_after : SessionState → List ℕ → List ℕ → Option (List ColumnValue)
columns_after s first (stop ∷ next ∷ last) = if next == 46 then columns_from s first last else None
columns_after s first (stop ∷ []) = None
columns_after s first [] = None

abbrev pub columns_cut : SessionState → List ℕ → Option ℕ → Option (List ColumnValue)
columns_cut s word None = option_map (λ item. record { name = word; item = item } ∷ []) (item_in s word)
columns_cut s word (Some at) = columns_after s (take at word) (drop at word)

-- the columns of one word: that of a register or a cell, by the word as it is; or those of a range of cells
abbrev pub columns_of : SessionState → List ℕ → Option (List ColumnValue)
columns_of s word = columns_cut s word (position (λ byte. byte == 46) word)

-- some columns, and others after them
abbrev pub joined : List ColumnValue → Option (List ColumnValue) → Option (List ColumnValue)
joined first others = option_map (λ more. first ++ more) others

-- the columns of some words, each of which has to name some
abbrev pub columns_of_all : SessionState → List (List ℕ) → Option (List ColumnValue)
columns_of_all s [] = Some []
columns_of_all s (word ∷ more) = option_and_then (λ first. joined first (columns_of_all s more)) (columns_of s word)

-- there is one at least, and not too many
abbrev pub fitting : List ColumnValue → Option (List ColumnValue)
fitting columns = if nat_lt 0 (length columns) && nat_le (length columns) most_columns then Some columns else None

-- the words up to `assert`, and those after it
abbrev pub before_assert : List (List ℕ) → List (List ℕ)
before_assert [] = []
before_assert (word ∷ more) = if is_name word (codes "assert") then [] else word ∷ before_assert more

abbrev pub after_assert : List (List ℕ) → Option (List (List ℕ))
after_assert [] = None
after_assert (word ∷ more) = if is_name word (codes "assert") then Some more else after_assert more

unfoldable pub columns_in : SessionState → List (List ℕ) → Option (List ColumnValue)
columns_in s words = option_and_then fitting (columns_of_all s (before_assert words))

-- ---- the assertion

-- a whole number in decimal digits, with a sign or without one
abbrev pub whole_number : List ℕ → Option ℤ
whole_number [] = None
whole_number (byte ∷ digits) =
    if byte == 43 then option_map pos (decimal_number digits)
    else if byte == 45 then option_map (λ n. neg_ℤ (pos n)) (decimal_number digits)
    else option_map pos (decimal_number (byte ∷ digits))

-- what stands on a side: a number, or else a register or a cell
abbrev pub side_in : SessionState → List ℕ → Option Side
side_in s word = option_or (option_map Number (whole_number word)) (option_map Of (item_in s word))

abbrev pub relation_in : List ℕ → Option Relation
relation_in word = keyword_named relation_name all_relations word

-- three words, with a blank between one and the next
abbrev pub three_words : List ℕ → List ℕ → List ℕ → List ℕ
three_words left relation right = left ++ codes " " ++ relation ++ codes " " ++ right

abbrev pub assertion_of : SessionState → List ℕ → List ℕ → List ℕ → Option AssertionValue
assertion_of s left relation right =
    option_and_then (λ l. option_and_then (λ rel. option_map (λ r. record { left = l; relation = rel; right = r; words = three_words left relation right })
    (side_in s right)) (relation_in relation)) (side_in s left)

-- `VALUE REL VALUE`
abbrev pub assertion_in : SessionState → List (List ℕ) → Option AssertionValue
assertion_in s [] = None
assertion_in s (left ∷ []) = None
assertion_in s (left ∷ relation ∷ []) = None
assertion_in s (left ∷ relation ∷ right ∷ []) = assertion_of s left relation right
assertion_in s (left ∷ relation ∷ right ∷ other ∷ more) = None

-- the assertion after `assert`, or none where there is no such word
abbrev pub assertion_after : SessionState → Option (List (List ℕ)) → Option (Option AssertionValue)
assertion_after s None = Some None
assertion_after s (Some words) = option_map (λ assertion. Some assertion) (assertion_in s words)

-- ---- the location, and all of it

-- the location before `of`, and the words after it
abbrev pub with_items : Option ℕ → List (List ℕ) → Option (ℕ × List (List ℕ))
with_items place words = option_map (λ p. (p, words)) place

-- the cell of the first word that the lines from one on give, as after `break line`
abbrev pub line_cell : SessionState → List ℕ → Option ℕ
line_cell s word = result_ok (line_place s.program (word ∷ []))

abbrev pub line_in : SessionState → List ℕ → List (List ℕ) → Option (ℕ × List (List ℕ))
line_in s number [] = None
line_in s number (word ∷ items) = if is_name word (codes "of") then with_items (line_cell s number) items else None

-- `E of ..`, `line N of ..`
abbrev pub place_in : SessionState → List (List ℕ) → Option (ℕ × List (List ℕ))
place_in s [] = None
place_in s (word ∷ []) = None
place_in s (word ∷ second ∷ items) =
    if is_name second (codes "of") then with_items (cell_in s word) items
    else if is_name word (codes "line") then line_in s second items
    else None

abbrev pub passages_at : SessionState → ℕ → List (List ℕ) → Option PassagesValue
passages_at s place items =
    option_and_then (λ columns. option_map (λ assertion. record { place = place; columns = columns; assertion = assertion })
    (assertion_after s (after_assert items))) (columns_in s items)

-- what words ask for
unfoldable pub passages_in : SessionState → List (List ℕ) → Option PassagesValue
passages_in s words = option_and_then (λ at. passages_at s at.0 at.1) (place_in s words)
