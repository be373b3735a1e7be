-- An ordinary symbol (1.3.2): one to ten letters and digits, at least one of them a letter, and no local symbol.
use Rattle.std.specs.Prelude.{ℕ, Bool, ◌&&◌, ◌||◌, nat_le, List, length, Option, Some, None, is_none, if◌then◌else◌}
use Rattle.std.specs.List.{list_all, list_any}
use Rattle.std.specs.Char.{is_ascii_digit, is_ascii_uppercase}
use Rattle.std.specs.Str.{str_to_ascii_uppercase}
use Rattle.mixal_text.specs.Local.{local_of}

-- A to Z and 0 to 9
abbrev pub is_capital_or_digit : ℕ → Bool
is_capital_or_digit byte = is_ascii_uppercase byte || is_ascii_digit byte

-- whether a text in capitals is the name of an ordinary symbol
unfoldable pub is_ordinary : List ℕ → Bool
is_ordinary name =
    nat_le (length name) 10 && (list_all is_capital_or_digit name && (list_any is_ascii_uppercase name && is_none (local_of name)))

-- the ordinary symbol that a whole text is, by its name in capitals
unfoldable pub symbol_of : List ℕ → Option (List ℕ)
symbol_of text = if is_ordinary (str_to_ascii_uppercase text) then Some (str_to_ascii_uppercase text) else None
