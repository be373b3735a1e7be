-- The name of an ordinary symbol is a text: its characters are letters and digits.
use Rattle.std.proofs.Common.{◌≡◌, ◌<◌, ℕ, zero, suc, true, List, [], ◌∷◌, arith, rules}
use Rattle.std.specs.Prelude.{IsTrue, IsUtf8}
use Rattle.std.specs.List.{list_all}
use Rattle.std.specs.Str.{IsAscii}
use Rattle.std.proofs.lemmas.Str.{IsUtf8-from_ascii}
use Rattle.mixal_text.specs.Symbol.{is_capital_or_digit, is_ordinary}

small : (byte : ℕ) → is_capital_or_digit byte ≡ true → byte < 128
small byte is = search rules

ascii : (name : List ℕ) → list_all is_capital_or_digit name ≡ true → IsAscii name
ascii [] all i = omega arith
ascii (byte ∷ rest) all zero = small byte (search rules)
ascii (byte ∷ rest) all (suc i) = ascii rest (search rules) i

characters : (name : List ℕ) → IsTrue (is_ordinary name) → list_all is_capital_or_digit name ≡ true
unfolding is_ordinary
characters name ordinary = search rules

pub ordinary_is_utf8 : (name : List ℕ) → IsTrue (is_ordinary name) → IsUtf8 name
ordinary_is_utf8 name ordinary = IsUtf8-from_ascii name (ascii name (characters name ordinary))
