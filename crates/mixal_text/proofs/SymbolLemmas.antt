-- A text of over ten bytes is no symbol.
use Rattle.std.proofs.Common.{◌≡◌, ℕ, ◌<◌, false, None, List, length, refl}
use Rattle.std.specs.Prelude.{nat_le}
use Rattle.std.specs.Str.{str_to_ascii_uppercase}
use Rattle.std.proofs.lemmas.Bool.{lt-leb}
use Rattle.std.proofs.lemmas.List.{length-map}
use Rattle.mixal_text.specs.Symbol.{is_ordinary, symbol_of}

pub long_text : (text : List ℕ) → 10 < length text → symbol_of text ≡ None
unfolding symbol_of is_ordinary
long_text text long =
    let over : nat_le (length (str_to_ascii_uppercase text)) 10 ≡ false = rw length-map (lt-leb _ _ long) in
    rw over refl
