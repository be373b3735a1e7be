-- W-values (1.3.2): E1(F1),E2(F2),.. Each expression is put into its field of a word that is +0 at first, in turn.
use Rattle.std.specs.Prelude.{ℕ, ◌+◌, length, List, [], ◌∷◌, unwrap_or, Result, Ok}
use Rattle.std.specs.List.{slice_split, before_first}
use Rattle.mix_word.specs.Prelude.{WordValue, zero_word, field, field_of, put_field_of}
use Rattle.mixal_text.specs.declared.misread.Misread.{Misread}
use Rattle.mixal_text.specs.Steps.{◌>>=◌}
use Rattle.mixal_text.specs.Names.{NamesValue}
use Rattle.mixal_text.specs.Expression.{whole_at}
use Rattle.mixal_text.specs.Part.{is_open, is_comma, from_first, brackets_at}

-- a word into which one piece is put: an expression, and its field in brackets, or (0:5) where none is given
unfoldable pub put_piece : NamesValue → WordValue → ℕ → WordValue → List ℕ → Result WordValue Misread
put_piece names here place word piece = do
  value ← whole_at names here place (before_first is_open piece)
  part ← brackets_at field_of names here (place + length (before_first is_open piece)) (from_first is_open piece)
  Ok (put_field_of word (unwrap_or part (field 0 5)) value)

-- the pieces, between which stand commas
abbrev pub put_pieces : NamesValue → WordValue → ℕ → WordValue → List (List ℕ) → Result WordValue Misread
put_pieces names here place word [] = Ok word
put_pieces names here place word (piece ∷ more) = do
  next ← put_piece names here place word piece
  put_pieces names here (place + length piece + 1) next more

-- the word of a W-value
unfoldable pub w_value_of : NamesValue → WordValue → List ℕ → Result WordValue Misread
w_value_of names here text = put_pieces names here 0 zero_word (slice_split is_comma text)
