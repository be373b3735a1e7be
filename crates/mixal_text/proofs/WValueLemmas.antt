-- A W-value is read one piece after the other.
use Rattle.std.proofs.Common.{◌≡◌, refl, sym, ap, ◌∙◌, ℕ, ◌+◌, ◌-◌, ◌≤◌, List, ◌∷◌, Option, Some, None, Result, Ok, Err, length, arith}
use Rattle.std.specs.List.{slice_split}
use Rattle.mix_word.specs.Word.{WordValue}
use Rattle.mixal_text.specs.Prelude.{Misread, NamesValue, is_comma, pieces_of, length_with_one}
use Rattle.mixal_text.specs.WValue.{put_piece, put_pieces}

-- what the pieces that are left, if any are, of a text of so many bytes make of a word
abbrev pub left_of : NamesValue → WordValue → ℕ → WordValue → Option (List ℕ) → Result WordValue Misread
left_of names here n word None = Ok word
left_of names here n word (Some rest) = put_pieces names here (n - length rest) word (slice_split is_comma rest)

pub piece-refused : (names : NamesValue) (here : WordValue) (n : ℕ) (word : WordValue) (all : Result WordValue Misread) (pieces piece : List ℕ) (more : Option (List ℕ))
    → all ≡ left_of names here n word (Some pieces) → slice_split is_comma pieces ≡ piece ∷ pieces_of is_comma more
    → (misread : Misread) → Err misread ≡ put_piece names here (n - length pieces) word piece → Err misread ≡ all
piece-refused names here n word all pieces piece more now cut misread e = sym (now ∙ rw (cut, ← e) refl)

-- what is left after a piece
left-after : (names : NamesValue) (here : WordValue) (n : ℕ) (next : WordValue) (pieces piece : List ℕ) (more : Option (List ℕ))
    → length pieces ≤ n → length piece + length_with_one more ≡ length pieces
    → put_pieces names here (n - length pieces + length piece + 1) next (pieces_of is_comma more) ≡ left_of names here n next more
left-after names here n next pieces piece None most whole = refl
left-after names here n next pieces piece (Some rest) most whole =
    ap (λ (place : ℕ). put_pieces names here place next (slice_split is_comma rest)) (omega arith)
