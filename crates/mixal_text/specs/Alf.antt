-- ALF (1.3.2): a word of five characters, between quotation marks or at their place in the line.
use Rattle.std.specs.Prelude.{ℕ, ◌+◌, ◌*◌, ◌==◌, nat_le, Bool, List, [], ◌∷◌, ◌++◌, length, take, Some, codes, ok_or, Result, Ok, Err, if◌then◌else◌}
use Rattle.std.specs.List.{list_any, before_first}
use Rattle.mix_word.specs.Prelude.{WordValue, plus, character_code}
use Rattle.mix_lines.specs.Lines.{is_blank}
use Rattle.mixal_text.specs.declared.fault.TextFault.{TextFault}
use Rattle.mixal_text.specs.declared.fault.TextFault.TheVariants.{BadByte, BadAlf}
use Rattle.mixal_text.specs.Steps.{◌>>=◌}
use Rattle.mixal_text.specs.Words.{after_blanks}

-- a quotation mark
abbrev pub is_quote : ℕ → Bool
is_quote byte = byte == 34

-- the code of a character, where a tab counts as a blank
abbrev pub code_or_fault : ℕ → Result ℕ TextFault
code_or_fault byte = ok_or (if is_blank byte then Some 0 else character_code byte) BadByte

-- the first five characters of a text; what is missing is blank
abbrev pub five_of : List ℕ → List ℕ
five_of text = take 5 (text ++ codes "     ")

-- the word of five characters, one a byte
unfoldable pub word_of_five : List ℕ → Result WordValue TextFault
word_of_five (a ∷ b ∷ c ∷ d ∷ e ∷ []) = do
  first ← code_or_fault a
  second ← code_or_fault b
  third ← code_or_fault c
  fourth ← code_or_fault d
  fifth ← code_or_fault e
  Ok (plus ((((first * 64 + second) * 64 + third) * 64 + fourth) * 64 + fifth))
word_of_five _ = Err BadByte

-- the word of at most five characters
abbrev pub short_word : List ℕ → Result WordValue TextFault
short_word text = if nat_le (length text) 5 then word_of_five (five_of text) else Err BadAlf

-- what stands between quotation marks, by what follows the first
unfoldable pub quoted_word : List ℕ → Result WordValue TextFault
quoted_word text = if list_any is_quote text then short_word (before_first is_quote text) else Err BadAlf

-- where the five characters begin that are not quoted: after one blank if a nonblank follows it, and else after two.
-- The blank that ends OP is the first
abbrev pub alf_start : List ℕ → List ℕ
alf_start [] = []
alf_start (byte ∷ rest) = if is_blank byte then rest else byte ∷ rest

-- the word by the first nonblank byte, which may be a quotation mark
abbrev pub alf_from : List ℕ → List ℕ → Result WordValue TextFault
alf_from [] rest = word_of_five (five_of (alf_start rest))
alf_from (first ∷ text) rest =
    if is_quote first then quoted_word text else word_of_five (five_of (alf_start rest))

-- the word of ALF, by what stands after the blank that ends OP
unfoldable pub alf_word : List ℕ → Result WordValue TextFault
alf_word rest = alf_from (after_blanks rest) rest
